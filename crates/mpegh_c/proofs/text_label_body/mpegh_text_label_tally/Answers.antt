-- `mpegh_c::text_label_body::mpegh_text_label_tally` meets its contract.
use Rattle.text_label.specs.Kind.{kind}
use Rattle.mpegh_c.proofs.Hosted.{tallies}
use Rattle.mpegh_c.proofs.text_label_body.mpegh_text_label_tally.Goals as goal

pub returns : goal.returns
returns c =
    tallies kind c.tally.ensures c.tallied_code.ensures
