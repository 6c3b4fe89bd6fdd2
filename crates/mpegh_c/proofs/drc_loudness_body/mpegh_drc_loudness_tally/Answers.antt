-- `mpegh_c::drc_loudness_body::mpegh_drc_loudness_tally` meets its contract.
use Rattle.drc_kind.specs.Kind.{kind}
use Rattle.mpegh_c.proofs.Hosted.{tallies}
use Rattle.mpegh_c.proofs.drc_loudness_body.mpegh_drc_loudness_tally.Goals as goal

pub returns : goal.returns
returns c =
    tallies kind c.tally.ensures c.tallied_code.ensures
