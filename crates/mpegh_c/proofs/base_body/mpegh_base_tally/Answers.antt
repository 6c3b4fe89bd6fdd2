-- `mpegh_c::base_body::mpegh_base_tally` meets its contract.
use Rattle.base.specs.Kind.{kind}
use Rattle.mpegh_c.proofs.Hosted.{tallies}
use Rattle.mpegh_c.proofs.base_body.mpegh_base_tally.Goals as goal

pub returns : goal.returns
returns c =
    tallies kind c.tally.ensures c.tallied_code.ensures
