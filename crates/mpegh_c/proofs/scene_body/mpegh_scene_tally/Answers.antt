-- `mpegh_c::scene_body::mpegh_scene_tally` meets its contract.
use Rattle.scene_kind.specs.Kind.{kind}
use Rattle.mpegh_c.proofs.Hosted.{tallies}
use Rattle.mpegh_c.proofs.scene_body.mpegh_scene_tally.Goals as goal

pub returns : goal.returns
returns c =
    tallies kind c.tally.ensures c.tallied_code.ensures
