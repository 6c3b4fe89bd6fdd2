-- `mpegh_c::scene_body::mpegh_scene_write` meets its contract.
use Rattle.scene_kind.specs.Kind.{kind}
use Rattle.mpegh_c.proofs.Hosted.{writes}
use Rattle.mpegh_c.proofs.scene_body.mpegh_scene_write.Goals as goal

pub returns : goal.returns
returns c =
    writes kind c.write.ensures c.written_code.ensures
