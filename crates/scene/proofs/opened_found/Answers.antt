-- `scene::opened_found` meets its contract: the lowest table that is short, else the rows.
use Rattle.wire.proofs.Handed.{handed}
use Rattle.frame.proofs.Tables.{reads_lowest, all_roomy, filled_opens}
use Rattle.scene_kind.specs.Kind.{kind}
use Rattle.scene.proofs.opened_found.Goals as goal

pub fill-requires : goal.fill-requires
fill-requires c = (c.requires.0, c.requires.1, all_roomy kind _ c.sizes_at-s.ensures _ c.in_ok-room.ensures)

pub returns-in_err-room : goal.returns-in_err-room
returns-in_err-room c = rw (handed c.from_residual.result c.from_residual.ensures.1) (record { gives = reads_lowest kind _ c.sizes_at-s.ensures _ c.in_err-room.ensures })

pub returns : goal.returns
returns c = record { gives = filled_opens kind _ c.sizes_at-s.ensures _ c.in_ok-room.ensures c.requires.0 c.fill.ensures }
