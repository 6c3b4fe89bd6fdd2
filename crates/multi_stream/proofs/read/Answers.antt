-- `multi_stream::read` meets its contract: the measure, the room, the filled table and the record.
use mathlib.Core.List.{[], ◌∷◌}
use Rattle.wire.proofs.Handed.{handed}
use Rattle.frame.proofs.Entries.{reads_unmeasured, reads_filled}
use Rattle.frame.proofs.Tables.{reads_lowest}
use Rattle.multi_stream.specs.Kind.{kind}
use Rattle.multi_stream.proofs.Sighted.{room_so, has_room}
use Rattle.multi_stream.proofs.read.Goals as goal

pub fill-requires : goal.fill-requires
fill-requires c = (c.in_ok-s.ensures, (has_room _ _ c.in_ok-and_table.ensures).1)

pub returns-in_err-s : goal.returns-in_err-s
returns-in_err-s c = rw (handed c.from_residual.result c.from_residual.ensures.1) (reads_unmeasured kind _ c.in_err-s.ensures _)

pub returns-in_err-and_table : goal.returns-in_err-and_table
returns-in_err-and_table c =
    rw (handed c.from_residual-in_err-and_table.result c.from_residual-in_err-and_table.ensures.1)
    (reads_lowest kind _ c.in_ok-s.ensures (c.args.groups.now ∷ []) (room_so _ _ c.in_err-and_table.ensures))

pub returns : goal.returns
returns c = reads_filled kind _ c.in_ok-s.ensures _ _ (has_room _ _ c.in_ok-and_table.ensures).0 c.fill.ensures c.record_at.ensures
