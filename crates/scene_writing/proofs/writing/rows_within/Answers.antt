-- `scene_writing::writing::rows_within` meets its contract.
use Rattle.wire.proofs.Writing.Parts.{within_there, within_absent}
use Rattle.scene_writing.proofs.writing.rows_within.Goals as goal

pub returns-then-s : goal.returns-then-s
returns-then-s c =
    within_there _ _ _ _ c.if-s.true c.has_rows.ensures

pub returns-else-s : goal.returns-else-s
returns-else-s c =
    within_absent _ _ _ _ c.if-s.false
