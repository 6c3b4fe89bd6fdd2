-- `multi_stream::writing::groups_within` meets its contract.
use Rattle.wire.proofs.Writing.Parts.{within_there, within_absent}
use Rattle.multi_stream.proofs.writing.groups_within.Goals as goal

pub returns-then-main : goal.returns-then-main
returns-then-main c =
    within_there _ _ _ _ c.if-main.true c.has_rows.ensures

pub returns-else-main : goal.returns-else-main
returns-else-main c =
    within_absent _ _ _ _ c.if-main.false
