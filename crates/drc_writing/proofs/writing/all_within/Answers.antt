-- `drc_writing::writing::all_within` meets its contract.
use Rattle.drc_writing.proofs.Writes.{all_there, none_there}
use Rattle.drc_writing.proofs.writing.all_within.Goals as goal

pub returns-then-i : goal.returns-then-i
returns-then-i c =
    all_there _ _ _ _ c.if-i.true c.has_rows-a.ensures
    c.has_rows-b.ensures c.has_rows.ensures

pub returns-else-i : goal.returns-else-i
returns-else-i c =
    none_there _ _ _ _ c.if-i.false
