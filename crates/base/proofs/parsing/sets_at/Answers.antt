-- `base::parsing::sets_at` meets its contract: the fourth byte is there.
use Rattle.base.proofs.Parsed.{count_there, sets_listed, sets_absent}
use Rattle.base.proofs.parsing.sets_at.Goals as goal

pub bounds-body-3 : goal.bounds-body-3
bounds-body-3 c =
    count_there _ (rw c.if-absent.false at c.requires)

pub returns-then-absent : goal.returns-then-absent
returns-then-absent c =
    rw (c.if-absent.true, c.absent.ensures) (sets_absent _)

pub returns-else-absent : goal.returns-else-absent
returns-else-absent c =
    rw (c.if-absent.false, c.listed.ensures) (sets_listed _ (rw c.if-absent.false at c.requires)
    c.wide.ensures)
