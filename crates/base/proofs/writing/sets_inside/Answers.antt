-- `base::writing::sets_inside` meets its contract.
use Rattle.base.proofs.writing.sets_inside.Goals as goal

pub returns-then-sets : goal.returns-then-sets
returns-then-sets c = rw c.if-sets.true c.in_store.ensures

pub returns-else-sets : goal.returns-else-sets
returns-else-sets c = rw c.if-sets.false
