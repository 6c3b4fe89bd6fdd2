-- `scene::parsing::count_at` meets its contract.
use Rattle.scene.proofs.Sections.{byte_there, count_there, count_absent}
use Rattle.scene.proofs.parsing.count_at.Goals as goal

pub bounds-body-at : goal.bounds-body-at
bounds-body-at c =
    byte_there _ _ _ c.if-flag-eq1.true c.requires.0

pub returns-then-flag-eq1 : goal.returns-then-flag-eq1
returns-then-flag-eq1 c =
    count_there _ _ _ _ c.if-flag-eq1.true c.wide.ensures c.part.ensures

pub returns-else-flag-eq1 : goal.returns-else-flag-eq1
returns-else-flag-eq1 c =
    count_absent _ _ _ _ c.if-flag-eq1.false
