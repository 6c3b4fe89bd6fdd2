-- `parsing::position_at` meets its contract.
use Rattle.wire.specs.Straight.{blanks}
use Rattle.wire.proofs.Layouts.Straight.{taken_none}
use Rattle.conditions.specs.Layout.{position}
use Rattle.conditions.proofs.Taken.{position_there}
use Rattle.conditions.proofs.parsing.position_at.Goals as goal

pub returns-then-present-eq1 : goal.returns-then-present-eq1
returns-then-present-eq1 c =
    position_there _ _ c.if-present-eq1.true c.position_from.ensures

pub returns-else-present-eq1 : goal.returns-else-present-eq1
unfolding blanks
returns-else-present-eq1 c =
    rw c.absent.ensures (taken_none 7 5 position _ _ c.requires.1 c.if-present-eq1.false)
