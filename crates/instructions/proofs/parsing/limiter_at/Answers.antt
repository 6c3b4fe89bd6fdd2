-- `parsing::limiter_at` meets its contract.
use Rattle.wire.specs.Straight.{blanks}
use Rattle.wire.proofs.Layouts.Straight.{taken_none}
use Rattle.instructions.specs.Layout.{limiter}
use Rattle.instructions.proofs.Taken.{limiter_there}
use Rattle.instructions.proofs.parsing.limiter_at.Goals as goal

pub returns-then-present-eq1 : goal.returns-then-present-eq1
returns-then-present-eq1 c =
    rw (c.new.ensures, c.part.ensures, c.wide.ensures) (search limiter_there)

pub returns-else-present-eq1 : goal.returns-else-present-eq1
unfolding blanks
returns-else-present-eq1 c =
    rw c.absent.ensures (taken_none 13 1 limiter _ _ c.requires.1 c.if-present-eq1.false)
