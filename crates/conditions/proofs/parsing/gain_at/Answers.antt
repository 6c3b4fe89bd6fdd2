-- `parsing::gain_at` meets its contract.
use Rattle.wire.specs.Straight.{blanks}
use Rattle.wire.proofs.Layouts.Straight.{taken_none}
use Rattle.conditions.specs.Rows.{gain}
use Rattle.conditions.proofs.Taken.{gain_there}
use Rattle.conditions.proofs.parsing.gain_at.Goals as goal

pub returns-then-present-eq1 : goal.returns-then-present-eq1
returns-then-present-eq1 c =
    rw (c.new.ensures, c.part.ensures, c.wide.ensures) (gain_there _ _ c.if-present-eq1.true)

pub returns-else-present-eq1 : goal.returns-else-present-eq1
unfolding blanks
returns-else-present-eq1 c =
    rw c.absent.ensures (taken_none 5 1 gain _ _ c.requires.1 c.if-present-eq1.false)
