-- `parsing::lower_at` meets its contract.
use Rattle.wire.specs.Straight.{blanks}
use Rattle.wire.proofs.Layouts.Straight.{taken_none}
use Rattle.target_loudness.specs.Layout.{lower}
use Rattle.target_loudness.proofs.Taken.{lower_there}
use Rattle.target_loudness.proofs.parsing.lower_at.Goals as goal

pub returns-then-present-eq1 : goal.returns-then-present-eq1
returns-then-present-eq1 c =
    rw (c.part.ensures, c.part-then-present-eq1.ensures, c.wide-b.ensures) (lower_there _ _ c.if-present-eq1.true)

pub returns-else-present-eq1 : goal.returns-else-present-eq1
unfolding blanks
returns-else-present-eq1 c =
    rw c.absent.ensures (taken_none 18 2 lower _ _ c.requires.1 c.if-present-eq1.false)
