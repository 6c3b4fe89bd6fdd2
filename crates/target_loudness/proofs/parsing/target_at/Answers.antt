-- `parsing::target_at` meets its contract.
use Rattle.wire.specs.Straight.{blanks}
use Rattle.wire.proofs.Layouts.Straight.{taken_none, size_there}
use Rattle.target_loudness.specs.Layout.{target}
use Rattle.target_loudness.proofs.parsing.target_at.Goals as goal

pub target_from-requires : goal.target_from-requires
target_from-requires c =
    size_there _ _ _ _ c.if-present-eq1.true c.requires.0

pub returns-then-present-eq1 : goal.returns-then-present-eq1
returns-then-present-eq1 c =
    rw c.if-present-eq1.true c.target_from.ensures

pub returns-else-present-eq1 : goal.returns-else-present-eq1
unfolding blanks
returns-else-present-eq1 c =
    rw c.absent.ensures (taken_none 15 8 target _ _ c.requires.1 c.if-present-eq1.false)
