-- `language_at` takes the language that is there; of one that is not, the columns stay 0.
use Rattle.wire.proofs.Layouts.Straight.{taken_none}
use Rattle.wire.specs.Straight.{blanks}
use Rattle.scene_groups.specs.Layout.{language}
use Rattle.scene_groups.proofs.Groups.{language_there}
use Rattle.scene_groups.proofs.parsing.language_at.Goals as goal

pub returns-then-present-eq1 : goal.returns-then-present-eq1
returns-then-present-eq1 c = language_there _ _ c.if-present-eq1.true c.language_from.ensures

pub returns-else-present-eq1 : goal.returns-else-present-eq1
unfolding blanks
returns-else-present-eq1 c = rw c.absent.ensures (taken_none 23 3 language _ _ c.requires.1 c.if-present-eq1.false)
