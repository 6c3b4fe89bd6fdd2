-- `fill_position` stores the columns of a position that is there; of one that is not, it stores zeros.
use mathlib.Core.Path.{ap}
use Rattle.wire.specs.Straight.{blanks}
use Rattle.scene_groups.specs.Rows.{position_row}
use Rattle.scene_groups.proofs.Groups.{position_there, put_there, put_none}
use Rattle.scene_groups.proofs.parsing.fill_position.Goals as goal

pub returns-then-present-eq1 : goal.returns-then-present-eq1
returns-then-present-eq1 c =
    search (put_there, position_there, ap position_row c.position_from-p.ensures)

pub returns-else-present-eq1 : goal.returns-else-present-eq1
unfolding blanks
returns-else-present-eq1 c = search put_none
