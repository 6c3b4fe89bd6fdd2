-- `fill_gain` stores the columns of a gain that is there; of one that is not, it stores zeros.
use mathlib.Core.Path.{ap}
use Rattle.wire.specs.Straight.{blanks}
use Rattle.scene_groups.specs.Rows.{gain_row}
use Rattle.scene_groups.proofs.Groups.{gain_there, put_there, put_none}
use Rattle.scene_groups.proofs.parsing.fill_gain.Goals as goal

pub returns-then-present-eq1 : goal.returns-then-present-eq1
returns-then-present-eq1 c =
    search (put_there, gain_there, ap gain_row c.gain_from-g.ensures)

pub returns-else-present-eq1 : goal.returns-else-present-eq1
unfolding blanks
returns-else-present-eq1 c = search put_none
