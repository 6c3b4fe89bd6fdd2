-- `fill_language` stores the columns of a language that is there; of one that is not, it stores zeros.
use mathlib.Core.Path.{ap}
use Rattle.wire.specs.Straight.{blanks}
use Rattle.scene_groups.specs.Rows.{language_row}
use Rattle.scene_groups.proofs.Groups.{language_there, put_there, put_none}
use Rattle.scene_groups.proofs.parsing.fill_language.Goals as goal

pub returns-then-present-eq1 : goal.returns-then-present-eq1
returns-then-present-eq1 c =
    search (put_there, language_there, ap language_row c.language_from-l.ensures)

pub returns-else-present-eq1 : goal.returns-else-present-eq1
unfolding blanks
returns-else-present-eq1 c = search put_none
