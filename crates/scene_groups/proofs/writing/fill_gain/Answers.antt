-- `fill_gain` stores the bytes of a gain that is there.
use mathlib.Core.Path.{◌∙◌}
use Rattle.scene_groups.specs.Rows.{gain_of}
use Rattle.scene_groups.specs.Write.{gain_fields}
use Rattle.scene_groups.proofs.Writes.{filled_absent}
use Rattle.scene_groups.proofs.writing.fill_gain.Goals as goal

pub returns-else-column-eq1 : goal.returns-else-column-eq1
returns-else-column-eq1 c =
    let s = c.args in filled_absent (gain_fields (gain_of s.groups.now s.b))
    (λ x. c.if-column-eq1.false (c.column.ensures ∙ x))
