-- The code's answers as the specification's: document 01's numbers and values.
use Rattle.std.specs.Prelude.{Result}
use Rattle.frame.specs.Numbers.{Answer, answer_as}
use Rattle.frame.specs.Entry as E
use Rattle.frame.specs.declared.Refusal.{Refusal}
use Rattle.scene_kind.specs.Rows.{needed}
use Rattle.scene.specs.declared.Sizes.{Sizes}

abbrev pub sized : Sizes → E.Sizes
sized s = record { tables = needed s.groups s.switch_groups s.members s.presets s.conditions; before = s.k }

abbrev pub measured : Result Sizes Refusal → Answer E.Sizes
measured r = answer_as sized r
