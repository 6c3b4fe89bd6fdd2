-- What the functions that write a switch group promise: its bytes of fields, and its actions with those of its members.
use Rattle.std.specs.Prelude.{ℕ, ◌/◌, List, [], ◌∷◌, length}
use Rattle.wire.specs.Bits.{Field}
use Rattle.wire.specs.Act.{Act}
use Rattle.wire.specs.Layout.{broken_acts}
use Rattle.wire.specs.Spell.{fields_of}
use Rattle.pairs.specs.Write.{pair_acts}
use Rattle.switch_groups.specs.Layout.{switch_group}
use Rattle.switch_groups.specs.Rows.{switch_group_cols, id_cells, count_cells, default_cells}
use Rattle.switch_groups.specs.declared.rows.SwitchGroup.{SwitchGroup}

abbrev pub head_fields : SwitchGroup → List (List Field)
head_fields g = fields_of (switch_group_cols g) (id_cells ∷ count_cells ∷ [])

abbrev pub default_fields : SwitchGroup → List (List Field)
default_fields g = fields_of (switch_group_cols g) (default_cells ∷ [])

abbrev pub switch_group_acts : List ℕ → SwitchGroup → List Act
switch_group_acts u g = broken_acts switch_group (length u / 2) (pair_acts u) (switch_group_cols g)
