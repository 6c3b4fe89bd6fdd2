-- What the functions that write a group promise: its bytes, its flags, what follows from isInMainStream, and its actions.
use Rattle.std.specs.Prelude.{ℕ, List, [], ◌∷◌, map, Bool, true, ◌&&◌, get_or, eqb}
use Rattle.wire.specs.Bits.{Field, is_flag}
use Rattle.wire.specs.Act.{Act, byte, when, pick}
use Rattle.wire.specs.Layout.{Columns, at, field_of, flat_acts}
use Rattle.wire.specs.Straight.{part_from}
use Rattle.stream_groups.specs.Layout.{group}
use Rattle.stream_groups.specs.Rows.{auxiliary_row, group_cols, group_cells, location_cells}
use Rattle.stream_groups.specs.declared.rows.Auxiliary.{Auxiliary}
use Rattle.stream_groups.specs.declared.rows.MultiStreamGroup.{MultiStreamGroup}

abbrev pub group_byte : MultiStreamGroup → List Field
group_byte g = map (field_of (group_cols g)) group_cells

abbrev pub location_byte : Auxiliary → List Field
location_byte a = map (field_of (part_from 2 (auxiliary_row a))) location_cells

-- isInTS counts only where the location is there
abbrev pub flags_of : Columns → Bool
flags_of g = is_flag (g 1) && (is_flag (g 2) && pick (eqb (g 2) 1) (is_flag (g 3)) true)

-- the location is there exactly outside the main stream
abbrev pub placed_once : Columns → Bool
placed_once g = eqb (g 2) (get_or (1 ∷ 0 ∷ []) (g 1) 0)

abbrev pub location_part : Auxiliary → List Act
location_part a = when (eqb a.present 1) (byte (location_byte a) ∷ [])

abbrev pub group_acts : MultiStreamGroup → List Act
group_acts g = flat_acts group (group_cols g)

-- row i of table 8
abbrev pub row_acts : List ℕ → ℕ → List Act
row_acts t i = flat_acts group (at 5 t i)
