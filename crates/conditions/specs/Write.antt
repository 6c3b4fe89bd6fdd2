-- What the functions that write a condition promise: the bytes of its parts, its flags, its actions.
use Rattle.std.specs.Prelude.{ℕ, ◌+◌, ◌*◌, List, [], ◌∷◌, ◌++◌, map, Bool, true, ◌&&◌, eqb}
use Rattle.wire.specs.Bits.{Field, is_flag}
use Rattle.wire.specs.Act.{Act, byte, when, pick}
use Rattle.wire.specs.Layout.{Columns, at, flat_acts}
use Rattle.wire.specs.Spell.{fields_of, fit_all}
use Rattle.wire.specs.Straight.{part_from}
use Rattle.conditions.specs.Layout.{condition}
use Rattle.conditions.specs.Rows.{condition_cols, condition_of, detail_row, position_row, flag_cells, gain_cells, position_cells}
use Rattle.conditions.specs.declared.rows.PresetPosition.{PresetPosition}
use Rattle.conditions.specs.declared.rows.PresetConditionDetail.{PresetConditionDetail}
use Rattle.conditions.specs.declared.rows.PresetCondition.{PresetCondition}

abbrev pub detail_cols : PresetConditionDetail → Columns
detail_cols d = part_from 1 (detail_row d)

abbrev pub position_fields : PresetPosition → List (List Field)
position_fields p = fields_of (part_from 7 (position_row p)) position_cells

-- all its flags are 0 or 1; of a detail that is not there only its own
abbrev pub flags_of : Columns → Bool
flags_of g = is_flag (g 1) && pick (eqb (g 1) 1) (is_flag (g 3) && (is_flag (g 5) && (is_flag (g 4) && is_flag (g 7)))) true

-- the bytes of a detail that is there
abbrev pub detail_acts : Columns → List Act
detail_acts g = map byte (fields_of g (flag_cells ∷ [])) ++ (when (eqb (g 5) 1) (map byte (fields_of g gain_cells)) ++ (when (eqb (g 7) 1) (map byte (fields_of g position_cells)) ++ []))

-- all of them fit
abbrev pub detail_fits : Columns → Bool
detail_fits g = fit_all (fields_of g (flag_cells ∷ [])) && (pick (eqb (g 5) 1) (fit_all (fields_of g gain_cells)) true && pick (eqb (g 7) 1) (fit_all (fields_of g position_cells)) true)

-- how many they are with the byte before them, if they fit
abbrev pub detail_long : Columns → ℕ
detail_long g = pick (detail_fits g) (2 + (g 5 + g 7 * 3)) 0

abbrev pub condition_acts : PresetCondition → List Act
condition_acts c = flat_acts condition (condition_cols c)

-- the columns of the row that begins at column b of a table
abbrev pub cols_at : List ℕ → ℕ → Columns
cols_at t b = condition_cols (condition_of t b)

abbrev pub row_acts : List ℕ → ℕ → List Act
row_acts t i = flat_acts condition (at 13 t i)
