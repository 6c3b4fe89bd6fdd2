-- What the functions that write a target loudness promise: its flags, its bytes, and whether they fit.
use Rattle.std.specs.Prelude.{ℕ, ◌+◌, List, ◌++◌, map, Bool, true, ◌&&◌, eqb}
use Rattle.wire.specs.Bits.{is_flag}
use Rattle.wire.specs.Act.{Act, byte, when, pick}
use Rattle.wire.specs.Layout.{Columns}
use Rattle.wire.specs.Spell.{fields_of, fit_all}
use Rattle.target_loudness.specs.Rows.{upper_cells, lower_cells, depends_cells}

-- its flag, and the lower value's where it is there
abbrev pub flags_of : Columns → Bool
flags_of g = is_flag (g 15) && pick (eqb (g 15) 1) (is_flag (g 18)) true

-- the bytes of one that is there
abbrev pub target_acts : Columns → List Act
target_acts g = map byte (fields_of g upper_cells) ++ (when (eqb (g 18) 1) (map byte (fields_of g lower_cells)) ++ map byte (fields_of g depends_cells))

-- all of them fit
abbrev pub target_fits : Columns → Bool
target_fits g = fit_all (fields_of g upper_cells) && (pick (eqb (g 18) 1) (fit_all (fields_of g lower_cells)) true && fit_all (fields_of g depends_cells))

-- how many they are, if they fit and it is there; 0 if it is not there
abbrev pub target_long : Columns → ℕ
target_long g = pick (eqb (g 15) 1) (2 + g 18) 0

-- the part with its flag: nothing, or its bytes
abbrev pub target_part : Columns → List Act
target_part g = when (eqb (g 15) 1) (target_acts g)
