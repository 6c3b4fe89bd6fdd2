-- What the functions that write a DRC instruction promise: its bytes of fields, its flags, and its actions with those of its additional IDs.
use Rattle.std.specs.Prelude.{ℕ, ◌+◌, ◌/◌, ◌%◌, List, [], ◌∷◌, ◌++◌, map, Bool, ◌&&◌, get_or, eqb}
use Rattle.wire.specs.Bits.{Field, field, is_flag}
use Rattle.wire.specs.Act.{Act, byte, when}
use Rattle.wire.specs.Layout.{at, family_acts_of}
use Rattle.wire.specs.Spell.{fields_of}
use Rattle.scopes.specs.Rows.{scoped}
use Rattle.target_loudness.specs.Rows.{target_cols}
use Rattle.target_loudness.specs.Write as T
use Rattle.target_loudness.specs.Write.{target_part}
use Rattle.instructions.specs.Layout.{additional, instruction}
use Rattle.instructions.specs.Rows.{instruction_cols, settings_cells}
use Rattle.instructions.specs.declared.rows.LimiterPeakTarget.{LimiterPeakTarget}
use Rattle.instructions.specs.declared.rows.DrcInstructions.{DrcInstructions}

abbrev pub settings_fields : DrcInstructions → List (List Field)
settings_fields d = fields_of (instruction_cols d) settings_cells

-- the high byte first
abbrev pub effect_fields : ℕ → List (List Field)
effect_fields e = (field 8 (e / 256) ∷ []) ∷ (field 8 (e % 256) ∷ []) ∷ []

abbrev pub limiter_fields : LimiterPeakTarget → List (List Field)
limiter_fields l = (field 8 l.value ∷ []) ∷ []

abbrev pub limiter_part : LimiterPeakTarget → List Act
limiter_part l = when (eqb l.present 1) (map byte (limiter_fields l))

-- what stands behind the additional IDs
abbrev pub effect_acts : DrcInstructions → List Act
effect_acts d = map byte (effect_fields d.drc_set_effect) ++ (limiter_part d.limiter_peak_target ++ target_part (target_cols d.target_loudness))

-- all its flags are 0 or 1, among the parts that are there
abbrev pub flags_of : DrcInstructions → Bool
flags_of d = is_flag d.limiter_peak_target.present && T.flags_of (target_cols d.target_loudness)

abbrev pub instruction_acts : List ℕ → DrcInstructions → List Act
instruction_acts u d = family_acts_of instruction 2 additional u (instruction_cols d)

-- the row of table 9 from column b on has a plain scope and no part that may be absent
abbrev pub bare_at : List ℕ → ℕ → Bool
bare_at t b = (eqb (get_or t (b + 1) 0) 0 && eqb (get_or t (b + 11) 0) 0) && (eqb (get_or t (b + 13) 0) 0 && eqb (get_or t (b + 15) 0) 0)

-- row i of table 9, as writing reads it
abbrev pub row_acts : List ℕ → List ℕ → ℕ → List Act
row_acts t u i = family_acts_of instruction 2 additional u (scoped (at 24 t i))
