-- The declared row of table 9 as columns, from its table, and what its bytes give its columns.
use Rattle.std.specs.Prelude.{ℕ, ◌+◌, ◌≡◌, List, [], ◌∷◌, ◌++◌, get_or, eqb}
use Rattle.wire.specs.Lists.{each}
use Rattle.wire.specs.Act.{pick}
use Rattle.wire.specs.Layout.{Cell, num, reserved, flag, Columns, of}
use Rattle.wire.specs.Straight.{taken, blanks}
use Rattle.scopes.specs.Rows.{scope_row, scope_of}
use Rattle.target_loudness.specs.Rows.{target_row, target_of, target_bytes}
use Rattle.instructions.specs.Layout.{effect}
use Rattle.instructions.specs.declared.rows.LimiterPeakTarget.{LimiterPeakTarget}
use Rattle.instructions.specs.declared.rows.DrcInstructions.{DrcInstructions}

-- columns 13 and 14
abbrev pub limiter_row : LimiterPeakTarget → List ℕ
limiter_row l = l.present ∷ l.value ∷ []

abbrev pub no_limiter : LimiterPeakTarget
no_limiter = record { present = 0; value = 0 }

-- columns 5 to 11
abbrev pub settings_row : DrcInstructions → List ℕ
settings_row d =
    d.reserved_set ∷ d.drc_set_id.0 ∷ d.reserved_downmix ∷ d.downmix_id ∷ d.reserved_additional
    ∷ d.additional_downmix_ids.first ∷ d.additional_downmix_ids.count ∷ []

-- columns 12 to 23
abbrev pub effect_row : DrcInstructions → List ℕ
effect_row d = d.drc_set_effect ∷ limiter_row d.limiter_peak_target ++ target_row d.target_loudness

-- the 24 columns
abbrev pub instruction_row : DrcInstructions → List ℕ
instruction_row d = d.reserved_type ∷ scope_row d.scope ++ (settings_row d ++ effect_row d)

abbrev pub instruction_cols : DrcInstructions → Columns
instruction_cols d = of (instruction_row d)

-- the row that begins at column b of a table
abbrev pub instruction_of : List ℕ → ℕ → DrcInstructions
instruction_of t b = record {
  reserved_type = get_or t b 0;
  scope = scope_of t (b + 1);
  reserved_set = get_or t (b + 5) 0;
  drc_set_id = record { 0 = get_or t (b + 6) 0 };
  reserved_downmix = get_or t (b + 7) 0;
  downmix_id = get_or t (b + 8) 0;
  reserved_additional = get_or t (b + 9) 0;
  additional_downmix_ids = record { first = get_or t (b + 10) 0; count = get_or t (b + 11) 0 };
  drc_set_effect = get_or t (b + 12) 0;
  limiter_peak_target = record { present = get_or t (b + 13) 0; value = get_or t (b + 14) 0 };
  target_loudness = target_of t b;
}

-- ---- what stands behind the additional IDs, at m: its bytes, by the two flags, and its columns whatever was read before
abbrev pub effect_bytes : ℕ → ℕ → List ℕ → ℕ → ℕ
effect_bytes limiter loud s m = 2 + (limiter + pick (eqb loud 1) (target_bytes (get_or s (m + 2 + limiter) 0)) 0)

pub record EffectTaken (limiter loud : ℕ) (s : List ℕ) (m : ℕ) (r : List ℕ) : Type 0 where
  pub of : (f : Columns) → each f 13 11 ≡ limiter ∷ 0 ∷ loud ∷ blanks 8 → r ≡ each (taken effect f s m) 12 12

-- ---- the bytes of the layout behind the scope

abbrev pub count_cells : List Cell
count_cells = reserved 3 9 ∷ num 3 11 ∷ flag 13 ∷ flag 15 ∷ []

abbrev pub settings_cells : List (List Cell)
settings_cells = (reserved 2 5 ∷ num 6 6 ∷ []) ∷ (reserved 1 7 ∷ num 7 8 ∷ []) ∷ count_cells ∷ []
