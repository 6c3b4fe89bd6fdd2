-- The declared target loudness as columns 15 to 23 of a row of table 9, from its table and from its bytes, and the bytes of its layout.
use Rattle.std.specs.Prelude.{ℕ, ◌+◌, List, [], ◌∷◌, ◌++◌, get_or}
use Rattle.wire.specs.Bits.{part}
use Rattle.wire.specs.Layout.{Cell, num, reserved, flag, Columns}
use Rattle.wire.specs.Straight.{part_from}
use Rattle.target_loudness.specs.declared.rows.TargetLoudnessLower.{TargetLoudnessLower}
use Rattle.target_loudness.specs.declared.rows.DrcTargetLoudness.{DrcTargetLoudness}

-- columns 18 to 20
abbrev pub lower_row : TargetLoudnessLower → List ℕ
lower_row l = l.present ∷ l.reserved ∷ l.value ∷ []

-- columns 15 to 23
abbrev pub target_row : DrcTargetLoudness → List ℕ
target_row t =
    t.present ∷ t.reserved_upper ∷ t.upper ∷ lower_row t.lower
    ++ (t.reserved_depends ∷ t.depends_on_drc_set.0 ∷ t.no_independent_use_or_reserved ∷ [])

abbrev pub target_cols : DrcTargetLoudness → Columns
target_cols t = part_from 15 (target_row t)

-- parts that are not there
abbrev pub no_lower : TargetLoudnessLower
no_lower = record { present = 0; reserved = 0; value = 0 }

abbrev pub no_target : DrcTargetLoudness
no_target = record { present = 0; reserved_upper = 0; upper = 0; lower = no_lower; reserved_depends = 0; depends_on_drc_set = record { 0 = 0 }; no_independent_use_or_reserved = 0 }

-- of the row of table 9 that begins at column b
abbrev pub lower_of : List ℕ → ℕ → TargetLoudnessLower
lower_of t b = record { present = get_or t (b + 18) 0; reserved = get_or t (b + 19) 0; value = get_or t (b + 20) 0 }

abbrev pub target_of : List ℕ → ℕ → DrcTargetLoudness
target_of t b = record {
  present = get_or t (b + 15) 0;
  reserved_upper = get_or t (b + 16) 0;
  upper = get_or t (b + 17) 0;
  lower = lower_of t b;
  reserved_depends = get_or t (b + 21) 0;
  depends_on_drc_set = record { 0 = get_or t (b + 22) 0 };
  no_independent_use_or_reserved = get_or t (b + 23) 0;
}

-- the bytes of one whose first byte is this: the lower value is one more
abbrev pub target_bytes : ℕ → ℕ
target_bytes u = 2 + part 0 1 u

-- ---- the bytes of the layout

abbrev pub upper_cells : List (List Cell)
upper_cells = (reserved 1 16 ∷ num 6 17 ∷ flag 18 ∷ []) ∷ []

abbrev pub lower_cells : List (List Cell)
lower_cells = (reserved 2 19 ∷ num 6 20 ∷ []) ∷ []

abbrev pub depends_cells : List (List Cell)
depends_cells = (reserved 1 21 ∷ num 6 22 ∷ num 1 23 ∷ []) ∷ []
