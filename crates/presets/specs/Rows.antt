-- The declared rows of table 4 as columns, and what the head of a preset says.
use Rattle.std.specs.Prelude.{ℕ, ◌+◌, List, [], ◌∷◌, get_or}
use Rattle.wire.specs.Bits.{part}
use Rattle.wire.specs.Layout.{Cell, num, reserved, less_one, Columns, of}
use Rattle.presets.specs.declared.rows.GroupPreset.{GroupPreset}

-- the 7 columns
abbrev pub preset_row : GroupPreset → List ℕ
preset_row p = p.reserved_id ∷ p.preset_id.0 ∷ p.reserved_kind ∷ p.preset_kind ∷ p.reserved_conditions ∷ p.conditions.first ∷ p.conditions.count ∷ []

abbrev pub preset_cols : GroupPreset → Columns
preset_cols p = of (preset_row p)

-- the row that begins at column b of a table
abbrev pub preset_of : List ℕ → ℕ → GroupPreset
preset_of t b = record {
  reserved_id = get_or t b 0;
  preset_id = record { 0 = get_or t (b + 1) 0 };
  reserved_kind = get_or t (b + 2) 0;
  preset_kind = get_or t (b + 3) 0;
  reserved_conditions = get_or t (b + 4) 0;
  conditions = record { first = get_or t (b + 5) 0; count = get_or t (b + 6) 0 };
}

-- what the three bytes of a preset say, with the first of its conditions
abbrev pub preset_from : List ℕ → ℕ → ℕ → GroupPreset
preset_from s at first = record {
  reserved_id = part 5 3 (get_or s at 0);
  preset_id = record { 0 = part 0 5 (get_or s at 0) };
  reserved_kind = part 5 3 (get_or s (at + 1) 0);
  preset_kind = part 0 5 (get_or s (at + 1) 0);
  reserved_conditions = part 4 4 (get_or s (at + 2) 0);
  conditions = record { first = first; count = part 0 4 (get_or s (at + 2) 0) + 1 };
}

abbrev pub head_cells : List (List Cell)
head_cells = (reserved 3 0 ∷ num 5 1 ∷ []) ∷ (reserved 3 2 ∷ num 5 3 ∷ []) ∷ (reserved 4 4 ∷ less_one 4 6 ∷ []) ∷ []
