-- The declared row of table 11 as columns and from its table.
use Rattle.std.specs.Prelude.{ℕ, ◌+◌, List, [], ◌∷◌, ◌++◌, get_or}
use Rattle.wire.specs.Layout.{Columns, of}
use Rattle.scopes.specs.Rows.{scope_row, scope_of}
use Rattle.loudness.specs.declared.rows.LoudnessInfoEntry.{LoudnessInfoEntry}

abbrev pub entry_row : LoudnessInfoEntry → List ℕ
entry_row e = e.reserved_type ∷ scope_row e.scope ++ (e.loudness_info.offset ∷ e.loudness_info.length ∷ [])

abbrev pub entry_cols : LoudnessInfoEntry → Columns
entry_cols e = of (entry_row e)

abbrev pub entry_of : List ℕ → ℕ → LoudnessInfoEntry
entry_of t b = record { reserved_type = get_or t b 0; scope = scope_of t (b + 1); loudness_info = record { offset = get_or t (b + 5) 0; length = get_or t (b + 6) 0 } }
