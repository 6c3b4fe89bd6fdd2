-- What writing does with a scope: its case has to be that of its type (8), then its fields are judged, both where it begins; then its bytes.
use Rattle.std.specs.Prelude.{ℕ, List, [], ◌∷◌, ◌++◌, Bool, true, false}
use Rattle.wire.specs.Bits.{Field, field}
use Rattle.wire.specs.Act.{Act}
use Rattle.wire.specs.Layout.{end, judged, ◌▹◌, Columns, of, writes, matches}
use Rattle.scopes.specs.Layout.{scope}
use Rattle.scopes.specs.Rows.{kind_is, scope_row}
use Rattle.scopes.specs.declared.rows.DrcScope.{DrcScope}
use Rattle.scopes.specs.declared.rows.DrcScope.TheVariants.{Plain, Group, Preset, Unknown}

-- the columns of a scope with the reserved bits of its type byte, as reading leaves them
abbrev pub scope_cols : ℕ → DrcScope → Columns
scope_cols rt s = of (rt ∷ scope_row s)

-- its bytes do not depend on the list of types
abbrev pub scope_bytes : ℕ → DrcScope → List Act
scope_bytes rt s = writes (scope []) (scope_cols rt s)

abbrev pub scope_acts : List ℕ → ℕ → DrcScope → List Act
scope_acts types rt s = matches (scope types) (scope_cols rt s) ++ writes (judged (scope types) ▹ end) (scope_cols rt s)

-- ---- in parts: the type that is written, and the fields of the ID byte

abbrev pub has_id : DrcScope → Bool
has_id (Plain k) = false
has_id (Group k r i) = true
has_id (Preset r i) = true
has_id Unknown = false

abbrev pub type_fields : ℕ → DrcScope → List Field
type_fields rt s = field 6 rt ∷ field 2 (kind_is s) ∷ []

abbrev pub id_fields : DrcScope → List Field
id_fields (Plain k) = []
id_fields (Group k r i) = field 1 r ∷ field 7 i.0 ∷ []
id_fields (Preset r i) = field 3 r ∷ field 5 i.0 ∷ []
id_fields Unknown = []
