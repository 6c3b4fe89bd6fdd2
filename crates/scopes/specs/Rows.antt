-- A declared scope as columns.
use Rattle.std.specs.Prelude.{ℕ, ◌+◌, List, [], ◌∷◌, get_or, eqb}
use Rattle.wire.specs.Bits.{part}
use Rattle.wire.specs.Act.{pick}
use Rattle.wire.specs.Layout.{Columns, set}
use Rattle.scopes.specs.Layout.{case_at}
use Rattle.scopes.specs.declared.parsing.Typed.{Typed}
use Rattle.scopes.specs.declared.rows.DrcScope.{DrcScope}
use Rattle.scopes.specs.declared.rows.DrcScope.TheVariants.{Plain, Group, Preset, Unknown}

abbrev pub case_is : DrcScope → ℕ
case_is (Plain k) = 0
case_is (Group k r i) = 1
case_is (Preset r i) = 2
case_is Unknown = 3

abbrev pub kind_is : DrcScope → ℕ
kind_is (Plain k) = k
kind_is (Group k r i) = k
kind_is (Preset r i) = 3
kind_is Unknown = 0

abbrev pub reserved_is : DrcScope → ℕ
reserved_is (Plain k) = 0
reserved_is (Group k r i) = r
reserved_is (Preset r i) = r
reserved_is Unknown = 0

abbrev pub id_is : DrcScope → ℕ
id_is (Plain k) = 0
id_is (Group k r i) = i.0
id_is (Preset r i) = i.0
id_is Unknown = 0

abbrev pub scope_row : DrcScope → List ℕ
scope_row s = case_is s ∷ kind_is s ∷ reserved_is s ∷ id_is s ∷ []

-- the scope of such columns
abbrev pub scope_is : (case kind reserved id : ℕ) → DrcScope
scope_is c k r i = pick (eqb c 0) (Plain k) (pick (eqb c 1) (Group k r (record { 0 = i })) (pick (eqb c 2) (Preset r (record { 0 = i })) Unknown))

-- of the four columns of a table from b on
abbrev pub scope_of : List ℕ → ℕ → DrcScope
scope_of t b = scope_is (get_or t b 0) (get_or t (b + 1) 0) (get_or t (b + 2) 0) (get_or t (b + 3) 0)

-- A row whose columns 1 to 4 are a scope, as writing reads it: through the scope that they make. So a plain scope's reserved bits and ID, a preset's kind, and
-- all but the case where that is above 2, are not read.
abbrev pub scoped : Columns → Columns
scoped g =
    let s = scope_is (g 1) (g 2) (g 3) (g 4) in
    set 1 (case_is s) (set 2 (kind_is s) (set 3 (reserved_is s) (set 4 (id_is s) g)))

-- the bytes of an ID behind a type
abbrev pub id_bytes : List ℕ → ℕ → ℕ
id_bytes types kind = pick (eqb (case_at types kind) 0) 0 1

-- the scope of a type whose ID, if it has one, stands at a position
abbrev pub scope_at : List ℕ → List ℕ → ℕ → ℕ → DrcScope
scope_at types s at kind =
    pick (eqb (case_at types kind) 1) (Group kind (part 7 1 (get_or s at 0)) (record { 0 = part 0 7 (get_or s at 0) }))
    (pick (eqb (case_at types kind) 2) (Preset (part 5 3 (get_or s at 0)) (record { 0 = part 0 5 (get_or s at 0) })) (Plain kind))

-- the reserved bits of the type byte, and the scope
abbrev pub typed_row : Typed → List ℕ
typed_row t = t.reserved_type ∷ scope_row t.scope
