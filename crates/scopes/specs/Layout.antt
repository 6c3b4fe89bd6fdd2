-- A scope as a syntax table (H.222.0 2.6.116, Table 2-126), over the list of the types that carry a group ID: `parse_scope` of the Rust, with the type byte before it.
use Rattle.std.specs.Prelude.{ℕ, List, [], ◌∷◌, get_or, eqb}
use Rattle.wire.specs.Lists.{each}
use Rattle.wire.specs.Act.{pick}
use Rattle.wire.specs.declared.pen.Fault.TheVariants as F
use Rattle.wire.specs.Layout.{Layout, end, one, choose, given, follows, ◌▹◌, num, reserved, has}

-- the case of each of the types 0 to 3: 0 plain, 1 with a group ID, 2 with a preset ID
abbrev pub case_of : List ℕ → ℕ → ℕ
case_of types kind = pick (has kind types) 1 (pick (eqb kind 3) 2 0)

abbrev pub cases : List ℕ → List ℕ
cases types = each (case_of types) 0 4

abbrev pub case_at : List ℕ → ℕ → ℕ
case_at types kind = get_or (cases types) kind 0

-- in a row: the reserved bits of the type byte are column 0, case, kind, reserved bits and ID columns 1 to 4
abbrev pub group_id : Layout
group_id = one (reserved 1 3 ∷ num 7 4 ∷ []) ▹ end

abbrev pub preset_id : Layout
preset_id = one (reserved 3 3 ∷ num 5 4 ∷ []) ▹ end

-- the ID of each case
abbrev pub ids : Layout
ids = choose 1 (λ v. eqb v 1) group_id (given 1 (λ v. eqb v 2) preset_id ▹ end) ▹ end

-- the case follows from the kind, and is 8 if it is another
unfoldable pub scope : List ℕ → Layout
scope types = one (reserved 6 0 ∷ num 2 2 ∷ []) ▹ follows (num 2 1) 2 (cases types) F.Scope ▹ ids
