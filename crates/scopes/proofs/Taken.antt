-- The list of types that carry a group ID, searched; and what the bytes of a scope give its columns.
use Prim.Native.Nat.{ℕ, zero, suc, ◌+◌, ◌≤◌, ◌<◌}
use mathlib.Core.Path.{◌≡◌, refl, sym, ap, subst, ◌∙◌}
use mathlib.Core.List.{List, [], ◌∷◌}
use mathlib.Core.Bool.{Bool, true, false, ◌||◌}
use native.Mathlib.Omega.{arith}
use lib.ListN.{get_or}
use lib.Dec.{eqb}
use borrow.Author.Tests.{eqb-true, eq-eqb, ne_eqb}
use Rattle.wire.specs.Lists.{each}
use Rattle.wire.specs.Bits.{part, split, total}
use Rattle.wire.specs.Act.{pick}
use Rattle.wire.specs.Layout.{num, reserved, Columns, put, set, row, blank, has}
use Rattle.wire.specs.Straight.{ones, puts_at, took, taken, spans}
use Rattle.std.specs.List.{list_any}
use Rattle.wire.proofs.Fields.{part_below}
use Rattle.wire.proofs.Writing.Plain.{no_quick}
use Rattle.scopes.specs.Layout.{case_of, case_at, ids, scope}
use Rattle.scopes.specs.Rows.{id_bytes, scope_row, scope_at}
use Rattle.scopes.specs.declared.rows.DrcScope.TheVariants.{Plain, Group, Preset}

-- ---- the list, searched as std does

eqb_swap : (x y : ℕ) → eqb x y ≡ eqb y x
eqb_swap x y = go (eqb x y) refl
  where
    go : (b : Bool) → eqb x y ≡ b → eqb x y ≡ eqb y x
    go true e = e ∙ sym (eq-eqb y x (sym (eqb-true x y e)))
    go false e = e ∙ sym (ne_eqb y x (λ q. no_quick e (eq-eqb x y (sym q))))

has_any : (k : ℕ) (l : List ℕ) → list_any (λ t. eqb t k) l ≡ has k l
unfolding has
has_any k [] = refl
has_any k (t ∷ l) = λ i. eqb_swap t k i || has_any k l i

-- ---- the case of a type

pub case_at_lem : (types : List ℕ) (k : ℕ) → k < 4 → case_at types k ≡ case_of types k
unfolding each
case_at_lem types zero h = refl
case_at_lem types (suc zero) h = refl
case_at_lem types (suc (suc zero)) h = refl
case_at_lem types (suc (suc (suc zero))) h = refl
case_at_lem types (suc (suc (suc (suc k)))) h = absurd (omega arith)

pub case_past : (types : List ℕ) (k : ℕ) → 3 < k → 0 ≡ case_at types k
unfolding each
case_past types zero h = absurd (omega arith)
case_past types (suc zero) h = absurd (omega arith)
case_past types (suc (suc zero)) h = absurd (omega arith)
case_past types (suc (suc (suc zero))) h = absurd (omega arith)
case_past types (suc (suc (suc (suc k)))) h = refl

module _ (types : List ℕ) (kind : ℕ) (h : kind ≤ 3) {b : Bool} (e : b ≡ list_any (λ t. eqb t kind) types) where
  case_so : case_at types kind ≡ pick b 1 (pick (eqb kind 3) 2 0)
  case_so = case_at_lem types kind (omega arith) ∙ ap (λ (x : Bool). pick x 1 (pick (eqb kind 3) 2 0)) (sym (e ∙ has_any kind types))

  pub case_group : b ≡ true → 1 ≡ case_at types kind
  case_group t = sym (case_so ∙ ap (λ (x : Bool). pick x 1 (pick (eqb kind 3) 2 0)) t)

  pub case_preset : b ≡ false → kind ≡ 3 → 2 ≡ case_at types kind
  case_preset f t = sym (case_so ∙ (λ i. pick (f i) 1 (pick (eq-eqb kind 3 t i) 2 0)))

  pub case_plain : b ≡ false → (kind ≡ 3 → ⊥) → 0 ≡ case_at types kind
  case_plain f t = sym (case_so ∙ (λ i. pick (f i) 1 (pick (ne_eqb kind 3 t i) 2 0)))

-- whether an ID follows
module _ (types : List ℕ) (kind : ℕ) {c : ℕ} (e : c ≡ case_at types kind) where
  abbrev spans_long : ℕ → ℕ
  spans_long c = pick (eqb c 0) 0 1

  pub id_absent : c ≡ 0 → 0 ≡ id_bytes types kind
  id_absent z = sym (ap spans_long (sym e ∙ z))

  pub id_there : (c ≡ 0 → ⊥) → 1 ≡ id_bytes types kind
  id_there n = sym (ap spans_long (sym e) ∙ ap (λ (x : Bool). pick x 0 1) (ne_eqb c 0 n))

  pub id_inside : {at n v : ℕ} → c ≡ v → 0 < v → at + id_bytes types kind ≤ n → at < n
  id_inside {v = v} z p h = omega (arith, h, id_there (λ q. let w : v ≡ 0 = sym z ∙ q in absurd (omega arith)))

-- ---- the columns

pub scope_taken : (types s : List ℕ) (at : ℕ) → row 5 (taken (scope types) blank s at) ≡ part 2 6 (get_or s at 0) ∷ scope_row (scope_at types s (at + 1) (part 0 2 (get_or s at 0)))
unfolding scope took puts_at put split total each
scope_taken types s at = subst (λ (v : ℕ). of_case v ≡ as_case v) (sym (case_at_lem types kind (part_below 0 2 (get_or s at 0)))) (go (has kind types) (eqb kind 3) refl)
  where
    kind : ℕ
    kind = part 0 2 (get_or s at 0)

    of_case : ℕ → List ℕ
    of_case v = row 5 (took ids (set 1 v (puts_at ((reserved 6 0 ∷ num 2 2 ∷ []) ∷ []) s at 0 blank)) s at 1).0

    as_case : ℕ → List ℕ
    as_case v =
        part 2 6 (get_or s at 0)
        ∷ scope_row
        (pick (eqb v 1) (Group kind (part 7 1 (get_or s (at + 1) 0)) (record { 0 = part 0 7 (get_or s (at + 1) 0) })) (pick (eqb v 2) (Preset (part 5 3 (get_or s (at + 1) 0)) (record { 0 = part 0 5 (get_or s (at + 1) 0) })) (Plain kind)))

    go : (x y : Bool) → eqb kind 3 ≡ y → of_case (pick x 1 (pick y 2 0)) ≡ as_case (pick x 1 (pick y 2 0))
    go true y e = refl
    go false true e = ap (λ (k : ℕ). part 2 6 (get_or s at 0) ∷ 2 ∷ k ∷ part 5 3 (get_or s (at + 1) 0) ∷ part 0 5 (get_or s (at + 1) 0) ∷ []) (eqb-true kind 3 e)
    go false false e = refl

-- ---- the sizes: the type, and the ID where it has one

pub scope_spans : (types : List ℕ) (f : Columns) (s : List ℕ) (at : ℕ) → spans (scope types) f s at ≡ ones (1 + id_bytes types (part 0 2 (get_or s at 0)))
unfolding scope took puts_at put split total ones
scope_spans types f s at =
    subst (λ (v : ℕ). 1 ∷ of_case v ≡ ones (1 + pick (eqb v 0) 0 1)) (sym (case_at_lem types kind (part_below 0 2 (get_or s at 0)))) (go (has kind types) (eqb kind 3))
  where
    kind : ℕ
    kind = part 0 2 (get_or s at 0)

    of_case : ℕ → List ℕ
    of_case v = (took ids (set 1 v (puts_at ((reserved 6 0 ∷ num 2 2 ∷ []) ∷ []) s at 0 f)) s at 1).1

    go : (x y : Bool) → 1 ∷ of_case (pick x 1 (pick y 2 0)) ≡ ones (1 + pick (eqb (pick x 1 (pick y 2 0)) 0) 0 1)
    go true y = refl
    go false true = refl
    go false false = refl
