-- A scope that was read stands in its row as writing reads it: reading it through the scope that its columns make changes none of them.
use Prim.Native.Nat.{ℕ, zero, suc, ◌≤◌}
use mathlib.Core.Path.{◌≡◌, refl, sym, ap, ◌∙◌}
use mathlib.Core.List.{List, [], ◌∷◌, ◌++◌, flatten}
use mathlib.Core.Bool.{Bool, true, false}
use native.Mathlib.Omega.{arith}
use lib.Dec.{eqb, ltb}
use borrow.Author.Tests.{eqb-true, ltb-true, ltb-false}
use Rattle.wire.specs.Act.{pick}
use Rattle.wire.specs.Pen.{clean}
use Rattle.wire.specs.Layout.{Cell, Layout, num, reserved, judged, Columns, set, shown, matches, columns, has, blank}
use Rattle.wire.proofs.Writing.Acts.{and_both}
use Rattle.wire.proofs.Layouts.Cells.{Off, all, columns_none, shown_in}
use Rattle.scopes.specs.Layout.{case_at, scope}
use Rattle.scopes.specs.Rows.{case_is, kind_is, reserved_is, id_is, scope_is, scoped}
use Rattle.scopes.proofs.Taken.{case_at_lem, case_past}

-- ---- the case of a type

case_kinds : (types : List ℕ) (k : ℕ) → (case_at types k ≤ 2) × (case_at types k ≡ 2 → k ≡ 3)
case_kinds types k = go (ltb k 4) refl
  where
    small : (x y : Bool) → pick x 1 (pick y 2 0) ≤ 2
    small true y = omega arith
    small false true = omega arith
    small false false = omega arith

    three : (x y : Bool) → eqb k 3 ≡ y → ◌≡◌ {A = ℕ} (pick x 1 (pick y 2 0)) 2 → k ≡ 3
    three true y e q = absurd (omega (arith, q))
    three false true e q = eqb-true k 3 e
    three false false e q = absurd (omega (arith, q))

    go : (b : Bool) → ltb k 4 ≡ b → (case_at types k ≤ 2) × (case_at types k ≡ 2 → k ≡ 3)
    go true e = let q = case_at_lem types k (ltb-true k 4 e) in (rw q (small (has k types) (eqb k 3)), λ z. three (has k types) (eqb k 3) refl (sym q ∙ z))
    go false e = let l = ltb-false k 4 e in let q = case_past types k (omega arith) in (omega (arith, q), λ z. absurd (omega (arith, q, z)))

-- ---- the columns that it makes are those that made it

record Same (c k r i : ℕ) : Type 0 where
  case : case_is (scope_is c k r i) ≡ c
  kind : kind_is (scope_is c k r i) ≡ k
  reserved : reserved_is (scope_is c k r i) ≡ r
  id : id_is (scope_is c k r i) ≡ i

same_so : (c k r i : ℕ) → c ≤ 2 → (c ≡ 2 → k ≡ 3) → (c ≡ 0 → (r ≡ 0) × (i ≡ 0)) → Same c k r i
same_so zero k r i h p z = let (a, b) = z refl in record { case = refl; kind = refl; reserved = sym a; id = sym b }
same_so (suc zero) k r i h p z = record { case = refl; kind = refl; reserved = refl; id = refl }
same_so (suc (suc zero)) k r i h p z = record { case = refl; kind = sym (p refl); reserved = refl; id = refl }
same_so (suc (suc (suc c))) k r i h p z = absurd (omega arith)

set_same : (k v : ℕ) (f : Columns) → v ≡ f k → set k v f ≡ f
set_same k v f e = λ i j. go j (eqb j k) refl i
  where
    go : (j : ℕ) (b : Bool) → eqb j k ≡ b → pick b v (f j) ≡ f j
    go j true q = e ∙ ap f (sym (eqb-true j k q))
    go j false q = refl

module _ (types : List ℕ) where
  scoped_same : (g : Columns) → eqb (g 1) (case_at types (g 2)) ≡ true → (g 1 ≡ 0 → (g 3 ≡ 0) × (g 4 ≡ 0)) → scoped g ≡ g
  scoped_same g e z =
      let q = eqb-true (g 1) (case_at types (g 2)) e in
      let (a, b) = case_kinds types (g 2) in
      let s = same_so (g 1) (g 2) (g 3) (g 4) (omega (arith, q, a)) (λ t. b (sym q ∙ t)) z in
      (λ i. set 1 (s.case i) (set 2 (s.kind i) (set 3 (s.reserved i) (set 4 (s.id i) g))))
      ∙ (λ i. set 1 (g 1) (set 2 (g 2) (set 3 (g 3) (set_same 4 (g 4) g refl i))))
      ∙ (λ i. set 1 (g 1) (set 2 (g 2) (set_same 3 (g 3) g refl i))) ∙ (λ i. set 1 (g 1) (set_same 2 (g 2) g refl i)) ∙ set_same 1 (g 1) g refl

-- ---- of a row that begins with a scope

module _ (types : List ℕ) (g : Columns) where
  scope_matched : (rest : Layout) → clean (matches (judged (scope types) rest) g) ≡ true → eqb (g 1) (case_at types (g 2)) ≡ true
  unfolding matches scope clean
  scope_matched rest e = (and_both (eqb (g 1) (case_at types (g 2))) _ e).0

  -- a column that stands nowhere but in the ID of a scope is not shown where there is none
  plain_hides : (rest : Layout) (more : List Cell) → g 1 ≡ 0 → (j : ℕ) → has j (0 ∷ 2 ∷ 1 ∷ []) ≡ false → has j (all rest) ≡ false → has j (columns more) ≡ false
      → has j (columns (shown (judged (scope types) rest) g ++ more)) ≡ false
  unfolding shown scope flatten
  plain_hides rest more z j a b c =
      columns_none j (shown (scope types) g ++ shown rest g) more
      (columns_none j (shown (scope types) g) (shown rest g) (own (eqb (g 1) 1) (eqb (g 1) 2) (ap (λ (c : ℕ). eqb c 1) z) (ap (λ (c : ℕ). eqb c 2) z)) (shown_in rest g j b)) c
    where
      own : (x y : Bool) → x ≡ false → y ≡ false
          → has j (columns (reserved 6 0 ∷ num 2 2 ∷ num 2 1 ∷ (pick x (reserved 1 3 ∷ num 7 4 ∷ []) (pick y (reserved 3 3 ∷ num 5 4 ∷ []) [] ++ []) ++ []))) ≡ false
      own true y e f = absurd (let z : ◌≡◌ {A = ℕ} 0 1 = cc e in omega arith)
      own false true e f = absurd (let z : ◌≡◌ {A = ℕ} 0 1 = cc f in omega arith)
      own false false e f = a

  -- so what was read of such a row, found in its table as f, is read by writing as it stands; `more` are the other cells of the row
  pub row_kept : (rest : Layout) (more : List Cell) → clean (matches (judged (scope types) rest) g) ≡ true → Off (columns (shown (judged (scope types) rest) g ++ more)) blank g
      → has 3 (all rest) ≡ false → has 4 (all rest) ≡ false → has 3 (columns more) ≡ false → has 4 (columns more) ≡ false → (f : Columns) → g 1 ≡ f 1 → g 2 ≡ f 2 → g 3 ≡ f 3 → g 4 ≡ f 4 → scoped f ≡ f
  unfolding has
  row_kept rest more m o r₃ r₄ m₃ m₄ f e₁ e₂ e₃ e₄ =
      let q : eqb (f 1) (case_at types (f 2)) ≡ true = sym (λ i. eqb (e₁ i) (case_at types (e₂ i))) ∙ scope_matched rest m in
      scoped_same types f q (λ z. (sym (o 3 (plain_hides rest more (e₁ ∙ z) 3 refl r₃ m₃) ∙ e₃), sym (o 4 (plain_hides rest more (e₁ ∙ z) 4 refl r₄ m₄) ∙ e₄)))
