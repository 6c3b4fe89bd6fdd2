-- Rows that have rows of another table, as they were read: the lists of their rows stand one after the other, from row 0 on and with none between.
use Prim.Native.Nat.{ℕ, ◌+◌}
use mathlib.Core.Path.{◌≡◌, sym, subst, ◌∙◌}
use mathlib.Core.List.{List, [], ◌∷◌, ◌++◌, map, flatten, flat_map}
use native.Mathlib.Omega.{arith}
use native.Mathlib.Nat.{add-zero, zero-add}
use lib.ListN.{length, get_or, length-append}
use Rattle.wire.specs.Lists.{Every, all_nil, all_cons, each, firsts}
use Rattle.wire.specs.Layout.{at, row, Broken, broken_row, Family, parents, kids}
use Rattle.wire.proofs.Layouts.Rowed.{Nest, parents_found}

-- the first list begins at row n, each begins where the one before ended, and the last ends at row m
pub data RunsOn (b : Broken) : ℕ → List (List ℕ) → ℕ → Type 0 where
  ended : {n : ℕ} → RunsOn b n [] n
  one_more : {n m : ℕ} {r : List ℕ} {rs : List (List ℕ)} → get_or r b.first 0 ≡ n → RunsOn b (n + get_or r b.count 0) rs m → RunsOn b n (r ∷ rs) m

-- the count of a row is that of its own rows
abbrev pub Told : Broken → Family → Type 0
Told b x = get_or x.0 b.count 0 ≡ length x.1

-- `first_so` and `count_so` are λ n x. refl, unfolding each
module _ (nest : Nest) (first_so : (n : ℕ) (x : Family) → get_or (broken_row nest.row (n, x)) nest.row.first 0 ≡ n) (count_so : (n : ℕ) (x : Family) → get_or (broken_row nest.row (n, x)) nest.row.count 0 ≡ get_or x.0 nest.row.count 0) where
  abbrev b : Broken
  b = nest.row

  run_on : (n : ℕ) (xs : List Family) → Every (Told b) xs → RunsOn b n (map (broken_row b) (firsts (λ x. length x.1) n xs)) (n + length (kids xs))
  unfolding firsts flat_map
  run_on n [] all_nil = rw add-zero ended
  run_on n (x ∷ xs) (all_cons h r) =
      let c : get_or (broken_row b (n, x)) b.count 0 ≡ length x.1 = count_so n x ∙ h in
      let k : n + length x.1 + length (kids xs) ≡ n + length (x.1 ++ kids xs) = omega (arith, length-append x.1 (kids xs)) in
      one_more (first_so n x) (subst (λ (i : ℕ). RunsOn b (n + i) (map (broken_row b) (firsts (λ x. length x.1) (n + length x.1) xs)) (n + length (x.1 ++ kids xs))) (sym c)
      (subst (RunsOn b (n + length x.1) (map (broken_row b) (firsts (λ x. length x.1) (n + length x.1) xs))) k (run_on (n + length x.1) xs r)))

  -- in their table
  pub runs_on : (xs : List Family) (behind : List ℕ) {count : ℕ} → count ≡ length xs → Every (Told b) xs
      → RunsOn b 0 (each (λ i. row b.width (at b.width (flatten (parents b xs) ++ behind) i)) 0 count) (length (kids xs))
  runs_on xs behind n h =
      subst (λ (k : ℕ). RunsOn b 0 (each (λ i. row b.width (at b.width (flatten (parents b xs) ++ behind) i)) 0 k) (length (kids xs))) (sym n)
      (subst (λ (l : List (List ℕ)). RunsOn b 0 l (length (kids xs))) (sym (parents_found nest xs behind [])) (subst (RunsOn b 0 (parents b xs)) (zero-add (length (kids xs))) (run_on 0 xs h)))
