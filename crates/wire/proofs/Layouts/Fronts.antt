-- Rows at the front of lent tables: what storing them leaves, of one table and of two whose rows belong together.
use Prim.Native.Nat.{ℕ, ◌*◌, ◌≤◌}
use mathlib.Core.Path.{◌≡◌, sym, ap, subst, ◌∙◌}
use mathlib.Core.List.{List, ◌++◌, map, map-id, flatten, flat_map}
use native.Mathlib.Omega.{arith}
use lib.ListN.{length, drop, length-map}
use lib.Seq.{sets}
use Rattle.wire.specs.Lists.{Every, firsts}
use Rattle.wire.specs.Prog.{Prog, Out, done, run, many}
use Rattle.wire.specs.Reads.{rows_of}
use Rattle.wire.specs.Nest.{Nests}
use Rattle.wire.specs.Layout.{Broken, Family, parents, kids, broken_row}
use Rattle.wire.proofs.Lists.{flat_rows}
use Rattle.wire.proofs.Reading.Steps.{front_stored}
use Rattle.wire.proofs.Tables.{flat_map_lem}
use Rattle.wire.proofs.Layouts.Rowed.{Wide, rows_long, Nest, parents_long, parents_wide}

pub front : (n : ℕ) (l : List (List ℕ)) (t : List ℕ) → Every (Wide n) l → length l * n ≤ length t → sets t 0 (flatten l) ≡ flatten l ++ drop (length (flatten l)) t
front n l t w h = front_stored t (flatten l) (omega (arith, rows_long n l w))

-- the rows of a list that was read, which stand in one table; and rows that are their own columns
pub rows_front : {A : Type 0} (row : A → List ℕ) (n : ℕ) {o : Out (List A)} {end : ℕ} (l : List A) (t : List ℕ) {t' : List ℕ} → t' ≡ sets t 0 (flat_map row (rows_of o))
    → o ≡ done l end → Every (Wide n) (map row l) → length l * n ≤ length t
    → t' ≡ flatten (map row l) ++ drop (length (flatten (map row l))) t
rows_front {A} row n l t e d w h =
    e ∙ ap (λ (o : Out (List A)). sets t 0 (flat_map row (rows_of o))) d ∙ ap (sets t 0) (flat_map_lem row l) ∙ front n (map row l) t w (rw (length-map l row) h)

pub flat_front : (n : ℕ) {o : Out (List (List ℕ))} {end : ℕ} (l : List (List ℕ)) (t : List ℕ) {t' : List ℕ} → t' ≡ sets t 0 (flat_map (λ r. r) (rows_of o)) → o ≡ done l end
    → Every (Wide n) l → length l * n ≤ length t
    → t' ≡ flatten l ++ drop (length (flatten l)) t
flat_front n l t {t'} e d w h =
    let q : map (λ r. r) l ≡ l = map-id l in
    subst (λ (l : List (List ℕ)). t' ≡ flatten l ++ drop (length (flatten l)) t) q (rows_front (λ r. r) n l t e d (subst (Every (Wide n)) (sym q) w) h)

-- rows with rows of another table, both at the front of theirs
pub record Both (b : Broken) (l : List Family) (t u t' u' : List ℕ) : Type 0 where
  pub outer : t' ≡ flatten (parents b l) ++ drop (length (flatten (parents b l))) t
  pub inner : u' ≡ flatten (kids l) ++ drop (length (flatten (kids l))) u

pub both : (n : Nest) (p : Prog Family) {s : List ℕ} {at count end : ℕ} (l : List Family) (t u : List ℕ) {t' u' : List ℕ}
    → Nests p (λ x. length x.1) (λ i x. broken_row n.row (i, x)) (λ x. flatten x.1) s at count t u t' u' → run (many count p) s at ≡ done l end
    → Every (Wide n.kid.columns) (kids l) → length l * n.row.width ≤ length t → length (kids l) * n.kid.columns ≤ length u → Both n.row l t u t' u'
both n p {end = end} l t u v d w h k =
    let z : done v.value v.end ≡ done l end = sym v.reads ∙ d in
    let e : v.value ≡ l = cc z in
    let m = parents_long n l in
    let a : length (parents n.row l) * n.row.width ≤ length t = subst (λ (k : ℕ). k * n.row.width ≤ length t) (sym m) h in
    record {
      outer = v.outer ∙ ap (λ (l : List Family). sets t 0 (flat_map (broken_row n.row) (firsts (λ x. length x.1) 0 l))) e ∙ ap (sets t 0) (flat_map_lem (broken_row n.row) (firsts (λ (x : Family). length x.1) 0 l)) ∙ front n.row.width (parents n.row l) t (parents_wide n l) a;
      inner = v.inner ∙ ap (λ (l : List Family). sets u 0 (flat_map (λ x. flatten x.1) l)) e ∙ ap (sets u 0) (flat_rows (λ (x : Family). x.1) l) ∙ front n.kid.columns (kids l) u w k;
    }
