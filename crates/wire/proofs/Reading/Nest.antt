-- Rows that have rows of another table: first rows, the loop that stores both, and that each row finds its own rows again.
use Prim.Native.Nat.{ℕ, suc, ◌+◌, ◌*◌, ◌-◌, ◌≤◌, ◌<◌}
use mathlib.Core.List.{List, [], ◌∷◌, ◌++◌, flat_map}
use mathlib.Core.Path.{◌≡◌, refl, sym, ap, subst, ◌∙◌}
use native.Mathlib.Omega.{arith}
use native.Mathlib.Nat.{add-zero, zero-add, zero-mul, add-mul, mul-le-mul_right}
use lib.ListN.{length, length-append}
use lib.Seq.{sets, length-sets}
use Rattle.wire.specs.Lists.{Every, all_nil, all_cons, each, sum, firsts}
use Rattle.wire.specs.Prog.{Prog, done, run, many}
use Rattle.wire.specs.Nest.{Fillable, Nested, Nests}
use Rattle.wire.proofs.Reading.Steps.{sets_append}
use Rattle.wire.proofs.Reading.Walk.{ends}
use Rattle.wire.proofs.Reading.Loops.{Next, many_next, many_none, one_less}

-- ---- sums and first rows

pub flat_length : {A B : Type 0} (k : A → List B) (l : List A) → length (flat_map k l) ≡ sum (λ x. length (k x)) l
unfolding flat_map sum
flat_length k [] = refl
flat_length k (x ∷ l) = length-append (k x) (flat_map k l) ∙ ap (λ (n : ℕ). length (k x) + n) (flat_length k l)

pub sum_suc : {A : Type 0} (f : A → ℕ) (l : List A) → sum (λ x. 1 + f x) l ≡ length l + sum f l
unfolding sum
sum_suc f [] = refl
sum_suc f (x ∷ l) = omega (arith, sum_suc f l)

pub firsts_length : {A : Type 0} (size : A → ℕ) (n : ℕ) (l : List A) → length (firsts size n l) ≡ length l
unfolding firsts
firsts_length size n [] = refl
firsts_length size n (x ∷ l) = ap suc (firsts_length size (n + size x) l)

-- the rows of each end before those of all end
pub firsts_below : {A : Type 0} (size : A → ℕ) (n : ℕ) (l : List A) → Every (λ (q : ℕ × A). q.0 + size q.1 ≤ n + sum size l) (firsts size n l)
unfolding firsts sum
firsts_below size n [] = all_nil
firsts_below {A} size n (x ∷ l) =
    let h : n + size x ≤ n + (size x + sum size l) = omega arith in
    let e : n + size x + sum size l ≡ n + (size x + sum size l) = omega arith in
    let r : Every (λ (q : ℕ × A). q.0 + size q.1 ≤ n + (size x + sum size l)) (firsts size (n + size x) l) = rw e at (firsts_below size (n + size x) l) in
    all_cons h r

-- ---- a loop that stores rows of w columns, and of each its rows of c columns in another table

pub record Nesting {A : Type 0} (p : Prog A) (size : A → ℕ) (row : ℕ → A → List ℕ) (w : ℕ) (cols : A → List ℕ) (c : ℕ) (s : List ℕ) (at count : ℕ) (t₀ u₀ t u : List ℕ) (pos left to first : ℕ) : Type 0 where
  pub all : List A
  pub last : ℕ
  pub reads : run (many count p) s at ≡ done all last
  pub short : length s < 65536
  pub room : sum size all * c ≤ length u₀
  pub rest : List A
  pub goes_on : run (many left p) s pos ≡ done rest last
  pub inside : pos ≤ length s
  pub before : first ≤ pos
  pub counts : first + sum size rest ≡ sum size all
  pub place : to + w * left ≡ w * count
  pub long_outer : length t ≡ length t₀
  pub long_inner : length u ≡ length u₀
  pub outer : sets t to (flat_map (λ q. row q.0 q.1) (firsts size first rest)) ≡ sets t₀ 0 (flat_map (λ q. row q.0 q.1) (firsts size 0 all))
  pub inner : sets u (first * c) (flat_map cols rest) ≡ sets u₀ 0 (flat_map cols all)

module _ {A : Type 0} (p : Prog A) (size : A → ℕ) (row : ℕ → A → List ℕ) (w : ℕ) (cols : A → List ℕ) (c : ℕ) (s : List ℕ) (at count : ℕ) (t₀ u₀ : List ℕ) where
  pub nest_start : Fillable (many count p) c (sum size) s at 0 u₀ → Nesting p size row w cols c s at count t₀ u₀ t₀ u₀ at count 0 0
  nest_start f = record {
    all = f.value;
    last = f.end;
    reads = f.reads;
    short = f.all;
    room = rw (zero-add (sum size f.value)) at f.room;
    rest = f.value;
    goes_on = f.reads;
    inside = f.begun;
    before = omega arith;
    counts = zero-add (sum size f.value);
    place = zero-add (w * count);
    long_outer = refl;
    long_inner = refl;
    outer = refl;
    inner = ap (λ (n : ℕ). sets u₀ n (flat_map cols f.value)) (zero-mul c);
  }

  module _ {t u : List ℕ} {pos left to first : ℕ} (i : Nesting p size row w cols c s at count t₀ u₀ t u pos left to first) (h : 0 < left) where
    next : Next p s left pos i.rest i.last
    next = many_next p s left pos h i.goes_on

    counted : first + (size next.row + sum size next.rest) ≡ sum size i.all
    unfolding sum
    counted = ap (λ (l : List A). first + sum size l) (sym next.is) ∙ i.counts

    -- the next row may be stored
    pub nest_ready : Fillable p c size s pos first u
    nest_ready =
        let m : (first + size next.row) * c ≤ sum size i.all * c = mul-le-mul_right c (omega (arith, counted)) in
        record { value = next.row; end = next.middle; reads = next.reads; begun = i.inside; all = i.short; before = i.before; room = omega (arith, m, i.room, i.long_inner) }

    -- and when it is stored, with its rows of the other table
    pub nest_turn : {x : A} {m first' : ℕ} {t' u' : List ℕ} → run p s pos ≡ done x m → pos + size x ≤ m → length (row first x) ≡ w → length (cols x) ≡ size x * c
        → first' ≡ first + size x → t' ≡ sets t to (row first x) → u' ≡ sets u (first * c) (cols x) → Nesting p size row w cols c s at count t₀ u₀ t' u' m (left - 1) (to + w) first'
    unfolding flat_map firsts sum
    nest_turn {x} {m} {first'} {t'} {u'} d weighs wide tall ef et eu =
        let z : done next.row next.middle ≡ done x m = sym next.reads ∙ d in
        let ex : next.row ≡ x = cc z in
        let em : next.middle ≡ m = cc z in
        let xs : List A = next.rest in
        let l : i.rest ≡ x ∷ xs = next.is ∙ ap (λ (a : A). a ∷ xs) ex in
        let k : first + (size x + sum size xs) ≡ sum size i.all = ap (λ (l : List A). first + sum size l) (sym l) ∙ i.counts in
        let n : first' * c ≡ first * c + length (cols x) = ap (λ (n : ℕ). n * c) ef ∙ add-mul first (size x) c ∙ ap (λ (n : ℕ). first * c + n) (sym tall) in
        record {
          all = i.all;
          last = i.last;
          reads = i.reads;
          short = i.short;
          room = i.room;
          rest = xs;
          goes_on = subst (λ (n : ℕ). run (many (left - 1) p) s n ≡ done xs i.last) em next.goes_on;
          inside = ends p s pos i.inside (sym d);
          before = omega (arith, i.before, weighs, ef);
          counts = omega (arith, k, ef);
          place = omega (arith, i.place, one_less w left h);
          long_outer = ap length et ∙ length-sets t to (row first x) ∙ i.long_outer;
          long_inner = ap length eu ∙ length-sets u (first * c) (cols x) ∙ i.long_inner;
          outer =
              (λ j. sets (et j) (to + sym wide j) (flat_map (λ (q : ℕ × A). row q.0 q.1) (firsts size (ef j) xs)))
              ∙ sym (sets_append t to (row first x) (flat_map (λ (q : ℕ × A). row q.0 q.1) (firsts size (first + size x) xs)))
              ∙ ap (λ (l : List A). sets t to (flat_map (λ (q : ℕ × A). row q.0 q.1) (firsts size first l))) (sym l)
              ∙ i.outer;
          inner =
              (λ j. sets (eu j) (n j) (flat_map cols xs))
              ∙ sym (sets_append u (first * c) (cols x) (flat_map cols xs))
              ∙ ap (λ (l : List A). sets u (first * c) (flat_map cols l)) (sym l)
              ∙ i.inner;
        }

  pub nest_end : {t u : List ℕ} {pos left to first : ℕ} → Nesting p size row w cols c s at count t₀ u₀ t u pos left to first → left ≤ 0 → Nests p size row cols s at count t₀ u₀ t u
  unfolding flat_map firsts
  nest_end {t} {u} {pos} {left} {to} {first} i h =
      let (e, n) = many_none p s left pos h i.goes_on in
      record {
        value = i.all;
        end = i.last;
        reads = i.reads;
        outer = sym (ap (λ (l : List A). sets t to (flat_map (λ (q : ℕ × A). row q.0 q.1) (firsts size first l))) e) ∙ i.outer;
        inner = sym (ap (λ (l : List A). sets u (first * c) (flat_map cols l)) e) ∙ i.inner;
      }

-- one list after the other: each stands by itself
pub each_split : {R : Type 0} (f : ℕ → R) (a b : List R) (n : ℕ) → each f n (length (a ++ b)) ≡ a ++ b → (each f n (length a) ≡ a) × (each f (n + length a) (length b) ≡ b)
unfolding each
each_split f [] b n e = (refl, rw add-zero e)
each_split f (x ∷ a) b n e =
    let h : f n ≡ x = cc e in
    let r : each f (n + 1) (length (a ++ b)) ≡ a ++ b = cc e in
    let (p, q) = each_split f a b (n + 1) r in
    let m : n + 1 + length a ≡ n + suc (length a) = omega arith in
    ((λ i. h i ∷ p i), rw m at q)

-- what was stored is that of the answer which the program is known to give
pub record Stored {A R : Type 0} (row : ℕ → A → R) (c : ℕ) (cols : A → List ℕ) (first : ℕ) (t : List ℕ) (x : A) (end : ℕ) (r : R) (next : ℕ) (after : List ℕ) : Type 0 where
  pub is : r ≡ row first x
  pub on : next ≡ end
  pub stored : after ≡ sets t (first * c) (cols x)
  pub long : length after ≡ length t

pub nested_as : {A R : Type 0} {p : Prog A} {c : ℕ} {row : ℕ → A → R} {cols : A → List ℕ} {s : List ℕ} {at first : ℕ} {t : List ℕ} {r : R} {next : ℕ} {after : List ℕ} {x : A} {end : ℕ}
    → Nested p c row cols s at first t r next after → run p s at ≡ done x end → Stored row c cols first t x end r next after
nested_as {A} {c = c} {row} {cols} {first = first} {t} {x = x} {end} n d =
    let z : done n.value n.end ≡ done x end = sym n.reads ∙ d in
    let e : n.value ≡ x = cc z in
    let k : n.end ≡ end = cc z in
    let q = n.stored ∙ ap (λ (a : A). sets t (first * c) (cols a)) e in
    record { is = n.is ∙ ap (row first) e; on = n.on ∙ k; stored = q; long = ap length q ∙ length-sets t (first * c) (cols x) }
