-- Loops over a counted list: what code has to show at a row, and around a loop that measures, sums or fills.
use Prim.Native.Nat.{ℕ, suc, zero, ◌+◌, ◌-◌, ◌*◌, ◌≤◌, ◌<◌}
use Rattle.std.specs.Prelude.{Result, Ok, Err}
use mathlib.Core.Path.{◌≡◌, refl, ap, ◌∙◌, sym}
use mathlib.Core.List.{List, [], ◌∷◌, flat_map}
use mathlib.Core.Bool.{true, false}
use native.Mathlib.Omega.{arith}
use native.Mathlib.Nat.{add-zero, zero-add, add_assoc, mul-suc}
use lib.ListN.{length}
use lib.Seq.{sets, length-sets}
use Rattle.wire.specs.declared.reads.Short.{Short}
use Rattle.wire.specs.Lists.{sum}
use Rattle.wire.specs.Prog.{Prog, ret, Out, done, short, run, ◌>>=◌, many}
use Rattle.wire.specs.Reads.{map_out, is_done, pos_of, rows_of, Summed}
use Rattle.wire.proofs.Reading.Runs.{out_and_then, run_bind}
use Rattle.wire.proofs.Reading.Walk.{never, map_done, From, step, halt, ends, undo, onward, cut_off, as_done, as_short}
use Rattle.wire.proofs.Reading.Steps.{sets_append}

-- of n rows those that are left behind the first i
pub all_left : (n : ℕ) → n - 0 ≡ n
all_left n = omega arith

pub one_less_left : (n i : ℕ) → n - (i + 1) ≡ n - i - 1
one_less_left n i = omega arith

-- what the next of them takes, and those behind it
pub most_left : (most n i : ℕ) → i < n → most * (n - i) ≡ most * (n - (i + 1)) + most
most_left most n i h = let e : n - i ≡ suc (n - (i + 1)) = omega arith in ap (λ (j : ℕ). most * j) e ∙ mul-suc most (n - (i + 1))

-- a row before those of a run
abbrev pub cons_to : {A : Type 0} → A → Out (List A) → Out (List A)
cons_to a (done l n) = done (a ∷ l) n
cons_to a (short n) = short n

then_cons : {A : Type 0} (a : A) (o : Out (List A)) (s : List ℕ) → out_and_then o (λ l k. run (ret (a ∷ l)) s k) ≡ cons_to a o
unfolding run
then_cons a (done l n) s = refl
then_cons a (short n) s = refl

module _ {A : Type 0} (p : Prog A) (s : List ℕ) where
  pub turn : (left pos : ℕ) {m : ℕ} {a : A} → 0 < left → done a m ≡ run p s pos → run (many left p) s pos ≡ cons_to a (run (many (left - 1) p) s m)
  unfolding many
  turn zero pos h e = absurd (omega arith)
  turn (suc k) pos {m} {a} h e =
      let z : k ≡ suc k - 1 = omega arith in
      step p _ s pos e ∙ run_bind (many k p) _ s m ∙ then_cons a (run (many k p) s m) s ∙ ap (λ (n : ℕ). cons_to a (run (many n p) s m)) z

  pub cut : (left pos : ℕ) {x : Short} → 0 < left → short x ≡ run p s pos → run (many left p) s pos ≡ short x
  unfolding many
  cut zero pos h e = absurd (omega arith)
  cut (suc k) pos h e = halt p _ s pos e

  -- no row is left
  pub none_left : (left pos : ℕ) → left ≤ 0 → run (many left p) s pos ≡ done [] pos
  unfolding many run
  none_left zero pos h = refl
  none_left (suc k) pos h = absurd (omega arith)

done_cons : {A : Type 0} (a : A) (o : Out (List A)) → is_done (cons_to a o) ≡ is_done o
done_cons a (done l n) = refl
done_cons a (short n) = refl

pos_cons : {A : Type 0} (a : A) (o : Out (List A)) → pos_of (cons_to a o) ≡ pos_of o
pos_cons a (done l n) = refl
pos_cons a (short n) = refl

rows_cons : {A : Type 0} (a : A) (o : Out (List A)) → is_done o ≡ true → rows_of (cons_to a o) ≡ a ∷ rows_of o
rows_cons a (done l n) h = refl
rows_cons a (short n) h = let z : ◌≡◌ {A = ℕ} 0 1 = cc in absurd (omega arith)

module _ {A : Type 0} (p : Prog A) (s : List ℕ) (left pos : ℕ) {m : ℕ} {a : A} (h : 0 < left) (e : done a m ≡ run p s pos) where
  pub done_turn : is_done (run (many (left - 1) p) s m) ≡ is_done (run (many left p) s pos)
  done_turn = sym (ap is_done (turn p s left pos h e) ∙ done_cons a (run (many (left - 1) p) s m))

  pub pos_turn : pos_of (run (many (left - 1) p) s m) ≡ pos_of (run (many left p) s pos)
  pos_turn = sym (ap pos_of (turn p s left pos h e) ∙ pos_cons a (run (many (left - 1) p) s m))

  -- the rows from here are this one and those from the next
  pub rows_turn : is_done (run (many left p) s pos) ≡ true → rows_of (run (many left p) s pos) ≡ a ∷ rows_of (run (many (left - 1) p) s m)
  rows_turn q = ap rows_of (turn p s left pos h e) ∙ rows_cons a (run (many (left - 1) p) s m) (done_turn ∙ q)

  -- what is stored from here is this row, and what is stored from the next
  pub fill_turn : (f : A → List ℕ) (t : List ℕ) (base : ℕ) → is_done (run (many left p) s pos) ≡ true
      → sets (sets t base (f a)) (base + length (f a)) (flat_map f (rows_of (run (many (left - 1) p) s m))) ≡ sets t base (flat_map f (rows_of (run (many left p) s pos)))
  unfolding flat_map
  fill_turn f t base q =
      sym
      (ap (λ (l : List A). sets t base (flat_map f l)) (rows_turn q)
      ∙ sets_append t base (f a) (flat_map f (rows_of (run (many (left - 1) p) s m))))

pub no_cut : {A X : Type 0} (p : Prog A) (s : List ℕ) (left pos : ℕ) {x : Short} → 0 < left → short x ≡ run p s pos
    → is_done (run (many left p) s pos) ≡ true → X
no_cut p s left pos h e q =
    let w : false ≡ true = sym (ap is_done (cut p s left pos h e)) ∙ q in
    let z : ◌≡◌ {A = ℕ} 0 1 = cc in
    absurd (omega arith)

-- a list that is done: so is its first row
pub first_done : {A : Type 0} (p : Prog A) (s : List ℕ) (left pos : ℕ) → 0 < left → is_done (run (many left p) s pos) ≡ true → is_done (run p s pos) ≡ true
first_done {A} p s left pos h q = go (run p s pos) refl
  where
    go : (o : Out A) → run p s pos ≡ o → is_done (run p s pos) ≡ true
    go (done a m) e = ap is_done e
    go (short x) e = no_cut p s left pos h (sym e) q

-- a list that is done, row by row
pub record Next {A : Type 0} (p : Prog A) (s : List ℕ) (left pos : ℕ) (l : List A) (end : ℕ) : Type 0 where
  pub row : A
  pub rest : List A
  pub middle : ℕ
  pub is : l ≡ row ∷ rest
  pub reads : run p s pos ≡ done row middle
  pub goes_on : run (many (left - 1) p) s middle ≡ done rest end

pub many_next : {A : Type 0} (p : Prog A) (s : List ℕ) (left pos : ℕ) {l : List A} {end : ℕ} → 0 < left → run (many left p) s pos ≡ done l end → Next p s left pos l end
unfolding many run
many_next p s zero pos h e = absurd (omega arith)
many_next {A} p s (suc k) pos {l} {end} h e =
    let w = undo p (λ a. many k p >>= λ r. ret (a ∷ r)) s pos e in
    let v = undo (many k p) (λ r. ret (w.0 ∷ r)) s w.1 w.3 in
    let z : w.0 ∷ v.0 ≡ l = cc v.3 in
    let n : v.1 ≡ end = cc v.3 in
    let k' : k ≡ suc k - 1 = omega arith in
    record { row = w.0; rest = v.0; middle = w.1; is = sym z; reads = w.2; goes_on = ap (λ (j : ℕ). run (many j p) s w.1) (sym k') ∙ v.2 ∙ ap (done v.0) n }

pub many_none : {A : Type 0} (p : Prog A) (s : List ℕ) (left pos : ℕ) {l : List A} {end : ℕ} → left ≤ 0 → run (many left p) s pos ≡ done l end → (l ≡ []) × (end ≡ pos)
many_none p s left pos {l} {end} h e =
    let z : done [] pos ≡ done l end = sym (none_left p s left pos h) ∙ e in
    let x : [] ≡ l = cc z in
    let y : pos ≡ end = cc z in
    (sym x, sym y)

-- as many rows as were asked for
pub many_long : {A : Type 0} (p : Prog A) (s : List ℕ) (k at : ℕ) (l : List A) (m : ℕ) → run (many k p) s at ≡ done l m → length l ≡ k
unfolding many run
many_long p s zero at l m e = let z : [] ≡ l = cc in sym (ap length z)
many_long {A} p s (suc k) at l m e =
    let w = undo p (λ a. many k p >>= λ r. ret (a ∷ r)) s at e in
    let v = undo (many k p) (λ r. ret (w.0 ∷ r)) s w.1 w.3 in
    let z : w.0 ∷ v.0 ≡ l = cc in
    sym (ap length z) ∙ ap suc (many_long p s k w.1 v.0 v.1 v.2)

-- rows that take as many bytes as their number says
pub many_weighs : {A : Type 0} (p : Prog A) (s : List ℕ) (size : A → ℕ) → ((at : ℕ) (x : A) (m : ℕ) → run p s at ≡ done x m → at + size x ≤ m)
    → (k at : ℕ) (l : List A) (m : ℕ) → run (many k p) s at ≡ done l m → at + sum size l ≤ m
unfolding sum
many_weighs {A} p s size h zero at l m e =
    let (q, n) = many_none p s 0 at (omega arith) e in
    omega (arith, ap (sum size) q, n)
many_weighs {A} p s size h (suc k) at l m e =
    let n = many_next p s (suc k) at (omega arith) e in
    let j : suc k - 1 ≡ k = omega arith in
    let r : n.middle + sum size n.rest ≤ m = many_weighs p s size h k n.middle n.rest m (ap (λ (i : ℕ). run (many i p) s n.middle) (sym j) ∙ n.goes_on) in
    let q : sum size l ≡ size n.row + sum size n.rest = ap (sum size) n.is in
    omega (arith, r, h at n.row n.middle n.reads, q)

-- A loop that carries what it knows of the rows so far: g says what that comes to with those that are left.
pub record Carrying {A B C : Type 0} (p : Prog A) (g : B → List A → C) (s : List ℕ) (at count : ℕ) (start : B) (pos left : ℕ) (acc : B) : Type 0 where
  pub inside : pos ≤ length s
  pub same : map_out (g acc) (run (many left p) s pos) ≡ map_out (g start) (run (many count p) s at)

map_cons : {A C : Type 0} (f g : List A → C) (a : A) (o : Out (List A)) → ((l : List A) → f l ≡ g (a ∷ l)) → map_out f o ≡ map_out g (cons_to a o)
map_cons f g a (done l n) h = ap (λ c. done c n) (h l)
map_cons f g a (short n) h = refl

module _ {A B C : Type 0} {p : Prog A} {g : B → List A → C} {s : List ℕ} {at count : ℕ} {start : B} {pos left : ℕ} {acc : B} (i : Carrying p g s at count start pos left acc) where
  pub carry_turn : {m : ℕ} {a : A} {acc' : B} → 0 < left → done a m ≡ run p s pos → ((l : List A) → g acc' l ≡ g acc (a ∷ l)) → Carrying p g s at count start m (left - 1) acc'
  carry_turn {m} {a} {acc'} h e q = record {
    inside = ends p s pos i.inside e;
    same = map_cons (g acc') (g acc) a (run (many (left - 1) p) s m) q ∙ sym (ap (map_out (g acc)) (turn p s left pos h e)) ∙ i.same;
  }

  -- a row is cut off: so is the list
  pub carry_cut : {x : Short} → 0 < left → short x ≡ run p s pos → short x ≡ map_out (g start) (run (many count p) s at)
  carry_cut h e = sym (ap (map_out (g acc)) (cut p s left pos h e)) ∙ i.same

  pub carry_end : left ≤ 0 → done (g acc []) pos ≡ map_out (g start) (run (many count p) s at)
  carry_end h = sym (ap (map_out (g acc)) (none_left p s left pos h)) ∙ i.same

-- a loop that measures: it carries nothing but its position
abbrev pub Measuring : {A : Type 0} → Prog A → List ℕ → ℕ → ℕ → ℕ → ℕ → Type 0
Measuring p s at count pos left = Carrying p (λ u l. tt {0}) s at count (tt {0}) pos left (tt {0})

-- A loop that sums a number of each row up, which is at most `most`.
pub record Summing {A : Type 0} (p : Prog A) (f : A → ℕ) (most : ℕ) (s : List ℕ) (at count pos left acc : ℕ) : Type 0 where
  pub carries : Carrying p (λ n l. n + sum f l) s at count 0 pos left acc
  pub small : acc + most * left ≤ most * count

zero_first : {A : Type 0} (f : A → ℕ) (o : Out (List A)) → map_out (λ l. 0 + sum f l) o ≡ map_out (sum f) o
zero_first f (done l n) = ap (λ (m : ℕ). done m n) (zero-add (sum f l))
zero_first f (short x) = refl

pub one_less : (most left : ℕ) → 0 < left → most * left ≡ most * (left - 1) + most
one_less most left h = ap (λ (j : ℕ). most * j) (omega arith) ∙ mul-suc most (left - 1)

module _ {A : Type 0} (p : Prog A) (f : A → ℕ) (most : ℕ) (s : List ℕ) (at count : ℕ) where
  pub sum_start : at ≤ length s → Summing p f most s at count at count 0
  sum_start h = record { carries = record { inside = h; same = refl }; small = omega arith }

  module _ {pos left acc : ℕ} (i : Summing p f most s at count pos left acc) (h : 0 < left) where
    pub sum_turn : {n m : ℕ} → Summed p f most s pos (Ok (n, m)) → Summing p f most s at count m (left - 1) (acc + n)
    unfolding sum
    sum_turn {n} {m} w =
        let (a, d, q) = as_done f (run p s pos) (sym w.is) in
        let k : n ≤ most = w.small in
        record {
          carries = carry_turn i.carries h (sym d) (λ l. ap (λ (x : ℕ). acc + x + sum f l) (sym q) ∙ add_assoc acc (f a) (sum f l));
          small = omega (arith, i.small, one_less most left h, k);
        }

    pub sum_cut : {x : Short} → Summed p f most s pos (Err x) → Summed (many count p) (sum f) (most * count) s at (Err x)
    sum_cut w = record { is = carry_cut i.carries h (sym (as_short f (run p s pos) (sym w.is))) ∙ zero_first f (run (many count p) s at); small = omega arith }

  pub sum_end : {pos left acc : ℕ} → Summing p f most s at count pos left acc → left ≤ 0 → Summed (many count p) (sum f) (most * count) s at (Ok (acc, pos))
  unfolding sum
  sum_end {pos} {acc = acc} i h = record {
    is = ap (λ (n : ℕ). done n pos) (sym (add-zero acc)) ∙ carry_end i.carries h ∙ zero_first f (run (many count p) s at);
    small = omega (arith, i.small);
  }

-- what was summed up of the rows, and where they end
pub summed_rows : {A : Type 0} (f : A → ℕ) (o : Out (List A)) {z n : ℕ} → done z n ≡ map_out (sum f) o → (z ≡ sum f (rows_of o)) × (n ≡ pos_of o)
summed_rows f (done l m) e = (cc e, cc e)
summed_rows f (short x) e = never (sym e)

-- what a function has at a return that has summed a number up
pub summed_done : {A : Type 0} {p : Prog A} {f : A → ℕ} {most : ℕ} {s : List ℕ} {at : ℕ} {a : A} {n m : ℕ} → done a m ≡ run p s at → n ≡ f a → n ≤ most
    → Summed p f most s at (Ok (n, m))
summed_done {f = f} {m = m} e q h = record { is = ap (λ (n : ℕ). done n m) q ∙ ap (map_out f) e; small = h }

pub summed_short : {A : Type 0} {p : Prog A} {f : A → ℕ} {most : ℕ} {s : List ℕ} {at : ℕ} {x : Short} → short x ≡ run p s at → Summed p f most s at (Err x)
summed_short {f = f} e = record { is = ap (map_out f) e; small = omega arith }

-- a part whose number was summed up, in a program that goes on with it
pub record WentOn {A B : Type 0} (p : Prog A) (g : A → ℕ) (f : A → Prog B) (whole : Prog B) (s : List ℕ) (start at v m : ℕ) : Type 0 where
  pub value : A
  pub reads : run p s at ≡ done value m
  pub is : g value ≡ v
  pub place : From whole s start (f value) m

module _ {A B : Type 0} (p : Prog A) (f : A → Prog B) {g : A → ℕ} {most : ℕ} {whole : Prog B} {s : List ℕ} {start at : ℕ} (w : From whole s start (p >>= f) at) where
  pub sum_onward : {v m : ℕ} → Summed p g most s at (Ok (v, m)) → WentOn p g f whole s start at v m
  sum_onward x = let (a, d, q) = as_done g (run p s at) (sym x.is) in record { value = a; reads = d; is = q; place = onward p f w (sym d) }

  pub sum_cut_off : {y : Short} → Summed p g most s at (Err y) → short y ≡ run whole s start
  sum_cut_off x = cut_off p f w (sym (as_short g (run p s at) (sym x.is)))

-- the same number by another name
pub summed_as : {A : Type 0} {p : Prog A} {f g : A → ℕ} {most : ℕ} {s : List ℕ} {at : ℕ} {r : Result (ℕ × ℕ) Short} → f ≡ g → Summed p f most s at r → Summed p g most s at r
summed_as e w = rw (← e) w

-- A loop that stores a list of rows of w columns each.
pub record Filling {A : Type 0} (p : Prog A) (f : A → List ℕ) (w : ℕ) (s : List ℕ) (at count : ℕ) (t₀ : List ℕ) (base : ℕ) (t : List ℕ) (pos left to : ℕ) : Type 0 where
  pub inside : pos ≤ length s
  pub long : length t ≡ length t₀
  pub place : to + w * left ≡ base + w * count
  pub sound : is_done (run (many left p) s pos) ≡ true
  pub end : pos_of (run (many left p) s pos) ≡ pos_of (run (many count p) s at)
  pub stored : sets t to (flat_map f (rows_of (run (many left p) s pos))) ≡ sets t₀ base (flat_map f (rows_of (run (many count p) s at)))

module _ {A : Type 0} (p : Prog A) (f : A → List ℕ) (w : ℕ) (s : List ℕ) (at count : ℕ) (t₀ : List ℕ) (base : ℕ) (t : List ℕ) (pos left to : ℕ) where
  pub fill_next : {m : ℕ} {a : A} {t' row : List ℕ} → Filling p f w s at count t₀ base t pos left to → 0 < left → done a m ≡ run p s pos
      → length (f a) ≡ w → row ≡ f a → t' ≡ sets t to row → Filling p f w s at count t₀ base t' m (left - 1) (to + w)
  fill_next {m} {a} {t' = t'} i h e n c r =
      let next : List ℕ = flat_map f (rows_of (run (many (left - 1) p) s m)) in
      let z : t' ≡ sets t to (f a) = r ∙ ap (λ (l : List ℕ). sets t to l) c in
      record {
        inside = ends p s pos i.inside e;
        long = ap length z ∙ length-sets t to (f a) ∙ i.long;
        place = omega (arith, i.place, one_less w left h);
        sound = done_turn p s left pos h e ∙ i.sound;
        end = pos_turn p s left pos h e ∙ i.end;
        stored =
            ap (λ (l : List ℕ). sets l (to + w) next) z
            ∙ ap (λ (j : ℕ). sets (sets t to (f a)) (to + j) next) (sym n)
            ∙ fill_turn p s left pos h e f t to i.sound
            ∙ i.stored;
      }

  pub fill_end : Filling p f w s at count t₀ base t pos left to → left ≤ 0
      → (pos ≡ pos_of (run (many count p) s at)) × (t ≡ sets t₀ base (flat_map f (rows_of (run (many count p) s at))))
  unfolding flat_map
  fill_end i h =
      let e = none_left p s left pos h in
      (sym (ap pos_of e) ∙ i.end, sym (ap (λ (o : Out (List A)). sets t to (flat_map f (rows_of o))) e) ∙ i.stored)

-- a loop over rows that were measured, which sums a number of each up: the next row was
pub sum_next : {A : Type 0} (p : Prog A) {f : A → ℕ} {most : ℕ} {s : List ℕ} {at count pos left acc : ℕ} → Summing p f most s at count pos left acc → 0 < left
    → is_done (run (many count p) s at) ≡ true → is_done (run p s pos) ≡ true
sum_next p {s = s} {at} {count} {pos} {left} i h q =
    first_done p s left pos h (sym (map_done _ (run (many left p) s pos)) ∙ ap is_done i.carries.same ∙ map_done _ (run (many count p) s at) ∙ q)
