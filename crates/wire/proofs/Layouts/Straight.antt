-- A layout is read without tests: its reads end where reads of their sizes do, and its columns are what the bytes say.
use Prim.Native.Nat.{ℕ, zero, suc, ◌+◌, ◌*◌, ◌≤◌, ◌<◌}
use mathlib.Core.Path.{◌≡◌, refl, sym, ap, subst, ◌∙◌}
use mathlib.Core.List.{List, [], ◌∷◌, ◌++◌, map, flatten}
use mathlib.Core.Bool.{Bool, true, false, not, ◌&&◌}
use native.Mathlib.Omega.{arith}
use native.Mathlib.Nat.{add-zero, zero-add, add_assoc}
use lib.ListN.{length, get_or}
use lib.Seq.{slice, slice-cons}
use lib.Dec.{leb, eqb}
use borrow.Author.Tests.{leb-true, leb-false, le-leb, lt-leb, not-true, eq-eqb, ne_eqb}
use Rattle.wire.specs.Lists.{each}
use Rattle.wire.specs.Bits.{total, split}
use Rattle.wire.specs.Prog.{Prog, ret, u8, Out, done, short, needing, run, ◌>>=◌}
use Rattle.wire.specs.Reads.{map_out, end_of, is_done}
use Rattle.wire.specs.Act.{pick}
use Rattle.wire.specs.Layout.{Cell, Layout, end, line, word, choose, follows, judged, optional, width, column, Columns, set, columns, put, puts, reads, row, flat, blank, has}
use Rattle.wire.specs.Straight.{ends, ones, on, puts_at, took, taken, spans, sizes, blanks, PartTaken}
use Rattle.wire.proofs.Reading.Runs.{out_and_then, run_bind}
use Rattle.wire.proofs.Layouts.Cells.{all, free, free_apart, apart_left, apart_right, On, Off, Apart, or_none, has_append, none_columns, put_else, set_else}
use Rattle.wire.proofs.Writing.Acts.{and_both}
use Rattle.wire.proofs.Reading.Walk.{map_done, byte_next, is_done_lem}
use Rattle.wire.specs.declared.reads.Short.{Short}

-- ---- reads of known sizes

pub ends_got : (n : ℕ) (ns s : List ℕ) (at : ℕ) → at + n ≤ length s → ends (n ∷ ns) s at ≡ ends ns s (at + n)
unfolding ends
ends_got n ns s at h = rw (le-leb (at + n) (length s) h, ends)

pub ends_lacks : (n : ℕ) (ns s : List ℕ) (at : ℕ) → length s < at + n → ends (n ∷ ns) s at ≡ short (needing (at + n))
unfolding ends
ends_lacks n ns s at h = rw (lt-leb (at + n) (length s) h, ends)

-- one after the other
unfoldable pub then_ends : Out (Unit {0}) → List ℕ → List ℕ → Out (Unit {0})
then_ends (done u m) b s = ends b s m
then_ends (short x) b s = short x

pub ends_append : (a b s : List ℕ) (at : ℕ) → ends (a ++ b) s at ≡ then_ends (ends a s at) b s
unfolding ends then_ends
ends_append [] b s at = refl
ends_append (n ∷ a) b s at = go (leb (at + n) (length s)) (ends (a ++ b) s (at + n)) (ends a s (at + n)) (ends_append a b s (at + n))
  where
    go : (t : Bool) (x y : Out (Unit {0})) → x ≡ then_ends y b s
        → ◌≡◌ {A = Out (Unit {0})} (elim t [ true ↦ x | false ↦ short (needing (at + n)) ]) (then_ends (elim t [ true ↦ y | false ↦ short (needing (at + n)) ]) b s)
    go true x y e = e
    go false x y e = refl

pub ends_at : (a s : List ℕ) (at : ℕ) {u : Unit {0}} {m : ℕ} → ends a s at ≡ done u m → m ≡ at + total a
unfolding ends total
ends_at [] s at {u} {m} e = let z : at ≡ m = cc e in sym z ∙ sym (add-zero at)
ends_at (n ∷ a) s at e = go (leb (at + n) (length s)) (ends a s (at + n)) (ends_at a s (at + n)) e
  where
    go : (t : Bool) (x : Out (Unit {0})) {u : Unit {0}} {m : ℕ} → (x ≡ done u m → m ≡ at + n + total a)
        → ◌≡◌ {A = Out (Unit {0})} (elim t [ true ↦ x | false ↦ short (needing (at + n)) ]) (done u m) → m ≡ at + (n + total a)
    go true x h e = h e ∙ add_assoc at n (total a)
    go false x h e = let z : ◌≡◌ {A = ℕ} 0 1 = cc e in absurd (omega arith)

-- n of one byte are one comparison
pub ones_got : (n : ℕ) (s : List ℕ) (at : ℕ) → at + n ≤ length s → ends (ones n) s at ≡ done tt (at + n)
unfolding ends ones
ones_got zero s at h = ap (done tt) (sym (add-zero at))
ones_got (suc n) s at h = let q : at + 1 + n ≡ at + suc n = omega arith in ends_got 1 (ones n) s at (omega arith) ∙ ones_got n s (at + 1) (omega arith) ∙ ap (done tt) q

pub ones_lacks : (n : ℕ) (s : List ℕ) (at : ℕ) → at ≤ length s → length s < at + n → ends (ones n) s at ≡ short (needing (length s + 1))
unfolding ones
ones_lacks zero s at h l = absurd (omega arith)
ones_lacks (suc n) s at h l = go (leb (at + 1) (length s)) refl (λ k. ones_lacks n s (at + 1) k (omega arith))
  where
    go : (t : Bool) → leb (at + 1) (length s) ≡ t → (at + 1 ≤ length s → ends (ones n) s (at + 1) ≡ short (needing (length s + 1)))
        → ends (1 ∷ ones n) s at ≡ short (needing (length s + 1))
    go true e r = let k = leb-true (at + 1) (length s) e in ends_got 1 (ones n) s at k ∙ r k
    go false e r = let k = leb-false (at + 1) (length s) e in let q : at ≡ length s = omega arith in ends_lacks 1 (ones n) s at k ∙ ap (λ (k : ℕ). short (needing (k + 1))) q

pub ends_within : (a s : List ℕ) (at : ℕ) {u : Unit {0}} {m : ℕ} → at ≤ length s → ends a s at ≡ done u m → m ≤ length s
unfolding ends
ends_within [] s at {u} {m} h e = let z : at ≡ m = cc e in omega arith
ends_within (n ∷ a) s at h e = go (leb (at + n) (length s)) refl (ends a s (at + n)) (λ k q. ends_within a s (at + n) k q) e
  where
    go : (t : Bool) → leb (at + n) (length s) ≡ t → (x : Out (Unit {0})) {u : Unit {0}} {m : ℕ} → (at + n ≤ length s → x ≡ done u m → m ≤ length s)
        → ◌≡◌ {A = Out (Unit {0})} (elim t [ true ↦ x | false ↦ short (needing (at + n)) ]) (done u m) → m ≤ length s
    go true q x h e = h (leb-true _ _ q) e
    go false q x h e = let z : ◌≡◌ {A = ℕ} 0 1 = cc e in absurd (omega arith)

pub ends_few : (a s : List ℕ) (at : ℕ) {x : Short} → ends a s at ≡ short x → length s < at + total a
unfolding ends total
ends_few [] s at e = let z : ◌≡◌ {A = ℕ} 0 1 = cc e in absurd (omega arith)
ends_few (n ∷ a) s at e = go (leb (at + n) (length s)) refl (ends a s (at + n)) (ends_few a s (at + n)) e
  where
    go : (t : Bool) → leb (at + n) (length s) ≡ t → (y : Out (Unit {0})) {x : Short} → (y ≡ short x → length s < at + n + total a)
        → ◌≡◌ {A = Out (Unit {0})} (elim t [ true ↦ y | false ↦ short (needing (at + n)) ]) (short x) → length s < at + (n + total a)
    go true q y h e = omega (arith, h e)
    go false q y h e = omega (arith, leb-false (at + n) (length s) q)

-- code stands behind the first of them, or has been refused
pub ends_on : (a b s : List ℕ) (at : ℕ) {m : ℕ} → done tt m ≡ ends a s at → ends (a ++ b) s at ≡ ends b s m
unfolding then_ends
ends_on a b s at e = ends_append a b s at ∙ ap (λ (o : Out (Unit {0})). then_ends o b s) (sym e)

pub ends_cut : (a b s : List ℕ) (at : ℕ) {x : Short} → short x ≡ ends a s at → short x ≡ ends (a ++ b) s at
unfolding then_ends
ends_cut a b s at e = sym (ends_append a b s at ∙ ap (λ (o : Out (Unit {0})). then_ends o b s) (sym e))

-- reads that are done: how far they go
pub ends_done : (a s : List ℕ) (at : ℕ) → at ≤ length s → is_done (ends a s at) ≡ true → (ends a s at ≡ done tt (at + total a)) × (at + total a ≤ length s)
ends_done a s at h q =
    let (u, m, e) = is_done_lem (ends a s at) q in
    let n = ends_at a s at e in
    (e ∙ ap (done tt) n, rw n at (ends_within a s at h e))

-- ---- single bytes, of which the first was read

pub total_ones : (n : ℕ) → total (ones n) ≡ n
unfolding total ones
total_ones zero = refl
total_ones (suc n) = omega (arith, total_ones n)

-- k of them are there from a position on, and code stands behind them
pub record Past (s : List ℕ) (at k n : ℕ) : Type 0 where
  pub is : n ≡ at + k
  pub inside : at + k ≤ length s

pub ones_past : (k : ℕ) (s : List ℕ) (at : ℕ) {n : ℕ} → at ≤ length s → done tt n ≡ ends (ones k) s at → Past s at k n
ones_past k s at h e =
    let q = ends_at (ones k) s at (sym e) ∙ ap (λ (t : ℕ). at + t) (total_ones k) in
    record { is = q; inside = rw q at (ends_within (ones k) s at h (sym e)) }

pub ones_append : (k t : ℕ) → ones k ++ ones t ≡ ones (k + t)
unfolding ones
ones_append zero t = ap ones (sym (zero-add t))
ones_append (suc k) t = let e : suc k + t ≡ suc (k + t) = omega arith in ap (λ (l : List ℕ). 1 ∷ l) (ones_append k t) ∙ ap ones (sym e)

pub ones_more : (n : ℕ) → ones (1 + n) ≡ 1 ∷ ones n
unfolding ones
ones_more n = let e : 1 + n ≡ suc n = omega arith in ap ones e

-- code stands behind one byte, at n
pub record Behind (s : List ℕ) (at n : ℕ) : Type 0 where
  pub there : at < length s
  pub inside : n ≤ length s
  pub is : n ≡ at + 1
  pub goes : (more : List ℕ) → ends (ones 1 ++ more) s at ≡ ends more s n

pub behind_one : (s : List ℕ) (at : ℕ) {n : ℕ} → at ≤ length s → done tt n ≡ ends (ones 1) s at → Behind s at n
unfolding ones total
behind_one s at h e =
    let i = ends_within (ones 1) s at h (sym e) in
    let q = ends_at (ones 1) s at (sym e) in
    record { there = omega arith; inside = i; is = q; goes = λ more. ends_on (ones 1) more s at e }

pub one_cut : (k : ℕ) (s : List ℕ) (at : ℕ) {x : Short} → short x ≡ ends (ones 1) s at → short x ≡ ends (ones (1 + k)) s at
unfolding ones
one_cut k s at e = ends_cut (ones 1) (ones k) s at e ∙ ap (λ (l : List ℕ). ends l s at) (sym (ones_more k))

pub one_more : {s : List ℕ} {at n k j : ℕ} → Behind s at n → k ≡ j → {o : Out (Unit {0})} → o ≡ ends (ones k) s n → o ≡ ends (ones (1 + j)) s at
unfolding ones
one_more {s} {at} {n} {k} {j} w q e = e ∙ ap (λ (k : ℕ). ends (ones k) s n) q ∙ sym (w.goes (ones j)) ∙ ap (λ (l : List ℕ). ends l s at) (sym (ones_more j))

-- ---- a layout

-- ---- a program that begins with n reads of one byte: what follows them if they are there, and the refusal if they are not

unfoldable pub singly : {A : Type 0} → ℕ → (List ℕ → Prog A) → Prog A
singly zero f = f []
singly (suc n) f = u8 >>= λ b. singly n (λ l. f (b ∷ l))

pub singly_there : {A : Type 0} (n : ℕ) (f : List ℕ → Prog A) (s : List ℕ) (at : ℕ) → at + n ≤ length s → run (singly n f) s at ≡ run (f (each (λ i. get_or s i 0) at n)) s (at + n)
unfolding singly each
singly_there zero f s at h = ap (run (f []) s) (sym (add-zero at))
singly_there (suc n) f s at h =
    let k : at + 1 + n ≡ at + suc n = omega arith in
    byte_next _ s at (omega arith) refl ∙ singly_there n (λ l. f (get_or s at 0 ∷ l)) s (at + 1) (omega arith) ∙ ap (run (f (get_or s at 0 ∷ each (λ i. get_or s i 0) (at + 1) n)) s) k

pub singly_cut : {A : Type 0} (n : ℕ) (f : List ℕ → Prog A) (s : List ℕ) (at : ℕ) {x : Short} → ends (ones n) s at ≡ short x → run (singly n f) s at ≡ short x
unfolding singly ends ones run u8 ◌>>=◌
singly_cut zero f s at e = absurd (let z : ◌≡◌ {A = ℕ} 0 1 = cc e in omega arith)
singly_cut {A} (suc n) f s at {x} e = go (leb (at + 1) (length s)) (λ e. singly_cut n _ s (at + 1) e) e
  where
    go : (b : Bool) {o : Out (Unit {0})} {q : Out A} → (o ≡ short x → q ≡ short x)
        → ◌≡◌ {A = Out (Unit {0})} (elim b [ true ↦ o | false ↦ short (needing (at + 1)) ]) (short x)
        → ◌≡◌ {A = Out A} (elim b [ true ↦ q | false ↦ short (needing (at + 1)) ]) (short x)
    go true h e = h e
    go false h e = let z : needing (at + 1) ≡ x = cc e in ap short z

pub on_is : (at i : ℕ) → on at i ≡ at + i
on_is at zero = sym (add-zero at)
on_is at (suc i) = refl

on_add : (at i n : ℕ) → on at (i + n) ≡ on at i + n
on_add at i n = on_is at (i + n) ∙ omega (arith, on_is at i)

puts_at_lem : (css : List (List Cell)) (s : List ℕ) (at i p : ℕ) (f : Columns) → on at i ≡ p → p + length css ≤ length s → puts css (slice p (p + length css) s) f ≡ puts_at css s at i f
unfolding puts puts_at
puts_at_lem [] s at i p f q h = refl
puts_at_lem (cs ∷ css) s at i p f q h =
    let n : p + suc (length css) ≡ suc p + length css = omega arith in
    let e : slice p (p + suc (length css)) s ≡ get_or s p 0 ∷ slice (suc p) (suc p + length css) s =
    slice-cons p (p + suc (length css)) s 0 (omega arith) (omega arith) ∙ ap (λ (k : ℕ). get_or s p 0 ∷ slice (suc p) k s) n in
    let z : on at (i + 1) ≡ suc p = on_add at i 1 ∙ omega (arith, q) in
    rw (e, q) (ap (put cs (split (map width cs) (get_or s p 0))) (puts_at_lem css s at (i + 1) (suc p) f z (omega arith)))

-- what a run comes to: the columns, where its reads end
abbrev pub Read : Columns × List ℕ → List ℕ → ℕ → Out Columns
Read q s at = map_out (λ u. q.0) (ends q.1 s at)

read_then : (q : Columns × List ℕ) (l : Layout) (s : List ℕ) (at : ℕ) → ((m : ℕ) → run (reads l q.0) s m ≡ Read (took l q.0 s m 0) s m)
    → out_and_then (Read q s at) (λ g m. run (reads l g) s m) ≡ Read ((took l q.0 s (at + total q.1) 0).0, q.1 ++ (took l q.0 s (at + total q.1) 0).1) s at
unfolding then_ends
read_then q l s at h = go (ends q.1 s at) refl
  where
    go : (o : Out (Unit {0})) → ends q.1 s at ≡ o
        → out_and_then (map_out (λ u. q.0) (ends q.1 s at)) (λ g m. run (reads l g) s m) ≡ Read ((took l q.0 s (at + total q.1) 0).0, q.1 ++ (took l q.0 s (at + total q.1) 0).1) s at
    go (done u m) e =
        let n : at + total q.1 ≡ m = sym (ends_at q.1 s at e) in
        rw (n, ends_append q.1 (took l q.0 s m 0).1 s at, e) (h m)
    go (short x) e = rw (ends_append q.1 (took l q.0 s (at + total q.1) 0).1 s at, e)

-- a byte of a read of one
byte_of : (s : List ℕ) (p : ℕ) → p + 1 ≤ length s → get_or (slice p (p + 1) s) 0 0 ≡ get_or s p 0
byte_of s p h = ap (λ (l : List ℕ). get_or l 0 0) (slice-cons p (p + 1) s 0 (omega arith) (omega arith))

-- a number of two bytes, and what is read behind it
word_at : (k : ℕ) (l : Layout) (f : Columns) (s : List ℕ) (p q : ℕ) (t : Columns → Columns × List ℕ) → q ≡ p + 1
    → ((g : Columns) → run (reads l g) s (p + 1 + 1) ≡ Read (t g) s (p + 1 + 1))
    → run (reads (word k l) f) s p ≡ Read ((t (set k (get_or s p 0 * 256 + get_or s q 0) f)).0, 1 ∷ 1 ∷ (t (set k (get_or s p 0 * 256 + get_or s q 0) f)).1) s p
unfolding reads run ends
word_at k l f s p q t e h = go (leb (p + 1) (length s)) (leb (p + 1 + 1) (length s)) refl refl
  where
    g : Columns
    g = set k (get_or s p 0 * 256 + get_or s q 0) f

    go : (b c : Bool) → leb (p + 1) (length s) ≡ b → leb (p + 1 + 1) (length s) ≡ c
        → ◌≡◌ {A = Out Columns}
        (elim b [ true ↦ elim c [ true ↦ run (reads l (set k (get_or (slice p (p + 1) s) 0 0 * 256 + get_or (slice (p + 1) (p + 1 + 1) s) 0 0) f)) s (p + 1 + 1) | false ↦ short (needing (p + 1 + 1)) ] | false ↦ short (needing (p + 1)) ])
        (map_out {A = Unit {0}} (λ u. (t g).0) (elim b [ true ↦ elim c [ true ↦ ends (t g).1 s (p + 1 + 1) | false ↦ short (needing (p + 1 + 1)) ] | false ↦ short (needing (p + 1)) ]))
    go true true x y =
        let lo = byte_of s (p + 1) (leb-true _ _ y) ∙ ap (λ (k : ℕ). get_or s k 0) (sym e) in
        (λ i. run (reads l (set k (byte_of s p (leb-true _ _ x) i * 256 + lo i) f)) s (p + 1 + 1)) ∙ h g
    go true false x y = refl
    go false c x y = refl

read_at : (l : Layout) (f : Columns) (s : List ℕ) (at i : ℕ) → run (reads l f) s (on at i) ≡ Read (took l f s at i) s (on at i)
unfolding reads run took ends
read_at end f s at i = refl
read_at (line css l) f s at i =
    go (on at i) refl (leb (on at i + length css) (length s)) refl
    (subst (λ (k : ℕ). run (reads l (puts_at css s at i f)) s k ≡ Read (took l (puts_at css s at i f) s at (i + length css)) s k) (on_add at i (length css)) (read_at l (puts_at css s at i f) s at (i + length css)))
  where
    go : (p : ℕ) → on at i ≡ p → (b : Bool) → leb (p + length css) (length s) ≡ b
        → run (reads l (puts_at css s at i f)) s (p + length css) ≡ Read (took l (puts_at css s at i f) s at (i + length css)) s (p + length css)
        → ◌≡◌ {A = Out Columns} (elim b [ true ↦ run (reads l (puts css (slice p (p + length css) s) f)) s (p + length css) | false ↦ short (needing (p + length css)) ])
        (map_out {A = Unit {0}} (λ u. (took l (puts_at css s at i f) s at (i + length css)).0) (elim b [ true ↦ ends (took l (puts_at css s at i f) s at (i + length css)).1 s (p + length css) | false ↦ short (needing (p + length css)) ]))
    go p q true e h = rw (puts_at_lem css s at i p f q (leb-true _ _ e)) h
    go p q false e h = refl
read_at (word k l) f s at i =
    word_at k l f s (on at i) (on at (i + 1)) (λ g. took l g s at (i + 2)) (on_add at i 1)
    (λ g. subst (λ (m : ℕ). run (reads l g) s m ≡ Read (took l g s at (i + 2)) s m) (on_add at i 2 ∙ omega arith) (read_at l g s at (i + 2)))
read_at (choose k is p q l) f s at i =
    let x = pick (is (f k)) (took p f s (on at i) 0) (took q f s (on at i) 0) in
    run_bind (pick (is (f k)) (reads p f) (reads q f)) (λ g. reads l g) s (on at i)
    ∙ ap (λ (o : Out Columns). out_and_then o (λ g m. run (reads l g) s m)) (go (is (f k)) (read_at p f s (on at i) 0) (read_at q f s (on at i) 0))
    ∙ read_then x l s (on at i) (λ m. read_at l x.0 s m 0)
  where
    go : (b : Bool) → run (reads p f) s (on at i) ≡ Read (took p f s (on at i) 0) s (on at i) → run (reads q f) s (on at i) ≡ Read (took q f s (on at i) 0) s (on at i)
        → run (pick b (reads p f) (reads q f)) s (on at i) ≡ Read (pick b (took p f s (on at i) 0) (took q f s (on at i) 0)) s (on at i)
    go true x y = x
    go false x y = y
read_at (follows c j t x l) f s at i = read_at l (set (column c) (get_or t (f j) 0) f) s at i
read_at (judged p l) f s at i =
    let x = took p f s (on at i) 0 in
    run_bind (reads p f) (λ g. reads l g) s (on at i)
    ∙ ap (λ (o : Out Columns). out_and_then o (λ g m. run (reads l g) s m)) (read_at p f s (on at i) 0)
    ∙ read_then x l s (on at i) (λ m. read_at l x.0 s m 0)

pub read_so : (l : Layout) (f : Columns) (s : List ℕ) (at : ℕ) → run (reads l f) s at ≡ map_out (λ u. taken l f s at) (ends (spans l f s at) s at)
read_so l f s at = read_at l f s at 0

-- a row of n columns
row_then : (n : ℕ) (g : Columns) (o : Out (Unit {0})) (s : List ℕ) → out_and_then (map_out (λ u. g) o) (λ g m. run (ret (row n g)) s m) ≡ map_out (λ u. row n g) o
unfolding run
row_then n g (done u m) s = refl
row_then n g (short x) s = refl

pub flat_so : (n : ℕ) (l : Layout) (s : List ℕ) (at : ℕ) → run (flat n l) s at ≡ map_out (λ u. row n (taken l blank s at)) (ends (spans l blank s at) s at)
flat_so n l s at =
    run_bind (reads l blank) (λ g. ret (row n g)) s at
    ∙ ap (λ (o : Out Columns). out_and_then o (λ g m. run (ret (row n g)) s m)) (read_so l blank s at)
    ∙ row_then n (taken l blank s at) (ends (spans l blank s at) s at) s

pub end_of_lem : {A : Type 0} (a : A) (o : Out (Unit {0})) → end_of (map_out (λ u. a) o) ≡ o
end_of_lem a (done u m) = refl
end_of_lem a (short x) = refl

-- where a row ends is where its reads end
pub flat_ends : (n : ℕ) (l : Layout) (s : List ℕ) (at : ℕ) → end_of (run (flat n l) s at) ≡ ends (spans l blank s at) s at
flat_ends n l s at = ap end_of (flat_so n l s at) ∙ end_of_lem (row n (taken l blank s at)) (ends (spans l blank s at) s at)

-- a row that was measured: its columns, where it ends, and that its bytes are there
pub record Whole (n : ℕ) (l : Layout) (s : List ℕ) (at : ℕ) : Type 0 where
  pub is : run (flat n l) s at ≡ done (row n (taken l blank s at)) (at + total (spans l blank s at))
  pub there : at + total (spans l blank s at) ≤ length s

pub flat_done : (n : ℕ) (l : Layout) (s : List ℕ) (at : ℕ) → at ≤ length s → is_done (run (flat n l) s at) ≡ true → Whole n l s at
flat_done n l s at h q =
    let (e, w) = ends_done (spans l blank s at) s at h (sym (ap is_done (flat_so n l s at) ∙ map_done _ (ends (spans l blank s at) s at)) ∙ q) in
    record { is = flat_so n l s at ∙ ap (map_out (λ u. row n (taken l blank s at))) e; there = w }

-- ---- columns that a layout does not have

puts_off : (css : List (List Cell)) (s : List ℕ) (at i : ℕ) (f : Columns) → Off (columns (flatten css)) (puts_at css s at i f) f
unfolding puts_at flatten
puts_off [] s at i f j e = refl
puts_off (cs ∷ css) s at i f j e = let (a, b) = none_columns j cs (flatten css) e in put_else cs _ (puts_at css s at (i + 1) f) j a ∙ puts_off css s at (i + 1) f j b

pub taken_off : (l : Layout) (f : Columns) (s : List ℕ) (at i : ℕ) → Off (all l) (took l f s at i).0 f
unfolding took all has
taken_off end f s at i j e = refl
taken_off (line css l) f s at i j e =
    let (a, b) = or_none (has j (columns (flatten css))) (has j (all l)) (sym (has_append j (columns (flatten css)) (all l)) ∙ e) in
    taken_off l (puts_at css s at i f) s at (i + length css) j b ∙ puts_off css s at i f j a
taken_off (word k l) f s at i j e = let (a, b) = or_none (eqb j k) (has j (all l)) e in taken_off l _ s at (i + 2) j b ∙ set_else k _ f j a
taken_off (choose k is p q l) f s at i j e =
    let (a, b) = or_none (has j (all p ++ all q)) (has j (all l)) (sym (has_append j (all p ++ all q) (all l)) ∙ e) in
    let (c, d) = or_none (has j (all p)) (has j (all q)) (sym (has_append j (all p) (all q)) ∙ a) in
    taken_off l (pick (is (f k)) (took p f s (on at i) 0) (took q f s (on at i) 0)).0 s _ 0 j b ∙ go (is (f k)) (taken_off p f s (on at i) 0 j c) (taken_off q f s (on at i) 0 j d)
  where
    go : (b : Bool) → (took p f s (on at i) 0).0 j ≡ f j → (took q f s (on at i) 0).0 j ≡ f j → (pick b (took p f s (on at i) 0) (took q f s (on at i) 0)).0 j ≡ f j
    go true x y = x
    go false x y = y
taken_off (follows c n t x l) f s at i j e = let (a, b) = or_none (eqb j (column c)) (has j (all l)) e in taken_off l _ s at i j b ∙ set_else (column c) _ f j a
taken_off (judged p l) f s at i j e =
    let (a, b) = or_none (has j (all p)) (has j (all l)) (sym (has_append j (all p) (all l)) ∙ e) in
    taken_off l (took p f s (on at i) 0).0 s _ 0 j b ∙ taken_off p f s (on at i) 0 j a

-- n columns from k on
pub each_off : (l : Layout) (f : Columns) (s : List ℕ) (at i : ℕ) (k n : ℕ) → free (each (λ j. j) k n) (all l) ≡ true → each (took l f s at i).0 k n ≡ each f k n
unfolding each free
each_off l f s at i k zero e = refl
each_off l f s at i k (suc n) e =
    let (a, b) = and_both (not (has k (all l))) _ e in
    λ x. taken_off l f s at i k (not-true _ a) x ∷ each_off l f s at i (k + 1) n b x

-- ---- the sizes, where no read changes what steers them

unfoldable pub steered : List ℕ → Layout → Bool
steered ks end = true
steered ks (line css l) = steered ks l
steered ks (word k l) = steered ks l
steered ks (choose k is p q l) = has k ks && (steered ks p && (steered ks q && steered ks l))
steered ks (follows c j t x l) = steered ks l
steered ks (judged p l) = steered ks p && steered ks l

on_off : (ks a : List ℕ) {f g h : Columns} → Apart ks a → On ks f g → Off a h g → On ks f h
on_off ks a x o e j q = o j q ∙ sym (e j (x j q))

-- one column set
set_off : (k v : ℕ) (f : Columns) → Off (k ∷ []) (set k v f) f
unfolding has
set_off k v f j e = set_else k v f j (or_none (eqb j k) false e).0

spans_long : (ks : List ℕ) (l : Layout) → steered ks l ≡ true → Apart ks (all l) → (f g : Columns) → On ks f g → (s : List ℕ) (at i : ℕ) → (took l g s at i).1 ≡ sizes l f
unfolding steered took sizes all
spans_long ks end e x f g o s at i = refl
spans_long ks (line css l) e x f g o s at i =
    ap (λ (l : List ℕ). length css ∷ l)
    (spans_long ks l e (apart_right ks (columns (flatten css)) (all l) x) f (puts_at css s at i g) (on_off ks _ (apart_left ks (columns (flatten css)) (all l) x) o (puts_off css s at i g)) s at (i + length css))
spans_long ks (word k l) e x f g o s at i =
    ap (λ (l : List ℕ). 1 ∷ 1 ∷ l)
    (spans_long ks l e (apart_right ks (k ∷ []) (all l) x) f _ (on_off ks (k ∷ []) (apart_left ks (k ∷ []) (all l) x) o (set_off k _ g)) s at (i + 2))
spans_long ks (choose k is p q l) e x f g o s at i =
    let (a, b) = and_both (has k ks) _ e in
    let (b₀, b₁) = and_both (steered ks p) _ b in
    let (b₂, b₃) = and_both (steered ks q) _ b₁ in
    let xpq = apart_left ks (all p ++ all q) (all l) x in
    let xp = apart_left ks (all p) (all q) xpq in
    let xq = apart_right ks (all p) (all q) xpq in
    let xl = apart_right ks (all p ++ all q) (all l) x in
    let t = pick (is (g k)) (took p g s (on at i) 0) (took q g s (on at i) 0) in
    let u = spans_long ks p b₀ xp f g o s (on at i) 0 in
    let v = spans_long ks q b₂ xq f g o s (on at i) 0 in
    let on' : On ks f t.0 = held (is (g k)) xp xq in
    λ z. first (is (g k)) (is (f k)) (ap is (sym (o k a))) u v z ++ spans_long ks l b₃ xl f t.0 on' s (on at i + total t.1) 0 z
  where
    first : (b c : Bool) → b ≡ c → (took p g s (on at i) 0).1 ≡ sizes p f → (took q g s (on at i) 0).1 ≡ sizes q f
        → (pick b (took p g s (on at i) 0) (took q g s (on at i) 0)).1 ≡ pick c (sizes p f) (sizes q f)
    first true c e u v = rw (← e) u
    first false c e u v = rw (← e) v

    held : (b : Bool) → Apart ks (all p) → Apart ks (all q) → On ks f (pick b (took p g s (on at i) 0) (took q g s (on at i) 0)).0
    held true xp xq = on_off ks (all p) xp o (taken_off p g s (on at i) 0)
    held false xp xq = on_off ks (all q) xq o (taken_off q g s (on at i) 0)
spans_long ks (follows c j t y l) e x f g o s at i =
    spans_long ks l e (apart_right ks (column c ∷ []) (all l) x) f _ (on_off ks (column c ∷ []) (apart_left ks (column c ∷ []) (all l) x) o (set_off (column c) _ g)) s at i
spans_long ks (judged p l) e x f g o s at i =
    let (a, b) = and_both (steered ks p) _ e in
    let xp = apart_left ks (all p) (all l) x in
    let xl = apart_right ks (all p) (all l) x in
    let t = took p g s (on at i) 0 in
    let on' : On ks f t.0 = on_off ks (all p) xp o (taken_off p g s (on at i) 0) in
    λ z. spans_long ks p a xp f g o s (on at i) 0 z ++ spans_long ks l b xl f t.0 on' s (on at i + total t.1) 0 z

pub sizes_so : (ks : List ℕ) (l : Layout) → steered ks l ≡ true → free ks (all l) ≡ true → (f : Columns) (s : List ℕ) (at i : ℕ) → (took l f s at i).1 ≡ sizes l f
sizes_so ks l e x f s at i = spans_long ks l e (free_apart ks (all l) x) f f (λ j q. refl) s at i

-- ---- an optional part, taken

pub heads : {a b : ℕ} {x y : List ℕ} → a ∷ x ≡ b ∷ y → a ≡ b
heads e = cc

-- its flag, as it was read
pub flag_is : (k n : ℕ) (f : Columns) {v : ℕ} {zeros : List ℕ} → each f k (suc n) ≡ v ∷ zeros → f k ≡ v
unfolding each
flag_is k n f e = heads e

pub part_there : (k n : ℕ) (p : Layout) (f : Columns) (s : List ℕ) (at : ℕ) {v : ℕ} {zeros : List ℕ} → v ≡ 1 → each f k (suc n) ≡ v ∷ zeros
    → each (taken p f s at) k (suc n) ≡ each (taken (optional k p end) f s at) k (suc n)
unfolding took
part_there k n p f s at t e = ap (λ (x : Bool). each (pick x (took p f s at 0) (f, [])).0 k (suc n)) (sym (eq-eqb (f k) 1 (flag_is k n f e ∙ t)))

pub part_absent : (k n : ℕ) (p : Layout) (f : Columns) (s : List ℕ) (at : ℕ) {v : ℕ} {zeros : List ℕ} → (v ≡ 1 → ⊥) → each f k (suc n) ≡ v ∷ zeros
    → v ∷ zeros ≡ each (taken (optional k p end) f s at) k (suc n)
unfolding took
part_absent k n p f s at t e = sym e ∙ ap (λ (x : Bool). each (pick x (took p f s at 0) (f, [])).0 k (suc n)) (sym (ne_eqb (f k) 1 (λ z. t (sym (flag_is k n f e) ∙ z))))

-- a part that is there: its flag is 1, and its row is what its layout takes
pub taken_there : (k n : ℕ) (p : Layout) (s : List ℕ) (at : ℕ) {v : ℕ} {q r : List ℕ} → v ≡ 1 → r ≡ q → ((f : Columns) → f k ≡ 1 → q ≡ each (taken p f s at) k (suc n))
    → PartTaken k (suc n) p v (blanks n) s at r
taken_there k n p s at t e h = record { of = λ f z. e ∙ h f (flag_is k n f z ∙ t) ∙ part_there k n p f s at t z }

-- a part that is not there: its flag is 0, and its columns stay 0
pub taken_none : (k n : ℕ) (p : Layout) (s : List ℕ) (at : ℕ) {v : ℕ} → v ≤ 1 → (v ≡ 1 → ⊥) → PartTaken k (suc n) p v (blanks n) s at (0 ∷ blanks n)
taken_none k n p s at {v} h t = let z : 0 ≡ v = go v h t in record { of = λ f e. ap (λ (v : ℕ). v ∷ blanks n) z ∙ part_absent k n p f s at t e }
  where
    go : (v : ℕ) → v ≤ 1 → (v ≡ 1 → ⊥) → 0 ≡ v
    go zero h t = refl
    go (suc zero) h t = absurd (t refl)
    go (suc (suc v)) h t = absurd (omega arith)

-- the bytes of a part that is there
pub size_there : (n v at l : ℕ) → v ≡ 1 → at + pick (eqb v 1) n 0 ≤ l → at + n ≤ l
size_there n v at l t h = subst (λ (x : Bool). at + pick x n 0 ≤ l) (eq-eqb v 1 t) h

pub total_append : (a b : List ℕ) → total (a ++ b) ≡ total a + total b
unfolding total
total_append [] b = omega arith
total_append (x ∷ a) b = omega (arith, total_append a b)
