-- Rows that have rows of another table, over any layouts: how such a row is measured, filled and tallied, and what the two passes of writing do with it. A row is its head,
-- its rows of the other table, and its tail.
use Rattle.std.specs.Prelude.{Ok, Err}
use Prim.Native.Nat.{ℕ, zero, suc, ◌+◌, ◌-◌, ◌*◌, ◌≤◌, ◌<◌}
use mathlib.Core.Path.{◌≡◌, refl, sym, ap, subst, ◌∙◌}
use mathlib.Core.List.{List, [], ◌∷◌, ◌++◌, append_assoc, flatten, flat_map}
use mathlib.Core.Bool.{Bool, true, false, not, ◌&&◌}
use native.Mathlib.Omega.{arith}
use native.Mathlib.Nat.{zero-add, mul-zero, one-mul, suc-mul, mul-suc, mul_comm, add-mul}
use lib.ListN.{length, get_or, length-append}
use lib.Seq.{sets}
use lib.Dec.{eqb, leb, ltb}
use borrow.Author.Tests.{leb-true, ltb-true, eqb-true, not-true}
use Rattle.wire.specs.Lists.{sum}
use Rattle.wire.specs.Bits.{total}
use Rattle.wire.specs.Prog.{Prog, ret, Out, done, short, run, many, ◌>>=◌}
use Rattle.wire.specs.Reads.{map_out, end_of, is_done, pos_of, rows_of, Summed}
use Rattle.wire.specs.Act.{Act, demand, pick, rows}
use Rattle.wire.specs.Nest.{Fillable, Nested, RowNested}
use Rattle.wire.specs.Layout.{Layout, end, line, word, choose, follows, judged, column, Columns, of, row, set, reads, writes, shown, cells, matches, matched, every, flagged, counted, demands, has, blank, flat, Broken, layouts, broken, broken_acts, broken_row, Family, kids, tally, family_tally}
use Rattle.wire.specs.Pen.{looks, Checked, Quick, clean, bytes, Ready, Filled}
use Rattle.wire.specs.Spell.{PlainRows}
use Rattle.wire.specs.declared.pen.Fault.{Fault}
use Rattle.wire.specs.declared.pen.Fault.TheVariants as F
use Rattle.wire.specs.Pen.{Pen, At, Stop}
use Rattle.wire.specs.Straight.{ends, ones, puts_at, took, taken, spans, on}
use Rattle.wire.specs.declared.reads.Short.{Short}
use Rattle.wire.proofs.Reading.Runs.{out_and_then, run_bind}
use Rattle.wire.proofs.Reading.Walk.{map_map, undo, as_done, as_short, is_done_lem}
use Rattle.wire.proofs.Reading.Walk.{ends as ends-in}
use Rattle.wire.proofs.Reading.Loops.{many_next, many_none, many_long, many_weighs, summed_done, summed_short}
use Rattle.wire.proofs.Tables.{each_length}
use Rattle.wire.proofs.Reading.Nest.{flat_length}
use Rattle.wire.proofs.Writing.Acts.{and_both, both_and, clean_append, clean_both, bytes_append}
use Rattle.wire.proofs.Writing.Passes.{stuck, looks_append, then, more, rows_turn, clean_looks, faulty, passed_clean, check_start, check_turn, check_stop, quick_clean, quick_odd, Filling, fill_start, fill_demand, fill_row_lem, fill_turn}
use Rattle.wire.proofs.Writing.Plain.{plain_odd, plain_end, rows_from_lem, no_quick, filled_long}
use Rattle.wire.proofs.Layouts.Cells.{all, free, proper, all_fit, fit_flags, append_every, or_none, has_append}
use Rattle.wire.proofs.Layouts.Forms.{each_in, sure}
use Rattle.wire.proofs.Layouts.Rowed.{weight, each_like, matched_none, after_demands, nest_test}
use Rattle.wire.proofs.Layouts.Straight.{read_so, flat_so, flat_ends, ends_append, then_ends, ends_at, ends_within, taken_off, total_append, total_ones, ones_append}

-- ---- measured

-- the columns behind the head, and behind a tail that begins at m; the sizes of their reads
abbrev pub headed : Broken → List ℕ → ℕ → Columns
headed b s at = taken b.head blank s at

abbrev pub tailed : Broken → List ℕ → ℕ → ℕ → Columns
tailed b s at m = taken b.tail (headed b s at) s m

abbrev pub head_sizes : Broken → List ℕ → ℕ → List ℕ
head_sizes b s at = spans b.head blank s at

abbrev pub tail_sizes : Broken → List ℕ → ℕ → ℕ → List ℕ
tail_sizes b s at m = spans b.tail (headed b s at) s m

-- how many rows it has
abbrev pub kids_of : Broken → List ℕ → ℕ → ℕ
kids_of b s at = headed b s at b.count

pub then_map : {A B : Type 0} (a : A) (o : Out (Unit {0})) (k : A → ℕ → Out B) → out_and_then (map_out (λ u. a) o) k ≡ out_and_then o (λ u n. k a n)
then_map a (done u n) k = refl
then_map a (short x) k = refl

then_ret : {A B : Type 0} (f : A → B) (o : Out A) (s : List ℕ) → out_and_then o (λ a n. run (ret (f a)) s n) ≡ map_out f o
unfolding run
then_ret f (done a n) s = refl
then_ret f (short x) s = refl

end_then : {A B : Type 0} (o : Out A) (k : A → ℕ → Out B) (e : ℕ → Out (Unit {0})) → ((a : A) (n : ℕ) → end_of (k a n) ≡ e n) → end_of (out_and_then o k) ≡ out_and_then (end_of o) (λ u n. e n)
end_then (done a n) k e h = h a n
end_then (short x) k e h = refl

end_same : (o : Out (Unit {0})) → end_of o ≡ o
end_same (done u n) = refl
end_same (short x) = refl

-- what was read, from its columns
abbrev rowed : {A : Type 0} → Broken → List A → Columns → List ℕ × List A
rowed b l g = (row b.width g, l)

-- what is left behind the rows, and behind the head
abbrev lastly : {A : Type 0} → Broken → Columns → List A → Prog (List ℕ × List A)
lastly b f l = reads b.tail f >>= λ g. ret (rowed b l g)

abbrev rest : {A : Type 0} → Broken → Prog A → Columns → Prog (List ℕ × List A)
rest b kid f = many (f b.count) kid >>= λ l. lastly b f l

module _ {A : Type 0} (b : Broken) (kid : Prog A) (s : List ℕ) (at : ℕ) where
  last_so : (l : List A) (m : ℕ) → run (lastly b (headed b s at) l) s m ≡ map_out (λ u. rowed b l (tailed b s at m)) (ends (tail_sizes b s at m) s m)
  last_so l m =
      run_bind (reads b.tail (headed b s at)) (λ g. ret (rowed b l g)) s m
      ∙ then_ret (rowed b l) (run (reads b.tail (headed b s at)) s m) s
      ∙ ap (map_out (rowed b l)) (read_so b.tail (headed b s at) s m)
      ∙ map_map (λ (u : Unit {0}). tailed b s at m) (rowed b l) (ends (tail_sizes b s at m) s m)

  -- where it ends, from behind its head on: its rows, then its tail
  abbrev pub behind_head : ℕ → Out (Unit {0})
  behind_head n = out_and_then (end_of (run (many (kids_of b s at) kid) s n)) (λ u m. ends (tail_sizes b s at m) s m)

  behind_so : (n : ℕ) → end_of (run (rest b kid (headed b s at)) s n) ≡ behind_head n
  behind_so n =
      ap end_of (run_bind (many (kids_of b s at) kid) (lastly b (headed b s at)) s n)
      ∙ end_then (run (many (kids_of b s at) kid) s n) (λ l m. run (lastly b (headed b s at) l) s m) (λ m. ends (tail_sizes b s at m) s m)
      (λ l m. ap end_of (last_so l m) ∙ map_map (λ (u : Unit {0}). rowed b l (tailed b s at m)) (λ v. tt) (ends (tail_sizes b s at m) s m) ∙ end_same (ends (tail_sizes b s at m) s m))

  head_so : run (broken b kid) s at ≡ out_and_then (ends (head_sizes b s at) s at) (λ u n. run (rest b kid (headed b s at)) s n)
  head_so =
      run_bind (reads b.head blank) (rest b kid) s at
      ∙ ap (λ (o : Out Columns). out_and_then o (λ f n. run (rest b kid f) s n)) (read_so b.head blank s at)
      ∙ then_map (headed b s at) (ends (head_sizes b s at) s at) (λ f n. run (rest b kid f) s n)

  headed_so : {v : Out (Unit {0})} → v ≡ ends (head_sizes b s at) s at → end_of (run (broken b kid) s at) ≡ end_of (out_and_then v (λ u n. run (rest b kid (headed b s at)) s n))
  headed_so e = ap end_of (head_so ∙ ap (λ (o : Out (Unit {0})). out_and_then o (λ u n. run (rest b kid (headed b s at)) s n)) (sym e))

  -- The head was measured by reads of its sizes: code stands at n, with the rows and the tail left (head_got), or hands the refusal up (head_lacks).
  -- What they ask is the promise of reads::head where the head is single bytes.
  pub head_got : {n : ℕ} → done tt n ≡ ends (head_sizes b s at) s at → end_of (run (broken b kid) s at) ≡ behind_head n
  head_got {n} e = headed_so e ∙ behind_so n

  pub head_lacks : {x : Short} → short x ≡ ends (head_sizes b s at) s at → short x ≡ end_of (run (broken b kid) s at)
  head_lacks e = sym (headed_so e)

  -- The rows were measured from n on, by a loop that promises where they end: code stands at m, with the tail left (kids_got), or hands the refusal up (kids_lack).
  -- w is head_got. Where the rows and the tail are single bytes, singles_behind takes the place of both.
  module _ (n : ℕ) (w : end_of (run (broken b kid) s at) ≡ behind_head n) where
    pub kids_got : {m : ℕ} → done tt m ≡ end_of (run (many (kids_of b s at) kid) s n) → end_of (run (broken b kid) s at) ≡ ends (tail_sizes b s at m) s m
    kids_got e = w ∙ ap (λ (o : Out (Unit {0})). out_and_then o (λ u m. ends (tail_sizes b s at m) s m)) (sym e)

    pub kids_lack : {x : Short} → short x ≡ end_of (run (many (kids_of b s at) kid) s n) → short x ≡ end_of (run (broken b kid) s at)
    kids_lack e = sym (w ∙ ap (λ (o : Out (Unit {0})). out_and_then o (λ u m. ends (tail_sizes b s at m) s m)) (sym e))

  -- A row that was read, taken apart: the bytes of its head and of its tail are there, its rows begin behind the head, and its tail begins at `middle`.
  -- All that fills or tallies a row rests on it.
  pub record Broke (x : List ℕ × List A) (end : ℕ) : Type 0 where
    pub there : at + total (head_sizes b s at) ≤ length s
    pub middle : ℕ
    pub kids : run (many (kids_of b s at) kid) s (at + total (head_sizes b s at)) ≡ done x.1 middle
    pub inside : middle + total (tail_sizes b s at middle) ≤ length s
    pub is : x ≡ rowed b x.1 (tailed b s at middle)
    pub on : end ≡ middle + total (tail_sizes b s at middle)
    pub counts : length x.1 ≡ kids_of b s at

  then_is : {B C : Type 0} (o : Out B) (k : B → ℕ → Out C) {c : C} {m : ℕ} → out_and_then o k ≡ done c m → (a : B) × (n : ℕ) × (o ≡ done a n) × (k a n ≡ done c m)
  then_is (done a n) k e = (a, n, refl, e)
  then_is (short x) k e = absurd (let z : ◌≡◌ {A = ℕ} 0 1 = cc e in omega arith)

  broke_so : (n : ℕ) (l : List A) (m : ℕ) {u : Unit {0}} {x : List ℕ × List A} {end : ℕ} → at ≤ length s → ends (head_sizes b s at) s at ≡ done u n
      → run (many (kids_of b s at) kid) s n ≡ done l m → run (lastly b (headed b s at) l) s m ≡ done x end → Broke x end
  broke_so n l m {x = x} {end} h e₁ e₂ r =
      let n-is = ends_at (head_sizes b s at) s at e₁ in
      let n-in = ends_within (head_sizes b s at) s at h e₁ in
      let (v, e₃, q) = as_done (λ (u : Unit {0}). rowed b l (tailed b s at m)) (ends (tail_sizes b s at m) s m) (sym (last_so l m) ∙ r) in
      let m-in : m ≤ length s = ends-in (many (kids_of b s at) kid) s n n-in (sym e₂) in
      let l-is : l ≡ x.1 = ap (λ (y : List ℕ × List A). y.1) q in
      let k : end ≡ m + total (tail_sizes b s at m) = ends_at (tail_sizes b s at m) s m e₃ in
      record {
        there = rw n-is at n-in;
        middle = m;
        kids = ap (λ (n : ℕ). run (many (kids_of b s at) kid) s n) (sym n-is) ∙ e₂ ∙ ap (λ (l : List A). done l m) l-is;
        inside = rw k at (ends_within (tail_sizes b s at m) s m m-in e₃);
        is = sym q ∙ ap (λ (l : List A). rowed b l (tailed b s at m)) l-is;
        on = k;
        counts = ap length (sym l-is) ∙ many_long kid s (kids_of b s at) n l m e₂;
      }

  pub broke : {x : List ℕ × List A} {end : ℕ} → at ≤ length s → run (broken b kid) s at ≡ done x end → Broke x end
  broke h e =
      let (u, n, e₁, r₁) = then_is (ends (head_sizes b s at) s at) (λ u n. run (rest b kid (headed b s at)) s n) (sym head_so ∙ e) in
      let (l, m, e₂, r₂) = undo (many (kids_of b s at) kid) (lastly b (headed b s at)) s n r₁ in
      broke_so n l m h e₁ e₂ r₂

  -- The answer of a function that counts its rows: it knows where the row ends (w, from the laws above), and the count from the head's bytes. For the loop over rows take
  -- Summing of Loops, and kids_summed at its returns.
  module _ (most : ℕ) (h : at ≤ length s) where
    pub broken_got : {n m : ℕ} → done tt m ≡ end_of (run (broken b kid) s at) → n ≡ kids_of b s at → n ≤ most → Summed (broken b kid) (λ x. length x.1) most s at (Ok (n, m))
    broken_got w k l = let (x, e, q) = as_done (λ v. tt {0}) (run (broken b kid) s at) (sym w) in summed_done (sym e) (k ∙ sym (broke h e).counts) l

    pub broken_lacks : {x : Short} → short x ≡ end_of (run (broken b kid) s at) → Summed (broken b kid) (λ x. length x.1) most s at (Err x)
    broken_lacks w = summed_short (sym (as_short (λ v. tt {0}) (run (broken b kid) s at) (sym w)))

-- ---- rows of single bytes

many_end : {A : Type 0} (p : Prog A) (s : List ℕ) (k at : ℕ) → end_of (run (many (suc k) p) s at) ≡ out_and_then (end_of (run p s at)) (λ u m. end_of (run (many k p) s m))
unfolding many
many_end {A} p s k at =
    ap end_of (run_bind p (λ x. many k p >>= λ l. ret (x ∷ l)) s at)
    ∙ end_then (run p s at) (λ x m. run (many k p >>= λ l. ret (x ∷ l)) s m) (λ m. end_of (run (many k p) s m))
    (λ x m. ap end_of (run_bind (many k p) (λ l. ret (x ∷ l)) s m ∙ then_ret (λ (l : List A). x ∷ l) (run (many k p) s m) s) ∙ map_map (λ (l : List A). x ∷ l) (λ v. tt) (run (many k p) s m))

then_ends_lem : (a c s : List ℕ) (at : ℕ) → out_and_then (ends a s at) (λ u m. ends c s m) ≡ ends (a ++ c) s at
unfolding then_ends
then_ends_lem a c s at = go (ends a s at) ∙ sym (ends_append a c s at)
  where
    go : (o : Out (Unit {0})) → out_and_then o (λ u m. ends c s m) ≡ then_ends o c s
    go (done u m) = refl
    go (short x) = refl

then_then : {A B C : Type 0} (o : Out A) (f : A → ℕ → Out B) (g : B → ℕ → Out C) → out_and_then o (λ a n. out_and_then (f a n) g) ≡ out_and_then (out_and_then o f) g
then_then (done a n) f g = refl
then_then (short x) f g = refl

many_zero : {A : Type 0} (p : Prog A) (s : List ℕ) (at : ℕ) → run (many 0 p) s at ≡ done [] at
unfolding many run
many_zero p s at = refl

-- Rows that are w reads of one byte each are one comparison, reads::head of w * k: `each` is λ s at. refl, unfolding took and ones, for a layout of so many lines of one byte.
pub lines_end : (n : ℕ) (l : Layout) (w : ℕ) → ((s : List ℕ) (at : ℕ) → spans l blank s at ≡ ones w) → (s : List ℕ) (k at : ℕ)
    → end_of (run (many k (flat n l)) s at) ≡ ends (ones (w * k)) s at
unfolding ones ends run
lines_end n l w each s zero at = ap end_of (many_zero (flat n l) s at) ∙ ap (λ (k : ℕ). ends (ones k) s at) (sym (mul-zero w))
lines_end n l w each s (suc k) at =
    let e : w + w * k ≡ w * suc k = omega (arith, mul-suc w k) in
    many_end (flat n l) s k at
    ∙ (λ i. out_and_then ((flat_ends n l s at ∙ ap (λ (l : List ℕ). ends l s at) (each s at)) i) (λ u m. lines_end n l w each s k m i))
    ∙ then_ends_lem (ones w) (ones (w * k)) s at
    ∙ ap (λ (l : List ℕ). ends l s at) (ones_append w (w * k) ∙ ap ones e)

-- `one` is λ s at. refl, unfolding took, for a layout of one byte.
module _ (n : ℕ) (l : Layout) (one : (s : List ℕ) (at : ℕ) → spans l blank s at ≡ 1 ∷ []) (s : List ℕ) where
  pub singles_end : (k at : ℕ) → end_of (run (many k (flat n l)) s at) ≡ ends (ones k) s at
  unfolding ones
  singles_end k at = lines_end n l 1 one s k at ∙ ap (λ (k : ℕ). ends (ones k) s at) (one-mul k)

  -- where they end
  pub singles_pos : (k at : ℕ) → at ≤ length s → is_done (run (many k (flat n l)) s at) ≡ true → (pos_of (run (many k (flat n l)) s at) ≡ at + k) × (at + k ≤ length s)
  singles_pos k at h q =
      let (v, m, e) = is_done_lem (run (many k (flat n l)) s at) q in
      let w : ends (ones k) s at ≡ done tt m = sym (singles_end k at) ∙ ap end_of e in
      let z : m ≡ at + k = ends_at (ones k) s at w ∙ ap (λ (k : ℕ). at + k) (total_ones k) in
      (ap pos_of e ∙ z, rw z at (ends_within (ones k) s at h w))

  -- With a tail of t single bytes they are one comparison, reads::head of k + t: head_got ∙ singles_behind is the row's end.
  pub singles_behind : (b : Broken) (at k t : ℕ) → kids_of b s at ≡ k → ((m : ℕ) → tail_sizes b s at m ≡ ones t) → (m : ℕ) → behind_head b (flat n l) s at m ≡ ends (ones (k + t)) s m
  singles_behind b at k t e f m =
      (λ i. out_and_then ((singles_end (kids_of b s at) m ∙ ap (λ (k : ℕ). ends (ones k) s m) e) i) (λ u m. ends (f m i) s m))
      ∙ then_ends_lem (ones k) (ones t) s m
      ∙ ap (λ (l : List ℕ). ends l s m) (ones_append k t)

  behind_ones : (t : ℕ) (left : ℕ → List ℕ) (m : ℕ) → ends (ones t ++ left (m + t)) s m ≡ out_and_then (ends (ones t) s m) (λ u j. ends (left j) s j)
  unfolding then_ends
  behind_ones t left m = ends_append (ones t) (left (m + t)) s m ∙ go (ends (ones t) s m) refl
    where
      go : (o : Out (Unit {0})) → ends (ones t) s m ≡ o → then_ends o (left (m + t)) s ≡ out_and_then o (λ u j. ends (left j) s j)
      go (done u j) q = let z : m + t ≡ j = sym (ends_at (ones t) s m q ∙ ap (λ (k : ℕ). m + k) (total_ones t)) in ap (λ (k : ℕ). ends (left k) s j) z
      go (short x) q = refl

  -- Where such a tail goes on behind its t bytes, what is left of it begins where these end.
  pub singles_before : (b : Broken) (at k t : ℕ) (left : ℕ → List ℕ) → kids_of b s at ≡ k → ((m : ℕ) → tail_sizes b s at m ≡ ones t ++ left (m + t)) → (m : ℕ)
      → behind_head b (flat n l) s at m ≡ out_and_then (ends (ones (k + t)) s m) (λ u j. ends (left j) s j)
  singles_before b at k t left e f m =
      (λ i. out_and_then ((singles_end (kids_of b s at) m ∙ ap (λ (k : ℕ). ends (ones k) s m) e) i) (λ u m. (ap (λ (l : List ℕ). ends l s m) (f m) ∙ behind_ones t left m) i))
      ∙ then_then (ends (ones k) s m) (λ u m. ends (ones t) s m) (λ u j. ends (left j) s j)
      ∙ ap (λ (o : Out (Unit {0})). out_and_then o (λ u j. ends (left j) s j)) (then_ends_lem (ones k) (ones t) s m ∙ ap (λ (l : List ℕ). ends l s m) (ones_append k t))

-- ---- filled

spans_weigh : (l : Layout) (f : Columns) (s : List ℕ) (at i : ℕ) → weight l ≤ total (took l f s at i).1
unfolding weight took total
spans_weigh end f s at i = omega arith
spans_weigh (line css l) f s at i = omega (arith, spans_weigh l (puts_at css s at i f) s at (i + length css))
spans_weigh (word k l) f s at i = omega (arith, spans_weigh l (set k (get_or s (on at i) 0 * 256 + get_or s (on at (i + 1)) 0) f) s at (i + 2))
spans_weigh (choose k is p q l) f s at i =
    let x = pick (is (f k)) (took p f s (on at i) 0) (took q f s (on at i) 0) in
    omega (arith, spans_weigh l x.0 s (on at i + total x.1) 0, total_append x.1 (took l x.0 s (on at i + total x.1) 0).1)
spans_weigh (follows c j t x l) f s at i = spans_weigh l (set (column c) (get_or t (f j) 0) f) s at i
spans_weigh (judged p l) f s at i =
    let x = took p f s (on at i) 0 in
    omega (arith, spans_weigh p f s (on at i) 0, spans_weigh l x.0 s (on at i + total x.1) 0, total_append x.1 (took l x.0 s (on at i + total x.1) 0).1)

flat_is : (n : ℕ) (l : Layout) (s : List ℕ) (at : ℕ) (r : List ℕ) (m : ℕ) → run (flat n l) s at ≡ done r m → (length r ≡ n) × (at + weight l ≤ m)
flat_is n l s at r m e =
    let (u, q, z) = as_done (λ (u : Unit {0}). row n (taken l blank s at)) (ends (spans l blank s at) s at) (sym (flat_so n l s at) ∙ e) in
    (ap length (sym z) ∙ each_length (taken l blank s at) 0 n, omega (arith, ends_at (spans l blank s at) s at q, spans_weigh l blank s at 0))

-- as many columns as rows of that width have
many_tall : (n : ℕ) (l : Layout) (s : List ℕ) (k at : ℕ) {rs : List (List ℕ)} {m : ℕ} → run (many k (flat n l)) s at ≡ done rs m → length (flatten rs) ≡ length rs * n
unfolding flatten
many_tall n l s zero at {rs} e = let (q, z) = many_none (flat n l) s 0 at (omega arith) e in rw q (omega arith)
many_tall n l s (suc k) at {rs} {m} e =
    let w = many_next (flat n l) s (suc k) at (omega arith) e in
    let j : suc k - 1 ≡ k = omega arith in
    let r = many_tall n l s k w.middle (ap (λ (i : ℕ). run (many i (flat n l)) s w.middle) (sym j) ∙ w.goes_on) in
    let h = (flat_is n l s at w.row w.middle w.reads).0 in
    ap (λ (l : List (List ℕ)). length (flatten l)) w.is ∙ length-append w.row (flatten w.rest) ∙ omega (arith, r, h, suc-mul (length w.rest) n)
    ∙ ap (λ (l : List (List ℕ)). length l * n) (sym w.is)

sum_ones : {A : Type 0} (l : List A) → sum (λ x. 1) l ≡ length l
unfolding sum
sum_ones [] = refl
sum_ones (x ∷ l) = omega (arith, sum_ones l)

flat_same : {A : Type 0} (l : List (List A)) → flat_map (λ r. r) l ≡ flatten l
unfolding flat_map flatten
flat_same [] = refl
flat_same {A} (x ∷ l) = ap (λ (r : List A). x ++ r) (flat_same l)

-- How many rows a list of such rows has is how many the other table gets: for `summed_as` of Loops where a loop by Summing returns.
pub kids_summed : ◌≡◌ {A = List Family → ℕ} (sum (λ x. length x.1)) (λ l. length (kids l))
kids_summed = λ i l. sym (flat_length (λ (x : Family). x.1) l) i

-- The one test of a row whose rows are stored: its count is a column that the tail leaves alone, and each of its rows is at least a byte.
-- It is refl, unfolding family_test, has, all, weight and the layouts.
unfoldable pub family_test : Broken → Layout → Bool
family_test b kid = ltb b.count b.width && (not (eqb b.count b.first) && (not (has b.count (all b.tail)) && leb 1 (weight kid)))

-- a row that was read, with its first row: the columns that code has at hand
pub placed_so : (b : Broken) (first : ℕ) {A : Type 0} (l : List A) (g : Columns) → broken_row b (first, rowed b l g) ≡ row b.width (set b.first first g)
placed_so b first l g =
    each_like (set b.first first (of (row b.width g))) (set b.first first g) 0 b.width
    (λ j h. ap (λ (v : ℕ). pick (eqb (0 + j) b.first) first v) (ap (of (row b.width g)) (zero-add j) ∙ each_in g 0 b.width j h))

-- its column for the count says how many rows it has
count_so : {A : Type 0} (b : Broken) (kid : Prog A) (s : List ℕ) (at first : ℕ) {x : List ℕ × List A} {end : ℕ} → ltb b.count b.width ≡ true
    → eqb b.count b.first ≡ false → has b.count (all b.tail) ≡ false
    → Broke b kid s at x end → get_or (broken_row b (first, x)) b.count 0 ≡ length x.1
count_so {A} b kid s at first {x} l c o w =
    let g : Columns = tailed b s at w.middle in
    ap (λ (r : List ℕ). get_or r b.count 0) (ap (λ (x : List ℕ × List A). broken_row b (first, x)) w.is ∙ placed_so b first x.1 g)
    ∙ each_in (set b.first first g) 0 b.width b.count (ltb-true _ _ l) ∙ ap (set b.first first g) (zero-add b.count)
    ∙ ap (λ (v : Bool). pick v first (g b.count)) c ∙ taken_off b.tail (headed b s at) s w.middle 0 b.count o ∙ sym w.counts

module _ (b : Broken) (n : ℕ) (kid : Layout) (s : List ℕ) (at first : ℕ) (u : List ℕ) (f : Fillable (broken b (flat n kid)) n (λ x. length x.1) s at first u) where
  the_row : Broke b (flat n kid) s at f.value f.end
  the_row = broke b (flat n kid) s at f.begun f.reads

  -- f is what the function that stores one such row requires. It may call the one that stores its rows, behind the head and from the column first * n on; that one promises the
  -- position behind them and what `fill_end` of Loops has.
  pub record KidsAsk : Type 0 where
    pub begun : at + total (head_sizes b s at) ≤ length s
    pub sound : is_done (run (many (kids_of b s at) (flat n kid)) s (at + total (head_sizes b s at))) ≡ true
    pub room : first * n + n * kids_of b s at ≤ length u

  pub kids_ask : KidsAsk
  kids_ask = record {
    begun = the_row.there;
    sound = ap is_done the_row.kids;
    room =
        let e : first * n + n * kids_of b s at ≡ (first + length f.value.1) * n =
        ap (λ (k : ℕ). first * n + k) (mul_comm n (kids_of b s at) ∙ ap (λ (k : ℕ). k * n) (sym the_row.counts)) ∙ sym (add-mul first (length f.value.1) n) in
        omega (arith, e, f.room);
  }

  module _ {m : ℕ} (p : m ≡ pos_of (run (many (kids_of b s at) (flat n kid)) s (at + total (head_sizes b s at)))) where
    middle_is : the_row.middle ≡ m
    middle_is = sym (p ∙ ap pos_of the_row.kids)

    -- Behind the rows, at m, the bytes of the tail are there.
    pub tail_there : m + total (tail_sizes b s at m) ≤ length s
    tail_there = subst (λ (m : ℕ). m + total (tail_sizes b s at m) ≤ length s) middle_is the_row.inside

    -- What is promised of the whole row, from its columns (r), its end and what was stored of its rows (after).
    pub family_filled : {r after : List ℕ} {next : ℕ} → r ≡ row b.width (set b.first first (tailed b s at m)) → next ≡ m + total (tail_sizes b s at m)
        → after ≡ sets u (first * n) (flat_map (λ r. r) (rows_of (run (many (kids_of b s at) (flat n kid)) s (at + total (head_sizes b s at)))))
        → Nested (broken b (flat n kid)) n (λ i x. broken_row b (i, x)) (λ x. flatten x.1) s at first u r next after
    family_filled {r} e k q = record {
      value = f.value;
      end = f.end;
      reads = f.reads;
      is =
          e ∙ sym (placed_so b first f.value.1 (tailed b s at m)) ∙ ap (λ (m : ℕ). broken_row b (first, rowed b f.value.1 (tailed b s at m))) (sym middle_is)
          ∙ ap (λ (x : Family). broken_row b (first, x)) (sym the_row.is);
      on = k ∙ sym (the_row.on ∙ ap (λ (m : ℕ). m + total (tail_sizes b s at m)) middle_is);
      stored = q ∙ ap (λ (o : Out (List (List ℕ))). sets u (first * n) (flat_map (λ r. r) (rows_of o))) the_row.kids ∙ ap (sets u (first * n)) (flat_same f.value.1);
    }

-- Stored with its row: what a loop over such rows asks of it. The next first row stands behind those that the row r counts.
pub family_nested : (b : Broken) (n : ℕ) (kid : Layout) (s : List ℕ) (at first : ℕ) → at ≤ length s → family_test b kid ≡ true → {r t t' u u' : List ℕ} {to next behind : ℕ}
    → Nested (broken b (flat n kid)) n (λ i x. broken_row b (i, x)) (λ x. flatten x.1) s at first u r next u'
    → behind ≡ first + get_or r b.count 0 → t' ≡ sets t to r
    → RowNested (broken b (flat n kid)) (λ x. length x.1) (λ i x. broken_row b (i, x)) b.width (λ x. flatten x.1) n s at t to u first next behind t' u'
unfolding family_test
family_nested b n kid s at first h c {r} {t} {to = to} {next} w k q =
    let (c₀, c₁) = and_both (ltb b.count b.width) _ c in
    let (c₂, c₃) = and_both (not (eqb b.count b.first)) _ c₁ in
    let (c₄, c₅) = and_both (not (has b.count (all b.tail))) _ c₃ in
    let x = w.value in
    let d : run (broken b (flat n kid)) s at ≡ done x next = w.reads ∙ ap (done x) (sym w.on) in
    let o = broke b (flat n kid) s at h d in
    let e : get_or r b.count 0 ≡ length x.1 = ap (λ (l : List ℕ). get_or l b.count 0) w.is ∙ count_so b (flat n kid) s at first c₀ (not-true _ c₂) (not-true _ c₄) o in
    let v =
    many_weighs (flat n kid) s (λ x. 1) (λ at x m e. let z = (flat_is n kid s at x m e).1 in omega (arith, z, leb-true 1 (weight kid) c₅)) (kids_of b s at) _
    x.1 o.middle o.kids in
    record {
      value = x;
      reads = d;
      weighs = omega (arith, v, sum_ones x.1, o.on);
      wide = each_length (set b.first first (of x.0)) 0 b.width;
      tall = many_tall n kid s (kids_of b s at) _ o.kids;
      on = k ∙ ap (λ (k : ℕ). first + k) e;
      outer = q ∙ ap (sets t to) w.is;
      inner = w.stored;
    }

-- ---- tallied, once measured

module _ (b : Broken) (n : ℕ) (kid : Layout) (s : List ℕ) (at : ℕ) (h : at ≤ length s) (q : is_done (run (broken b (flat n kid)) s at) ≡ true) where
  -- h and q are what the function that tallies one such row requires. It may call the one that tallies its rows, behind the head.
  pub record TallyAsk : Type 0 where
    pub begun : at + total (head_sizes b s at) ≤ length s
    pub sound : is_done (run (many (kids_of b s at) (flat n kid)) s (at + total (head_sizes b s at))) ≡ true

  pub tally_ask : TallyAsk
  tally_ask = let (x, m, e) = is_done_lem (run (broken b (flat n kid)) s at) q in let o = broke b (flat n kid) s at h e in record { begun = o.there; sound = ap is_done o.kids }

  module _ {m : ℕ} (p : m ≡ pos_of (run (many (kids_of b s at) (flat n kid)) s (at + total (head_sizes b s at)))) where
    pub tail_tallied : m + total (tail_sizes b s at m) ≤ length s
    tail_tallied =
        let (x, k, e) = is_done_lem (run (broken b (flat n kid)) s at) q in
        let o = broke b (flat n kid) s at h e in
        subst (λ (m : ℕ). m + total (tail_sizes b s at m) ≤ length s) (sym (p ∙ ap pos_of o.kids)) o.inside

    -- The reserved bits of its own fields and of its rows.
    pub family_tallied : {own below zeros next : ℕ} → own ≡ tally (layouts b) (of (row b.width (tailed b s at m)))
        → below ≡ sum (λ r. tally (kid ∷ []) (of r)) (rows_of (run (many (kids_of b s at) (flat n kid)) s (at + total (head_sizes b s at))))
        → zeros ≡ own + below → next ≡ m + total (tail_sizes b s at m) → done zeros next ≡ map_out (family_tally b kid) (run (broken b (flat n kid)) s at)
    family_tallied {own} {below} {zeros} {next} e f z k =
        let (x, k', r) = is_done_lem (run (broken b (flat n kid)) s at) q in
        let o = broke b (flat n kid) s at h r in
        let w : o.middle ≡ m = sym (p ∙ ap pos_of o.kids) in
        let a : own ≡ tally (layouts b) (of x.0) =
        e ∙ ap (λ (m : ℕ). tally (layouts b) (of (row b.width (tailed b s at m)))) (sym w) ∙ ap (λ (x : Family). tally (layouts b) (of x.0)) (sym o.is) in
        let c : below ≡ sum (λ r. tally (kid ∷ []) (of r)) x.1 = f ∙ ap (λ (o : Out (List (List ℕ))). sum (λ r. tally (kid ∷ []) (of r)) (rows_of o)) o.kids in
        let d : next ≡ k' = k ∙ sym (o.on ∙ ap (λ (m : ℕ). m + total (tail_sizes b s at m)) w) in
        (λ i. done ((z ∙ λ j. a j + c j) i) (d i)) ∙ sym (ap (map_out (family_tally b kid)) r)

-- ---- taken by one function, which answers the columns of the row and its end; its rows are left

module _ (b : Broken) (n : ℕ) (kid : Layout) (s : List ℕ) (at first : ℕ) (h : at ≤ length s) where
  -- That function knows where the rows end, at m, and what its promise needs is in `tally_ask` and `tail_tallied`.
  pub family_placed : is_done (run (broken b (flat n kid)) s at) ≡ true → {m : ℕ} → m ≡ pos_of (run (many (kids_of b s at) (flat n kid)) s (at + total (head_sizes b s at)))
      → {r : List ℕ} {next : ℕ} → r ≡ row b.width (set b.first first (tailed b s at m)) → next ≡ m + total (tail_sizes b s at m) → done r next ≡ map_out (λ x. broken_row b (first, x)) (run (broken b (flat n kid)) s at)
  family_placed q {m} p e k =
      let (x, k', z) = is_done_lem (run (broken b (flat n kid)) s at) q in
      let o = broke b (flat n kid) s at h z in
      let w : o.middle ≡ m = sym (p ∙ ap pos_of o.kids) in
      let g : Columns = tailed b s at o.middle in
      let a =
      e ∙ ap (λ (m : ℕ). row b.width (set b.first first (tailed b s at m))) (sym w) ∙ sym (placed_so b first x.1 g)
      ∙ ap (λ (x : Family). broken_row b (first, x)) (sym o.is) in
      let c = k ∙ sym (o.on ∙ ap (λ (m : ℕ). m + total (tail_sizes b s at m)) w) in
      (λ i. done (a i) (c i)) ∙ sym (ap (map_out (λ x. broken_row b (first, x))) z)

  module _ {r : List ℕ} {next : ℕ} (e : done r next ≡ map_out (λ x. broken_row b (first, x)) (run (broken b (flat n kid)) s at)) where
    -- what its caller knows: how many rows are left
    pub placed_count : family_test b kid ≡ true → get_or r b.count 0 ≡ kids_of b s at
    unfolding family_test
    placed_count c =
        let (c₀, c₁) = and_both (ltb b.count b.width) _ c in
        let (c₂, c₃) = and_both (not (eqb b.count b.first)) _ c₁ in
        let (c₄, c₅) = and_both (not (has b.count (all b.tail))) _ c₃ in
        let (x, z, q) = as_done (λ (x : Family). broken_row b (first, x)) (run (broken b (flat n kid)) s at) (sym e) in
        let o = broke b (flat n kid) s at h z in
        ap (λ (r : List ℕ). get_or r b.count 0) (sym q) ∙ count_so b (flat n kid) s at first c₀ (not-true _ c₂) (not-true _ c₄) o ∙ o.counts

    -- stored: its rows stand in their table
    pub placed_filled : {u after : List ℕ} → after ≡ sets u (first * n) (flat_map (λ r. r) (rows_of (run (many (kids_of b s at) (flat n kid)) s (at + total (head_sizes b s at)))))
        → Nested (broken b (flat n kid)) n (λ i x. broken_row b (i, x)) (λ x. flatten x.1) s at first u r next after
    placed_filled {u} q =
        let (x, z, w) = as_done (λ (x : Family). broken_row b (first, x)) (run (broken b (flat n kid)) s at) (sym e) in
        let o = broke b (flat n kid) s at h z in
        record {
          value = x;
          end = next;
          reads = z;
          is = sym w;
          on = refl;
          stored = q ∙ ap (λ (o : Out (List (List ℕ))). sets u (first * n) (flat_map (λ r. r) (rows_of o))) o.kids ∙ ap (sets u (first * n)) (flat_same x.1);
        }

-- Its columns as they were read: no column of it is its first row, so that is 0.
module _ (b : Broken) (n : ℕ) (kid : Layout) (s : List ℕ) (at : ℕ) (h : at ≤ length s) (f : has b.first (all b.head ++ all b.tail) ≡ false) where
  first_none : (m : ℕ) → tailed b s at m b.first ≡ 0
  first_none m =
      let (x, y) = or_none (has b.first (all b.head)) (has b.first (all b.tail)) (sym (has_append b.first (all b.head) (all b.tail)) ∙ f) in
      taken_off b.tail (headed b s at) s m 0 b.first y ∙ taken_off b.head blank s at 0 b.first x

  as_read : {x : Family} {end : ℕ} → Broke b (flat n kid) s at x end → broken_row b (0, x) ≡ x.0
  as_read {x} o =
      ap (λ (x : Family). broken_row b (0, x)) o.is ∙ placed_so b 0 x.1 g
      ∙ each_like (set b.first 0 g) g 0 b.width (λ j l. go (0 + j) (eqb (0 + j) b.first) refl) ∙ ap (λ (x : Family). x.0) (sym o.is)
    where
      g : Columns
      g = tailed b s at o.middle

      go : (j : ℕ) (y : Bool) → eqb j b.first ≡ y → pick y 0 (g j) ≡ g j
      go j true e = sym (ap g (eqb-true j b.first e) ∙ first_none o.middle)
      go j false e = refl

  -- The reserved bits of its own fields, from the columns that were answered, and of its rows.
  pub placed_tallied : {r : List ℕ} {next own below zeros : ℕ} → done r next ≡ map_out (λ x. broken_row b (0, x)) (run (broken b (flat n kid)) s at) → own ≡ tally (layouts b) (of r)
      → below ≡ sum (λ r. tally (kid ∷ []) (of r)) (rows_of (run (many (kids_of b s at) (flat n kid)) s (at + total (head_sizes b s at)))) → zeros ≡ own + below → done zeros next ≡ map_out (family_tally b kid) (run (broken b (flat n kid)) s at)
  placed_tallied {r} {next} {own} {below} {zeros} e t k q =
      let (x, z, w) = as_done (λ (x : Family). broken_row b (0, x)) (run (broken b (flat n kid)) s at) (sym e) in
      let o = broke b (flat n kid) s at h z in
      let a : own ≡ tally (layouts b) (of x.0) = t ∙ ap (λ (r : List ℕ). tally (layouts b) (of r)) (sym w ∙ as_read o) in
      let c : below ≡ sum (λ r. tally (kid ∷ []) (of r)) x.1 = k ∙ ap (λ (o : Out (List (List ℕ))). sum (λ r. tally (kid ∷ []) (of r)) (rows_of o)) o.kids in
      ap (λ (z : ℕ). done z next) (q ∙ λ i. a i + c i) ∙ sym (ap (map_out (family_tally b kid)) z)

-- ---- written: what stands before its rows, its rows, its tail

-- the demands and the head
abbrev pub front_acts : Broken → ℕ → Columns → List Act
front_acts b room g = demand F.Range (leb (g b.first + g b.count) room) ∷ demands (layouts b) g ++ writes b.head g

-- its rows
abbrev pub kid_acts : Broken → (ℕ → List Act) → Columns → List Act
kid_acts b kid g = rows kid (g b.first) (g b.count)

-- Actions that were passed have no fault, and make as many bytes as the pen went on.
passed_long : (q : List Act) {k r : ℕ} → Checked q k (At 0) (At (0 + r)) → (clean q ≡ true) × (length (bytes q) ≡ r)
passed_long q {r = r} w =
    let c = passed_clean q _ w refl in
    let z : At (0 + length (bytes q)) ≡ At (0 + r) = sym (clean_looks q 0 c) ∙ sym w.pens in
    let y : 0 + length (bytes q) ≡ 0 + r = cc z in
    (c, omega (arith, y))

pub quick_passed : (q : List Act) {k r : ℕ} → Quick q k r → 0 < r → (clean q ≡ true) × (length (bytes q) ≡ r)
quick_passed q w p = passed_long q (w.to p 0)

-- The rows of the other table, after a loop that counts the plain ones from the first on (v, its promise): all were passed, or row i of them has a fault.
-- kids_passed and kids_odd are for the quick test; kids_checked and kids_stopped for the check pass, which looks again at the row that stopped the loop.
module _ (f : ℕ → List Act) (first count : ℕ) {most i long : ℕ} (v : PlainRows (λ j. f (first + j)) most count i long) where
  pub kids_passed : count ≤ i → (clean (rows f first count) ≡ true) × (length (bytes (rows f first count)) ≡ long)
  kids_passed h = rw (rows_from_lem f first count) (passed_long (rows (λ j. f (first + j)) 0 count) (plain_end (λ j. f (first + j)) most count 0 v h))

  pub kids_odd : i < count → clean (rows f first count) ≡ false
  kids_odd h = rw (rows_from_lem f first count) (go (clean (rows (λ j. f (first + j)) 0 count)) refl)
    where
      go : (c : Bool) → clean (rows (λ j. f (first + j)) 0 count) ≡ c → c ≡ false
      go false z = refl
      go true z =
          let (a, m, s) = faulty (f (first + i)) (0 + long) (v.odd h) in
          let y : At (0 + length (bytes (rows (λ j. f (first + j)) 0 count))) ≡ Stop a m =
          sym (clean_looks (rows (λ j. f (first + j)) 0 count) 0 z) ∙ v.passes 0
          ∙ ap (λ (l : List Act). looks l (At (0 + long))) (rows_turn (λ j. f (first + j)) i count h) ∙ looks_append (f (first + i)) _ (At (0 + long))
          ∙ ap (looks (rows (λ j. f (first + j)) (i + 1) (count - (i + 1)))) s ∙ stuck (rows (λ j. f (first + j)) (i + 1) (count - (i + 1))) a m in
          absurd (let z : ◌≡◌ {A = ℕ} 0 1 = cc y in omega arith)

  pub kids_checked : (n : ℕ) → count ≤ i → Checked (rows f first count) (most * count) (At n) (At (n + long))
  kids_checked n h = rw (rows_from_lem f first count) (plain_end (λ j. f (first + j)) most count n v h)

  pub kids_stopped : (n : ℕ) → i < count → {r : Pen} → Checked (f (first + i)) most (At (n + long)) r → Checked (rows f first count) (most * count) (At n) r
  kids_stopped n h w = rw (rows_from_lem f first count) (plain_odd (λ j. f (first + j)) most count n v h w)

module _ (b : Broken) (room : ℕ) (kid : ℕ → List Act) (g : Columns) where
  -- The check pass: the front, which is its demands and the bytes of its head, and behind that its rows and the tail. The code takes the pen of the front apart:
  -- stopped (broken_stopped), or at a place, where the rows are known to stand in their table (front_passed) and the rest is checked (broken_checked).
  pub record Front : Type 0 where
    pub inside : g b.first + g b.count ≤ room
    pub counts : every counted g (cells (layouts b) g) ≡ true
    pub agrees : clean (matched (layouts b) g) ≡ true
    pub fits : clean (writes b.head g) ≡ true

  front_so : clean (front_acts b room g) ≡ true → Front
  unfolding clean
  front_so e =
      let (r, e₁) = and_both (leb (g b.first + g b.count) room) _ e in
      let (f, e₂) = and_both (every flagged g (cells (layouts b) g)) _ e₁ in
      let (c, e₃) = and_both (every counted g (cells (layouts b) g)) _ e₂ in
      let (m, h) = clean_both (matched (layouts b) g) (writes b.head g) e₃ in
      record { inside = leb-true _ _ r; counts = c; agrees = m; fits = h }

  -- its actions are the front, and what stands behind it
  acts_so : front_acts b room g ++ (kid_acts b kid g ++ writes b.tail g) ≡ broken_acts b room kid g
  acts_so =
      λ i. demand F.Range (leb (g b.first + g b.count) room) ∷ demand F.Field (every flagged g (cells (layouts b) g)) ∷ demand F.Empty (every counted g (cells (layouts b) g))
      ∷ append_assoc (matched (layouts b) g) (writes b.head g) (kid_acts b kid g ++ writes b.tail g) i

  module _ {k n : ℕ} {p : Pen} (w : Checked (front_acts b room g) k (At n) p) where
    pub front_passed : {m : ℕ} → p ≡ At m → Front
    front_passed e = front_so (passed_clean (front_acts b room g) _ w e)

    pub broken_stopped : (most : ℕ) → k ≤ most → {f : Fault} {m : ℕ} → p ≡ Stop f m → Checked (broken_acts b room kid g) most (At n) p
    broken_stopped most l e =
        check_stop most (check_turn {rest = kid_acts b kid g ++ writes b.tail g} k (check_start (broken_acts b room kid g) (At n)) (sym acts_so) w (omega arith)) e l

    pub broken_checked : (most : ℕ) {j t : ℕ} {q r : Pen} → Checked (kid_acts b kid g) j p q → Checked (writes b.tail g) t q r → k + (j + t) ≤ most
        → Checked (broken_acts b room kid g) most (At n) r
    broken_checked most {r = r} x y l = subst (λ (q : List Act). Checked q most (At n) r) acts_so (more most (then w (then x y)) l)

  -- The quick test: its range, its counts and its own bytes (row_is_plain), and then its rows.
  abbrev pub row_is_plain : Bool
  row_is_plain = leb (g b.first + g b.count) room && (every counted g (cells (layouts b) g) && (clean (writes b.head g) && clean (writes b.tail g)))

  -- a flag is a field of one bit, so the bytes tell, and what has to match
  flags_too : nest_test b ≡ true → clean (matched (layouts b) g) ≡ true → clean (writes b.head g) ≡ true → clean (writes b.tail g) ≡ true
      → every flagged g (cells (layouts b) g) ≡ true
  unfolding cells matched nest_test
  flags_too t₀ m h t =
      let (p₀, _) =
      and_both (proper [] b.head && (not (has b.count (all b.tail)) && (free (all b.head) (all b.tail) && proper (sure b.head ++ []) b.tail))) _ t₀ in
      let (p, p₁) = and_both (proper [] b.head) _ p₀ in
      let (_, p₂) = and_both (not (has b.count (all b.tail))) _ p₁ in
      let (_, q) = and_both (free (all b.head) (all b.tail)) _ p₂ in
      let (x, y) = clean_both (matches b.head g) (matches b.tail g) m in
      append_every flagged g (shown b.head g) (shown b.tail g) (fit_flags (shown b.head g) g (all_fit [] b.head p g x h))
      (fit_flags (shown b.tail g) g (all_fit (sure b.head ++ []) b.tail q g y t))

  pub clean_parts : clean (broken_acts b room kid g)
      ≡ leb (g b.first + g b.count) room && (every flagged g (cells (layouts b) g) && (every counted g (cells (layouts b) g) && (clean (matched (layouts b) g) && (clean (writes b.head g) && (clean (kid_acts b kid g) && clean (writes b.tail g))))))
  unfolding clean
  clean_parts =
      ap (λ (c : Bool). leb (g b.first + g b.count) room && (every flagged g (cells (layouts b) g) && (every counted g (cells (layouts b) g) && c)))
      (clean_append (matched (layouts b) g) (writes b.head g ++ (kid_acts b kid g ++ writes b.tail g)) ∙ ap (λ (c : Bool). clean (matched (layouts b) g) && c) (clean_append (writes b.head g) (kid_acts b kid g ++ writes b.tail g) ∙ ap (λ (c : Bool). clean (writes b.head g) && c) (clean_append (kid_acts b kid g) (writes b.tail g))))

  plain_clean : nest_test b ≡ true → row_is_plain ≡ true → clean (matched (layouts b) g) ≡ true → clean (kid_acts b kid g) ≡ true → clean (broken_acts b room kid g) ≡ true
  plain_clean p e m k =
      let (r, e₁) = and_both (leb (g b.first + g b.count) room) _ e in
      let (c, e₂) = and_both (every counted g (cells (layouts b) g)) _ e₁ in
      let (h, t) = and_both (clean (writes b.head g)) _ e₂ in
      clean_parts ∙ both_and r (both_and (flags_too p m h t) (both_and c (both_and m (both_and h (both_and k t)))))

  clean_plain : clean (broken_acts b room kid g) ≡ true → (row_is_plain ≡ true) × (clean (kid_acts b kid g) ≡ true)
  clean_plain e =
      let (r, e₁) = and_both (leb (g b.first + g b.count) room) _ (sym clean_parts ∙ e) in
      let (f, e₂) = and_both (every flagged g (cells (layouts b) g)) _ e₁ in
      let (c, e₃) = and_both (every counted g (cells (layouts b) g)) _ e₂ in
      let (m, e₄) = and_both (clean (matched (layouts b) g)) _ e₃ in
      let (h, e₅) = and_both (clean (writes b.head g)) _ e₄ in
      let (k, t) = and_both (clean (kid_acts b kid g)) _ e₅ in
      (both_and r (both_and c (both_and h t)), k)

  broken_long : length (bytes (broken_acts b room kid g)) ≡ length (bytes (writes b.head g)) + (length (bytes (kid_acts b kid g)) + length (bytes (writes b.tail g)))
  unfolding bytes
  broken_long =
      ap length
      (after_demands (layouts b) g (writes b.head g ++ (kid_acts b kid g ++ writes b.tail g)) ∙ bytes_append (writes b.head g) (kid_acts b kid g ++ writes b.tail g) ∙ ap (λ (l : List ℕ). bytes (writes b.head g) ++ l) (bytes_append (kid_acts b kid g) (writes b.tail g)))
      ∙ length-append (bytes (writes b.head g)) (bytes (kid_acts b kid g) ++ bytes (writes b.tail g))
      ∙ ap (λ (k : ℕ). length (bytes (writes b.head g)) + k) (length-append (bytes (kid_acts b kid g)) (bytes (writes b.tail g)))

  -- It has no fault and makes r bytes; a test of its own failed; or one of its rows has a fault.
  pub broken_quick : (most : ℕ) {r : ℕ} → nest_test b ≡ true → row_is_plain ≡ true → clean (matched (layouts b) g) ≡ true → clean (kid_acts b kid g) ≡ true
      → r ≡ length (bytes (writes b.head g)) + (length (bytes (kid_acts b kid g)) + length (bytes (writes b.tail g))) → 0 < r → r ≤ most
      → Quick (broken_acts b room kid g) most r
  broken_quick most x e m k q p l = quick_clean (broken_acts b room kid g) most (plain_clean x e m k) (broken_long ∙ sym q) p l

  pub broken_odd : (most : ℕ) → row_is_plain ≡ false → Quick (broken_acts b room kid g) most 0
  broken_odd most e = quick_odd (broken_acts b room kid g) most (λ z. no_quick e (clean_plain z).0)

  pub broken_odd_kid : (most : ℕ) → clean (kid_acts b kid g) ≡ false → Quick (broken_acts b room kid g) most 0
  broken_odd_kid most e = quick_odd (broken_acts b room kid g) most (λ z. no_quick e (clean_plain z).1)

  -- The fill pass: the demands store nothing (broken_filling), and hold, so that its rows stand in their table (broken_ready). Then its head by fill_part_lem of Plain or fill_byte
  -- of Passes, its rows by kids_ready and kids_filled, and its tail by fill_last.
  module _ {n : ℕ} {l : List ℕ} (w : Ready (broken_acts b room kid g) n l) where
    pub broken_ready : Front
    unfolding clean
    broken_ready = front_so (clean_both (front_acts b room g) (kid_acts b kid g ++ writes b.tail g) (ap clean acts_so ∙ w.sound)).0

    pub broken_filling : Filling (broken_acts b room kid g) (writes b.head g ++ (kid_acts b kid g ++ writes b.tail g)) n l n l
    broken_filling =
        fill_turn (fill_demand (fill_demand (fill_demand (fill_start w)))) refl refl
        (record { place = omega (arith, ap length (matched_none (layouts b) g)); holds = ap (sets l n) (sym (matched_none (layouts b) g)) })

  module _ {n₀ n : ℕ} {l o : List ℕ} (v : Filling (broken_acts b room kid g) (kid_acts b kid g ++ writes b.tail g) n₀ l n o) where
    pub kids_ready : Ready (kid_acts b kid g) n o
    kids_ready = fill_row_lem (kid_acts b kid g) (writes b.tail g) v refl

    pub kids_filled : {r : ℕ} {o' : List ℕ} → Filled (kid_acts b kid g) n o r o' → Filling (broken_acts b room kid g) (writes b.tail g) n₀ l r o'
    kids_filled w = fill_turn v refl (filled_long w) w
