-- The bytes of a group: those that are always there, the flags in them, and the parts that these steer.
use Prim.Native.Nat.{ℕ, zero, suc, ◌+◌, ◌*◌, ◌≤◌, ◌<◌}
use mathlib.Core.Path.{◌≡◌, refl, sym, ap, ◌∙◌}
use mathlib.Core.List.{List, [], ◌∷◌, ◌++◌, append_assoc, append-nil, flatten}
use mathlib.Core.Bool.{Bool, true, false}
use native.Mathlib.Omega.{arith}
use native.Mathlib.Nat.{add-zero}
use lib.ListN.{length, get_or, length-append}
use lib.Seq.{sets}
use lib.Dec.{eqb}
use borrow.Author.Tests.{eq-eqb, ne_eqb}
use Rattle.wire.specs.Lists.{each}
use Rattle.wire.specs.Bits.{part, total, split}
use Rattle.wire.specs.Prog.{Out, done, short, run}
use Rattle.wire.specs.Reads.{end_of, is_done}
use Rattle.wire.specs.Act.{pick}
use Rattle.wire.specs.Layout.{Layout, end, optional, Columns, flat, put, blank, has, row}
use Rattle.wire.specs.Nest.{RowStored}
use Rattle.wire.specs.Straight.{ends, ones, puts_at, took, taken, spans, sizes, PartTaken, blanks}
use Rattle.wire.proofs.Layouts.Cells.{all, free}
use Rattle.wire.proofs.Reading.Steps.{sets_append}
use Rattle.wire.proofs.Fields.{part_below}
use Rattle.wire.proofs.Layouts.Straight.{Whole, flat_done, flat_ends, sizes_so, steered, ends_within, ends_at, ends_on, ends_cut, heads, each_off, taken_none, taken_there}
use Rattle.wire.specs.declared.reads.Short.{Short}
use Rattle.scene_groups.specs.Layout.{group, position, gain, language}
use Rattle.scene_groups.specs.declared.rows.PositionInteractivity.{PositionInteractivity}
use Rattle.scene_groups.specs.declared.rows.GainInteractivity.{GainInteractivity}
use Rattle.scene_groups.specs.declared.rows.ContentLanguage.{ContentLanguage}
use Rattle.scene_groups.specs.Rows.{id_cells, flag_cells, content_cells, parts, position_row, gain_row, language_row, position_from, gain_from, language_from, head_of, PartPut}

-- the columns after the three bytes
abbrev headed : List ℕ → ℕ → Columns
headed s at = puts_at (content_cells ∷ []) s at 2 (puts_at (flag_cells ∷ []) s at 1 (puts_at (id_cells ∷ []) s at 0 blank))

-- the parts that the flags b steer, as sizes of reads
abbrev part_sizes : ℕ → List ℕ
part_sizes b = pick (eqb (part 2 1 b) 1) (ones 5) [] ++ (pick (eqb (part 1 1 b) 1) (ones 2) [] ++ (pick (eqb (part 0 1 b) 1) (3 ∷ []) [] ++ []))

group_sizes : (s : List ℕ) (at : ℕ) → spans group blank s at ≡ 1 ∷ 1 ∷ 1 ∷ part_sizes (get_or s (at + 1) 0)
unfolding group took puts_at put split total sizes ones steered all has free flatten
group_sizes s at = ap (λ (l : List ℕ). 1 ∷ 1 ∷ 1 ∷ l) (sizes_so (7 ∷ 18 ∷ 23 ∷ []) parts refl refl (headed s at) s at 3)

-- with the single bytes together
abbrev pub single_sizes : ℕ → List ℕ
single_sizes b = pick (eqb (part 2 1 b) 1) (ones 5) [] ++ pick (eqb (part 1 1 b) 1) (ones 2) []

abbrev pub language_sizes : ℕ → List ℕ
language_sizes b = pick (eqb (part 0 1 b) 1) (3 ∷ []) []

pub group_ends : (s : List ℕ) (at : ℕ) → end_of (run (flat 27 group) s at) ≡ ends (ones 3 ++ (single_sizes (get_or s (at + 1) 0) ++ language_sizes (get_or s (at + 1) 0))) s at
unfolding ones
group_ends s at =
    let b : ℕ = get_or s (at + 1) 0 in
    let p = pick (eqb (part 2 1 b) 1) (ones 5) [] in
    let g = pick (eqb (part 1 1 b) 1) (ones 2) [] in
    let q : part_sizes b ≡ single_sizes b ++ language_sizes b = rw (append-nil (language_sizes b)) (sym (append_assoc p g (language_sizes b))) in
    flat_ends 27 group s at ∙ ap (λ (l : List ℕ). ends l s at) (group_sizes s at ∙ ap (λ (l : List ℕ). 1 ∷ 1 ∷ 1 ∷ l) q)

pub singles_so : (p g r : ℕ) → p < 2 → g < 2 → r ≡ p * 5 + g * 2 → (ones r ≡ pick (eqb p 1) (ones 5) [] ++ pick (eqb g 1) (ones 2) []) × (r ≤ 7)
unfolding ones
singles_so zero zero r h l e = (ap ones e, omega arith)
singles_so zero (suc zero) r h l e = (ap ones e, omega arith)
singles_so (suc zero) zero r h l e = (ap ones e, omega arith)
singles_so (suc zero) (suc zero) r h l e = (ap ones e, omega arith)
singles_so (suc (suc p)) g r h l e = absurd (omega arith)
singles_so zero (suc (suc g)) r h l e = absurd (omega arith)
singles_so (suc zero) (suc (suc g)) r h l e = absurd (omega arith)

-- ---- measured: behind the three bytes, and behind the single bytes of the parts

pub record Three (s : List ℕ) (at n : ℕ) : Type 0 where
  pub there : at + 3 ≤ length s
  pub inside : n ≤ length s
  pub goes : end_of (run (flat 27 group) s at) ≡ ends (single_sizes (get_or s (at + 1) 0) ++ language_sizes (get_or s (at + 1) 0)) s n

pub three : (s : List ℕ) (at : ℕ) {n : ℕ} → at ≤ length s → done tt n ≡ ends (ones 3) s at → Three s at n
unfolding ones total
three s at h e =
    let i = ends_within (ones 3) s at h (sym e) in
    let q = ends_at (ones 3) s at (sym e) in
    record { there = omega arith; inside = i; goes = group_ends s at ∙ ends_on (ones 3) _ s at e }

pub record Singly (s : List ℕ) (at m : ℕ) : Type 0 where
  pub inside : m ≤ length s
  pub goes : end_of (run (flat 27 group) s at) ≡ ends (language_sizes (get_or s (at + 1) 0)) s m

module _ {s : List ℕ} {at n flags : ℕ} (r : ℕ) (w : Three s at n) (b : flags ≡ get_or s (at + 1) 0) (q : ones r ≡ single_sizes flags) where
  same : {o : Out (Unit {0})} → o ≡ ends (ones r) s n → o ≡ ends (single_sizes (get_or s (at + 1) 0)) s n
  same e = e ∙ ap (λ (l : List ℕ). ends l s n) (q ∙ ap single_sizes b)

  pub singly : {m : ℕ} → done tt m ≡ ends (ones r) s n → Singly s at m
  singly e = record { inside = ends_within (ones r) s n w.inside (sym e); goes = w.goes ∙ ends_on (single_sizes (get_or s (at + 1) 0)) _ s n (same e) }

  pub singly_cut : {x : Short} → short x ≡ ends (ones r) s n → short x ≡ end_of (run (flat 27 group) s at)
  singly_cut e = ends_cut (single_sizes (get_or s (at + 1) 0)) (language_sizes (get_or s (at + 1) 0)) s n (same e) ∙ sym w.goes

module _ {s : List ℕ} {at m flags v : ℕ} (w : Singly s at m) (b : flags ≡ get_or s (at + 1) 0) (q : v ≡ part 0 1 flags) {o : Out (Unit {0})} where
  pub with_language : v ≡ 1 → o ≡ ends (3 ∷ []) s m → o ≡ end_of (run (flat 27 group) s at)
  with_language t e =
      let z : eqb (part 0 1 (get_or s (at + 1) 0)) 1 ≡ true = eq-eqb _ 1 (sym (q ∙ ap (part 0 1) b) ∙ t) in
      e ∙ ap (λ (x : Bool). ends (pick x (3 ∷ []) []) s m) (sym z) ∙ sym w.goes

  pub no_language_lem : (v ≡ 1 → ⊥) → o ≡ done tt m → o ≡ end_of (run (flat 27 group) s at)
  unfolding ends
  no_language_lem t e =
      let z : eqb (part 0 1 (get_or s (at + 1) 0)) 1 ≡ false = ne_eqb _ 1 (λ x. t (q ∙ ap (part 0 1) b ∙ x)) in
      e ∙ ap (λ (x : Bool). ends (pick x (3 ∷ []) []) s m) (sym z) ∙ sym w.goes

-- ---- taken

-- a part that is there
pub position_there : (s : List ℕ) (at : ℕ) {v : ℕ} → v ≡ 1 → {r : PositionInteractivity} → r ≡ position_from s at → PartTaken 7 11 position v (blanks 10) s at (position_row r)
unfolding took puts_at put split total each
position_there s at t q = taken_there 7 10 position s at t (ap position_row q) (λ f z. rw z)

pub gain_there : (s : List ℕ) (at : ℕ) {v : ℕ} → v ≡ 1 → {r : GainInteractivity} → r ≡ gain_from s at → PartTaken 18 5 gain v (blanks 4) s at (gain_row r)
unfolding took puts_at put split total each
gain_there s at t q = taken_there 18 4 gain s at t (ap gain_row q) (λ f z. rw z)

pub language_there : (s : List ℕ) (at : ℕ) {v : ℕ} → v ≡ 1 → {r : ContentLanguage} → r ≡ language_from s at → PartTaken 23 4 language v (blanks 3) s at (language_row r)
unfolding took puts_at put split total each
language_there s at t q = taken_there 23 3 language s at t (ap language_row q) (λ f z. rw z)

-- ---- stored: a part that is there, and the zeros of one that is not

pub put_there : (k n : ℕ) (p : Layout) (m : ℕ) {v at to : ℕ} {z row q s t u : List ℕ} → v ≡ 1 → PartTaken k n p v z s at q → length q ≡ n → row ≡ q → u ≡ sets t to row
    → PartPut k n p v z m s at t to (at + m) u
put_there k n p m {v} {at} {to} {row = row} {q = q} {t = t} h w l e r =
    record { row = q; long = l; takes = w; stored = r ∙ ap (sets t to) e; on = ap (λ (x : Bool). at + pick x m 0) (sym (eq-eqb v 1 h)) }

blanks_long : (n : ℕ) → length (blanks n) ≡ n
unfolding blanks
blanks_long zero = refl
blanks_long (suc n) = ap suc (blanks_long n)

pub put_none : (k n : ℕ) (p : Layout) (m : ℕ) {v at to : ℕ} {s t u : List ℕ} → v ≤ 1 → (v ≡ 1 → ⊥) → u ≡ sets t to (0 ∷ blanks n)
    → PartPut k (suc n) p v (blanks n) m s at t to at u
put_none k n p m {v} {at} {to} {s} h l r =
    record {
      row = 0 ∷ blanks n;
      long = ap suc (blanks_long n);
      takes = taken_none k n p s at h l;
      stored = r;
      on = sym (ap (λ (x : Bool). at + pick x m 0) (ne_eqb v 1 l) ∙ add-zero at);
    }

-- four lists that are stored end to end are stored as one
four_stored : (t : List ℕ) (to : ℕ) (a b c d : List ℕ) → length a ≡ 7 → length b ≡ 11 → length c ≡ 5
    → sets (sets (sets (sets t to a) (to + 7) b) (to + 18) c) (to + 23) d ≡ sets t to (a ++ (b ++ (c ++ d)))
four_stored t to a b c d x y z =
    let i : to + length a ≡ to + 7 = omega (arith, x) in
    let j : to + length a + length b ≡ to + 18 = omega (arith, x, y) in
    let k : to + length a + length b + length c ≡ to + 23 = omega (arith, x, y, z) in
    sym
    (sets_append t to a (b ++ (c ++ d)) ∙ sets_append (sets t to a) (to + length a) b (c ++ d) ∙ sets_append (sets (sets t to a) (to + length a) b) (to + length a + length b) c d
    ∙ (λ o. sets (sets (sets (sets t to a) (i o) b) (j o) c) (k o) d))

-- the bytes of the parts
abbrev pub fives : ℕ → ℕ
fives v = pick (eqb v 1) 5 0

abbrev pub twos : ℕ → ℕ
twos v = pick (eqb v 1) 2 0

abbrev pub threes : ℕ → ℕ
threes v = pick (eqb v 1) 3 0

pub flag_below : (low b : ℕ) {v : ℕ} → v ≡ part low 1 b → v ≤ 1
flag_below low b e = omega (arith, part_below low 1 b, e)

group_long : (s : List ℕ) (at : ℕ) {b : ℕ} → b ≡ get_or s (at + 1) 0 → total (spans group blank s at) ≡ 3 + (fives (part 2 1 b) + (twos (part 1 1 b) + threes (part 0 1 b)))
unfolding total ones
group_long s at {b} e = ap total (group_sizes s at) ∙ rw (← e) (go (eqb (part 2 1 b) 1) (eqb (part 1 1 b) 1) (eqb (part 0 1 b) 1))
  where
    go : (x y z : Bool) → total (1 ∷ 1 ∷ 1 ∷ (pick x (ones 5) [] ++ (pick y (ones 2) [] ++ (pick z (3 ∷ []) [] ++ [])))) ≡ 3 + (pick x 5 0 + (pick y 2 0 + pick z 3 0))
    go true true true = refl
    go true true false = refl
    go true false true = refl
    go true false false = refl
    go false true true = refl
    go false true false = refl
    go false false true = refl
    go false false false = refl

-- the bytes of the part p, whose flag is column k
abbrev bytes_of : ℕ → Layout → Columns → List ℕ → ℕ → ℕ
bytes_of k p f s at = total (pick (eqb (f k) 1) (took p f s at 0) (f, [])).1

spans_long : (x : Bool) (n : ℕ) (a : Columns × List ℕ) (f : Columns) → total a.1 ≡ n → total (pick x a (f, [])).1 ≡ pick x n 0
unfolding total
spans_long true n a f e = e
spans_long false n a f e = refl

-- the columns behind each part
abbrev with_position : List ℕ → ℕ → Columns
with_position s at = taken (optional 7 position end) (headed s at) s (at + 3)

abbrev with_gain : List ℕ → ℕ → ℕ → Columns
with_gain s at m = taken (optional 18 gain end) (with_position s at) s m

abbrev with_all : List ℕ → ℕ → ℕ → ℕ → Columns
with_all s at m n = taken (optional 23 language end) (with_gain s at m) s n

module _ (s : List ℕ) (at : ℕ) {b m n : ℕ} (e : b ≡ get_or s (at + 1) 0) (a : m ≡ at + 3 + fives (part 2 1 b)) (z : n ≡ m + twos (part 1 1 b)) where
  parts_taken : taken group blank s at ≡ with_all s at m n
  unfolding group took puts_at put split total all has free flatten each
  parts_taken =
      let f₀ = headed s at in
      let f₁ = with_position s at in
      let x : bytes_of 7 position f₀ s (at + 3) ≡ fives (part 2 1 b) =
      spans_long (eqb (f₀ 7) 1) 5 (took position f₀ s (at + 3) 0) f₀ refl ∙ ap (λ (b : ℕ). fives (part 2 1 b)) (sym e) in
      let q : m ≡ at + 3 + bytes_of 7 position f₀ s (at + 3) = a ∙ ap (λ (k : ℕ). at + 3 + k) (sym x) in
      let g : f₁ 18 ≡ part 1 1 b = heads (each_off (optional 7 position end) f₀ s (at + 3) 0 18 5 refl) ∙ ap (part 1 1) (sym e) in
      let y : bytes_of 18 gain f₁ s m ≡ twos (part 1 1 b) = spans_long (eqb (f₁ 18) 1) 2 (took gain f₁ s m 0) f₁ refl ∙ ap twos g in
      let r : n ≡ m + bytes_of 18 gain f₁ s m = z ∙ ap (λ (k : ℕ). m + k) (sym y) in
      ap (λ (k : ℕ). with_all s at k (k + bytes_of 18 gain f₁ s k)) (sym q) ∙ ap (λ (k : ℕ). with_all s at m k) (sym r)

  group_taken : {p g l : List ℕ} → PartTaken 7 11 position (part 2 1 b) (blanks 10) s (at + 3) p
      → PartTaken 18 5 gain (part 1 1 b) (blanks 4) s m g → PartTaken 23 4 language (part 0 1 b) (blanks 3) s n l
      → head_of (get_or s at 0) b (get_or s (at + 2) 0) ++ (p ++ (g ++ l)) ≡ row 27 (taken group blank s at)
  unfolding took puts_at put split total all has free flatten each blanks
  group_taken {p} {g} {l} x y w =
      let f₀ = headed s at in
      let f₁ = with_position s at in
      let f₂ = with_gain s at m in
      let f₃ = with_all s at m n in
      let no-position = each_off (optional 7 position end) f₀ s (at + 3) 0 in
      let no-gain = each_off (optional 18 gain end) f₁ s m 0 in
      let no_language_lem = each_off (optional 23 language end) f₂ s n 0 in
      let h : each f₃ 0 7 ≡ each f₀ 0 7 = no_language_lem 0 7 refl ∙ no-gain 0 7 refl ∙ no-position 0 7 refl in
      let h' : head_of (get_or s at 0) b (get_or s (at + 2) 0) ≡ each f₃ 0 7 = rw e (sym h) in
      let i : p ≡ each f₃ 7 11 = x.of f₀ (rw (← e)) ∙ sym (no_language_lem 7 11 refl ∙ no-gain 7 11 refl) in
      let j : g ≡ each f₃ 18 5 = y.of f₁ (no-position 18 5 refl ∙ rw (← e)) ∙ sym (no_language_lem 18 5 refl) in
      let k : l ≡ each f₃ 23 4 = w.of f₂ (no-gain 23 4 refl ∙ no-position 23 4 refl ∙ rw (← e)) in
      (λ t. h' t ++ (i t ++ (j t ++ k t))) ∙ ap (row 27) (sym parts_taken)

-- a group that was measured, from what stands in its bytes
module _ (s : List ℕ) (at : ℕ) (begun : at ≤ length s) (sound : is_done (run (flat 27 group) s at) ≡ true) where
  whole : Whole 27 group s at
  whole = flat_done 27 group s at begun sound

  -- the three bytes are there
  pub head_there : at + 3 ≤ length s
  head_there = omega (arith, group_long s at refl, whole.there)

  module _ {b : ℕ} (e : b ≡ get_or s (at + 1) 0) {p g l : ℕ} (ep : p ≡ part 2 1 b) (eg : g ≡ part 1 1 b) (el : l ≡ part 0 1 b) where
    long : total (spans group blank s at) ≡ 3 + (fives p + (twos g + threes l))
    long = group_long s at e ∙ sym (λ i. 3 + (fives (ep i) + (twos (eg i) + threes (el i))))

    pub group_room : at + (3 + (fives p + (twos g + threes l))) ≤ length s
    group_room = rw long at whole.there

    pub group_done : {x y z : ℕ} → x ≡ fives p → y ≡ twos g → z ≡ threes l → {h u v t : List ℕ} → h ≡ head_of (get_or s at 0) b (get_or s (at + 2) 0)
        → PartTaken 7 11 position p (blanks 10) s (at + 3) u → PartTaken 18 5 gain g (blanks 4) s (at + 3 + x) v → PartTaken 23 4 language l (blanks 3) s (at + 3 + x + y) t
        → done (h ++ (u ++ (v ++ t))) (at + 3 + x + y + z) ≡ run (flat 27 group) s at
    group_done {x} {y} {z} ex ey ez {h} {u} {v} {t} q i j k =
        let m : at + 3 + x ≡ at + 3 + fives (part 2 1 b) = ap (λ (k : ℕ). at + 3 + k) (ex ∙ ap fives ep) in
        let n : at + 3 + x + y ≡ at + 3 + x + twos (part 1 1 b) = ap (λ (k : ℕ). at + 3 + x + k) (ey ∙ ap twos eg) in
        let r = (λ o. q o ++ (u ++ (v ++ t))) ∙ group_taken s at e m n (rw ep at i) (rw eg at j) (rw el at k) in
        let f : at + 3 + x + y + z ≡ at + total (spans group blank s at) = omega (arith, long, ex, ey, ez) in
        (λ o. done (r o) (f o)) ∙ sym whole.is

    -- the same, stored part by part
    pub group_put : {t t₁ t₂ t₃ t₄ h : List ℕ} {to i j k : ℕ} → h ≡ head_of (get_or s at 0) b (get_or s (at + 2) 0) → t₁ ≡ sets t to h
        → PartPut 7 11 position p (blanks 10) 5 s (at + 3) t₁ (to + 7) i t₂ → PartPut 18 5 gain g (blanks 4) 2 s i t₂ (to + 18) j t₃
        → PartPut 23 4 language l (blanks 3) 3 s j t₃ (to + 23) k t₄ → RowStored (flat 27 group) (λ r. r) 27 s at t to k t₄
    group_put {t} {h = h} {to = to} q e x y z =
        let l : length h ≡ 7 = ap length q in
        let n =
        length-append h (x.row ++ (y.row ++ z.row))
        ∙ ap (λ (k : ℕ). length h + k) (length-append x.row (y.row ++ z.row) ∙ ap (λ (k : ℕ). length x.row + k) (length-append y.row z.row)) in
        let f : List ℕ → List ℕ = λ t. sets t (to + 7) x.row in
        let v : List ℕ → List ℕ = λ t. sets t (to + 18) y.row in
        let w : List ℕ → List ℕ = λ t. sets t (to + 23) z.row in
        record {
          value = h ++ (x.row ++ (y.row ++ z.row));
          wide = n ∙ omega (arith, l, x.long, y.long, z.long);
          reads = sym (rw (z.on, y.on, x.on) (group_done refl refl refl q x.takes (rw x.on at y.takes) (rw (y.on, x.on) at z.takes)));
          stored = z.stored ∙ ap w (y.stored ∙ ap v (x.stored ∙ ap f e)) ∙ four_stored t to h x.row y.row z.row l x.long y.long;
        }
