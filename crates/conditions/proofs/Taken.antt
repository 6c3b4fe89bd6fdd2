-- The bytes of a condition: the one that is always there, a detail with its flags, and the gain and the position that these steer.
use Prim.Native.Nat.{ℕ, zero, suc, ◌+◌, ◌*◌, ◌<◌}
use mathlib.Core.Path.{◌≡◌, refl, sym, ap, ◌∙◌}
use mathlib.Core.List.{List, [], ◌∷◌, ◌++◌, append-nil, flatten}
use mathlib.Core.Bool.{Bool, true, false}
use native.Mathlib.Omega.{arith}
use lib.ListN.{get_or, drop}
use lib.Dec.{eqb}
use borrow.Author.Tests.{eq-eqb, ne_eqb}
use Rattle.wire.specs.Lists.{each}
use Rattle.wire.specs.Bits.{part, total, split}
use Rattle.wire.specs.Prog.{Out, done, run}
use Rattle.wire.specs.Reads.{end_of}
use Rattle.wire.specs.Act.{pick}
use Rattle.wire.specs.Layout.{end, optional, ◌▹◌, Columns, flat, put, blank, has, row}
use Rattle.wire.specs.Straight.{ends, ones, puts_at, took, taken, spans, sizes, PartTaken, blanks}
use Rattle.wire.proofs.Layouts.Cells.{all, free}
use Rattle.wire.proofs.Fields.{part_below}
use Rattle.wire.proofs.Layouts.Straight.{Whole, Behind, total_ones, ones_more, flat_ends, sizes_so, steered, each_off, flag_is, part_there, taken_there, taken_none}
use Rattle.conditions.specs.Layout.{condition, detail, position}
use Rattle.conditions.specs.Rows.{gain, id_cells, flag_cells, behind, position_row, position_from}
use Rattle.conditions.specs.declared.rows.PresetPosition.{PresetPosition}

-- ---- the sizes

flagged : (p g : ℕ) → p < 2 → g < 2 → pick (eqb g 1) (ones 1) [] ++ (pick (eqb p 1) (ones 3) [] ++ []) ≡ ones (g + p * 3)
unfolding ones
flagged zero zero h l = refl
flagged zero (suc zero) h l = refl
flagged (suc zero) zero h l = refl
flagged (suc zero) (suc zero) h l = refl
flagged (suc (suc p)) g h l = absurd (omega arith)
flagged zero (suc (suc g)) h l = absurd (omega arith)
flagged (suc zero) (suc (suc g)) h l = absurd (omega arith)

detail_sizes : (f : Columns) (s : List ℕ) (at : ℕ) → spans detail f s at ≡ ones (1 + behind (get_or s at 0))
unfolding took puts_at put split total sizes ones steered all has free flatten
detail_sizes f s at =
    let b = get_or s at 0 in
    ap (λ (l : List ℕ). 1 ∷ l)
    (sizes_so (5 ∷ 7 ∷ []) (optional 5 gain ▹ optional 7 position ▹ end) refl refl (puts_at (flag_cells ∷ []) s at 0 f) s at 1 ∙ flagged (part 0 1 b) (part 2 1 b) (part_below 0 1 b) (part_below 2 1 b))
    ∙ sym (ones_more (behind b))

-- the sizes behind the first byte
abbrev pub rest : List ℕ → ℕ → List ℕ
rest s at = pick (eqb (part 0 1 (get_or s at 0)) 1) (ones (1 + behind (get_or s (at + 1) 0))) []

condition_sizes : (s : List ℕ) (at : ℕ) → spans condition blank s at ≡ 1 ∷ rest s at
unfolding condition took puts_at put split total
condition_sizes s at = ap (λ (l : List ℕ). 1 ∷ l) (append-nil _ ∙ go (eqb (part 0 1 (get_or s at 0)) 1))
  where
    f : Columns
    f = puts_at (id_cells ∷ []) s at 0 blank

    go : (x : Bool) → (pick x (took detail f s (at + 1) 0) (f, [])).1 ≡ pick x (ones (1 + behind (get_or s (at + 1) 0))) []
    go true = detail_sizes f s (at + 1)
    go false = refl

pub condition_ends : (s : List ℕ) (at : ℕ) → end_of (run (flat 13 condition) s at) ≡ ends (ones 1 ++ rest s at) s at
unfolding ones
condition_ends s at = flat_ends 13 condition s at ∙ ap (λ (l : List ℕ). ends l s at) (condition_sizes s at)

pub condition_long : (s : List ℕ) (at : ℕ) → total (spans condition blank s at) ≡ 1 + pick (eqb (part 0 1 (get_or s at 0)) 1) (1 + behind (get_or s (at + 1) 0)) 0
unfolding total
condition_long s at = ap total (condition_sizes s at) ∙ ap (λ (k : ℕ). 1 + k) (go (eqb (part 0 1 (get_or s at 0)) 1))
  where
    go : (x : Bool) → total (pick x (ones (1 + behind (get_or s (at + 1) 0))) []) ≡ pick x (1 + behind (get_or s (at + 1) 0)) 0
    go true = total_ones (1 + behind (get_or s (at + 1) 0))
    go false = refl

-- ---- measured: behind one byte

module _ {s : List ℕ} {at n b v : ℕ} (w : Behind s at n) (e : b ≡ get_or s at 0) (q : v ≡ part 0 1 b) {o : Out (Unit {0})} where
  pub with_detail : v ≡ 1 → o ≡ ends (ones (1 + behind (get_or s n 0))) s n → o ≡ end_of (run (flat 13 condition) s at)
  with_detail t d =
      let z : eqb (part 0 1 (get_or s at 0)) 1 ≡ true = eq-eqb _ 1 (sym (q ∙ ap (part 0 1) e) ∙ t) in
      d ∙ ap (λ (k : ℕ). ends (ones (1 + behind (get_or s k 0))) s n) w.is
      ∙ ap (λ (x : Bool). ends (pick x (ones (1 + behind (get_or s (at + 1) 0))) []) s n) (sym z) ∙ sym (condition_ends s at ∙ w.goes (rest s at))

  pub no_detail_lem : (v ≡ 1 → ⊥) → o ≡ done tt n → o ≡ end_of (run (flat 13 condition) s at)
  unfolding ends
  no_detail_lem t d =
      let z : eqb (part 0 1 (get_or s at 0)) 1 ≡ false = ne_eqb _ 1 (λ x. t (q ∙ ap (part 0 1) e ∙ x)) in
      d ∙ ap (λ (x : Bool). ends (pick x (ones (1 + behind (get_or s (at + 1) 0))) []) s n) (sym z) ∙ sym (condition_ends s at ∙ w.goes (rest s at))

-- ---- taken

-- a gain that is there
pub gain_there : (s : List ℕ) (at : ℕ) {v : ℕ} → v ≡ 1 → PartTaken 5 2 gain v (blanks 1) s at (1 ∷ part 0 8 (get_or s at 0) ∷ [])
unfolding took puts_at put split total each blanks
gain_there s at t = taken_there 5 1 gain s at t refl (λ f z. rw z)

pub position_there : (s : List ℕ) (at : ℕ) {v : ℕ} → v ≡ 1 → {r : PresetPosition} → r ≡ position_from s at → PartTaken 7 6 position v (blanks 5) s at (position_row r)
unfolding took puts_at put split total each blanks
position_there s at t q = taken_there 7 5 position s at t (ap position_row q) (λ f z. rw z)

spans_long : (v : ℕ) → v < 2 → (f : Columns) (s : List ℕ) (at : ℕ) → total (pick (eqb v 1) (took gain f s at 0) (f, [])).1 ≡ v
unfolding took total
spans_long zero h f s at = refl
spans_long (suc zero) h f s at = refl
spans_long (suc (suc v)) h f s at = absurd (omega arith)

module _ (s : List ℕ) (at : ℕ) {b m : ℕ} (e : b ≡ get_or s at 0) (a : m ≡ at + 1 + part 2 1 b) where
  -- the columns behind the flags, and behind the gain
  abbrev headed : Columns → Columns
  headed f = puts_at (flag_cells ∷ []) s at 0 f

  abbrev with_gain : Columns → Columns
  with_gain f = taken (optional 5 gain end) (headed f) s (at + 1)

  abbrev with_all : Columns → ℕ → Columns
  with_all f k = taken (optional 7 position end) (with_gain f) s k

  parts_taken : (f : Columns) → taken detail f s at ≡ with_all f m
  unfolding took puts_at put split total
  parts_taken f =
      let q : m ≡ at + 1 + total (pick (eqb (headed f 5) 1) (took gain (headed f) s (at + 1) 0) (headed f, [])).1 =
      a ∙ ap (λ (b : ℕ). at + 1 + part 2 1 b) e ∙ ap (λ (k : ℕ). at + 1 + k) (sym (spans_long (headed f 5) (part_below 2 1 (get_or s at 0)) (headed f) s (at + 1))) in
      ap (with_all f) (sym q)

  pub detail_taken : {g p : List ℕ} → PartTaken 5 2 gain (part 2 1 b) (blanks 1) s (at + 1) g → PartTaken 7 6 position (part 0 1 b) (blanks 5) s m p
      → PartTaken 1 12 detail 1 (blanks 11) s at (1 ∷ part 4 4 b ∷ part 3 1 b ∷ part 1 1 b ∷ (g ++ p))
  unfolding took puts_at put split total all has free flatten each blanks
  detail_taken {g} {p} x y = record {
    of = λ f z.
        let f₀ = headed f in
        let f₁ = with_gain f in
        let f₂ = with_all f m in
        let v : f 1 ≡ 1 = flag_is 1 11 f z in
        let h : 1 ∷ part 4 4 b ∷ part 3 1 b ∷ part 1 1 b ∷ [] ≡ each f₂ 1 4 =
        (λ t. sym v t ∷ part 4 4 (e t) ∷ part 3 1 (e t) ∷ part 1 1 (e t) ∷ [])
        ∙ (sym (each_off (optional 7 position end) f₁ s m 0 1 4 refl ∙ each_off (optional 5 gain end) f₀ s (at + 1) 0 1 4 refl)) in
        let w : f 6 ≡ 0 = ap (λ (l : List ℕ). get_or l 5 0) z in
        let i : g ≡ each f₂ 5 2 = x.of f₀ (rw (e, w)) ∙ sym (each_off (optional 7 position end) f₁ s m 0 5 2 refl) in
        let o : each f 8 5 ≡ 0 ∷ 0 ∷ 0 ∷ 0 ∷ 0 ∷ [] = ap (drop 7) z in
        let j : p ≡ each f₂ 7 6 = y.of f₁ (each_off (optional 5 gain end) f₀ s (at + 1) 0 7 6 refl ∙ (λ t. part 0 1 (sym e t) ∷ o t)) in
        (λ t. h t ++ (i t ++ j t)) ∙ ap (λ (q : Columns). each q 1 12) (sym (parts_taken f)) ∙ part_there 1 11 detail f s at refl z;
  }

pub condition_taken : (s : List ℕ) (at : ℕ) {b v : ℕ} {d : List ℕ} → b ≡ get_or s at 0 → v ≡ part 0 1 b → PartTaken 1 12 detail v (blanks 11) s (at + 1) d
    → part 1 7 b ∷ d ≡ row 13 (taken condition blank s at)
unfolding condition took puts_at put split total all has free flatten each blanks
condition_taken s at {b} {v} {d} e q x =
    let f = puts_at (id_cells ∷ []) s at 0 blank in
    let h : part 1 7 b ∷ [] ≡ each (taken (optional 1 detail end) f s (at + 1)) 0 1 = rw e (sym (each_off (optional 1 detail end) f s (at + 1) 0 0 1 refl)) in
    let i : d ≡ each (taken (optional 1 detail end) f s (at + 1)) 1 12 = x.of f (λ t. sym (q ∙ ap (part 0 1) e) t ∷ blanks 11) in
    λ t. h t ++ i t

-- a condition that was measured, with its detail and without
module _ (s : List ℕ) (at : ℕ) {b v : ℕ} (e : b ≡ get_or s at 0) (q : v ≡ part 0 1 b) where
  flag_so : part 0 1 (get_or s at 0) ≡ v
  flag_so = sym (q ∙ ap (part 0 1) e)

  pub long_with : v ≡ 1 → total (spans condition blank s at) ≡ 1 + (1 + behind (get_or s (at + 1) 0))
  long_with t = condition_long s at ∙ ap (λ (x : Bool). 1 + pick x (1 + behind (get_or s (at + 1) 0)) 0) (eq-eqb _ 1 (flag_so ∙ t))

  long_without : (v ≡ 1 → ⊥) → total (spans condition blank s at) ≡ 1
  long_without t = condition_long s at ∙ ap (λ (x : Bool). 1 + pick x (1 + behind (get_or s (at + 1) 0)) 0) (ne_eqb _ 1 (λ z. t (sym flag_so ∙ z)))

  module _ (w : Whole 13 condition s at) {i : ℕ} (r : i ≡ part 1 7 b) where
    pub condition_with : v ≡ 1 → {d : List ℕ} {k : ℕ} → PartTaken 1 12 detail 1 (blanks 11) s (at + 1) d → k ≡ behind (get_or s (at + 1) 0)
        → done (i ∷ d) (at + 2 + k) ≡ run (flat 13 condition) s at
    condition_with t {d} {k} x h =
        let n : at + 2 + k ≡ at + total (spans condition blank s at) = omega (arith, long_with t, h) in
        let z : i ∷ d ≡ row 13 (taken condition blank s at) = ap (λ (i : ℕ). i ∷ d) r ∙ condition_taken s at e q (rw t x) in
        (λ j. done (z j) (n j)) ∙ sym w.is

    pub condition_without : (v ≡ 1 → ⊥) → done (i ∷ 0 ∷ blanks 11) (at + 1) ≡ run (flat 13 condition) s at
    condition_without t =
        let n : at + 1 ≡ at + total (spans condition blank s at) = omega (arith, long_without t) in
        let z : i ∷ 0 ∷ blanks 11 ≡ row 13 (taken condition blank s at) =
        ap (λ (i : ℕ). i ∷ 0 ∷ blanks 11) r ∙ condition_taken s at e q (taken_none 1 11 detail s (at + 1) (omega (arith, part_below 0 1 b, q)) t) in
        (λ j. done (z j) (n j)) ∙ sym w.is
