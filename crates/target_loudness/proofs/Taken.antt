-- What the bytes of a target loudness give its columns, and where it ends.
use Prim.Native.Nat.{ℕ, zero, suc, ◌+◌, ◌<◌}
use mathlib.Core.Path.{◌≡◌, refl, sym, ap, ◌∙◌}
use mathlib.Core.List.{List, [], ◌∷◌, ◌++◌, append-nil, flatten}
use mathlib.Core.Bool.{Bool, true, false}
use native.Mathlib.Omega.{arith}
use lib.ListN.{get_or}
use lib.Dec.{eqb}
use borrow.Author.Tests.{eq-eqb, ne_eqb}
use Rattle.wire.specs.Lists.{each}
use Rattle.wire.specs.Bits.{part, total, split}
use Rattle.wire.specs.Prog.{Out, done}
use Rattle.wire.specs.Act.{pick}
use Rattle.wire.specs.Layout.{end, line, optional, ◌▹◌, Columns, put, has}
use Rattle.wire.specs.Straight.{ends, ones, puts_at, took, taken, spans, sizes, PartTaken, PartEnds, blanks}
use Rattle.wire.proofs.Layouts.Cells.{all, free}
use Rattle.wire.proofs.Fields.{part_below}
use Rattle.wire.proofs.Layouts.Straight.{total_ones, ones_more, sizes_so, steered, each_off, flag_is, part_there, taken_there}
use Rattle.target_loudness.specs.Layout.{lower, target}
use Rattle.target_loudness.specs.Rows.{target_bytes, upper_cells, depends_cells}

-- ---- the sizes

-- behind the first byte, whose last bit is the flag of the lower value
rest_sizes : (v : ℕ) → v < 2 → pick (eqb v 1) (ones 1) [] ++ ones 1 ≡ ones (1 + v)
unfolding ones
rest_sizes zero h = refl
rest_sizes (suc zero) h = refl
rest_sizes (suc (suc v)) h = absurd (omega arith)

there_sizes : (f : Columns) (s : List ℕ) (at : ℕ) → spans target f s at ≡ ones (target_bytes (get_or s at 0))
unfolding took puts_at put split total sizes ones steered all has free flatten
there_sizes f s at =
    let b = get_or s at 0 in
    let e : 1 + (1 + part 0 1 b) ≡ 2 + part 0 1 b = omega arith in
    ap (λ (l : List ℕ). 1 ∷ l)
    (sizes_so (18 ∷ []) (optional 18 lower ▹ line depends_cells ▹ end) refl refl (puts_at upper_cells s at 0 f) s at 1 ∙ rest_sizes (part 0 1 b) (part_below 0 1 b))
    ∙ sym (ones_more (1 + part 0 1 b)) ∙ ap ones e

-- whatever was read before it
pub target_spans : (f : Columns) (s : List ℕ) (at : ℕ) → spans (optional 15 target ▹ end) f s at ≡ pick (eqb (f 15) 1) (ones (target_bytes (get_or s at 0))) []
unfolding took
target_spans f s at = append-nil _ ∙ go (eqb (f 15) 1)
  where
    go : (x : Bool) → (pick x (took target f s at 0) (f, [])).1 ≡ pick x (ones (target_bytes (get_or s at 0))) []
    go true = there_sizes f s at
    go false = refl

pub target_total : (f : Columns) (s : List ℕ) (at : ℕ) → total (spans (optional 15 target ▹ end) f s at) ≡ pick (eqb (f 15) 1) (target_bytes (get_or s at 0)) 0
unfolding total
target_total f s at = ap total (target_spans f s at) ∙ go (eqb (f 15) 1)
  where
    go : (x : Bool) → total (pick x (ones (target_bytes (get_or s at 0))) []) ≡ pick x (target_bytes (get_or s at 0)) 0
    go true = total_ones (target_bytes (get_or s at 0))
    go false = refl

-- ---- measured

pub there_ends : (s : List ℕ) (at : ℕ) {v : ℕ} {o : Out (Unit {0})} → v ≡ 1 → o ≡ ends (ones (1 + (1 + part 0 1 (get_or s at 0)))) s at → PartEnds 15 target v s at o
there_ends s at t e =
    let n : 1 + (1 + part 0 1 (get_or s at 0)) ≡ 2 + part 0 1 (get_or s at 0) = omega arith in
    record { of = λ f q. e ∙ ap (λ (k : ℕ). ends (ones k) s at) n ∙ sym (ap (λ (l : List ℕ). ends l s at) (target_spans f s at ∙ ap (λ (x : Bool). pick x (ones (target_bytes (get_or s at 0))) []) (eq-eqb (f 15) 1 (q ∙ t)))) }

pub none_ends : (s : List ℕ) (at : ℕ) {v : ℕ} → (v ≡ 1 → ⊥) → PartEnds 15 target v s at (done tt at)
unfolding ends
none_ends s at t = record { of = λ f q. sym (ap (λ (l : List ℕ). ends l s at) (target_spans f s at ∙ ap (λ (x : Bool). pick x (ones (target_bytes (get_or s at 0))) []) (ne_eqb (f 15) 1 (λ z. t (sym q ∙ z))))) }

-- ---- taken

pub lower_there : (s : List ℕ) (at : ℕ) {v : ℕ} → v ≡ 1 → PartTaken 18 3 lower v (blanks 2) s at (1 ∷ part 6 2 (get_or s at 0) ∷ part 0 6 (get_or s at 0) ∷ [])
unfolding took puts_at put split total each blanks
lower_there s at t = taken_there 18 2 lower s at t refl (λ f z. rw z)

spans_long : (v : ℕ) → v < 2 → (f : Columns) (s : List ℕ) (at : ℕ) → total (pick (eqb v 1) (took lower f s at 0) (f, [])).1 ≡ v
unfolding took total
spans_long zero h f s at = refl
spans_long (suc zero) h f s at = refl
spans_long (suc (suc v)) h f s at = absurd (omega arith)

-- its first byte is b and its last, behind the lower value, d
module _ (s : List ℕ) (at : ℕ) {b m d : ℕ} (e : b ≡ get_or s at 0) (a : m ≡ at + 1 + part 0 1 b) (z : d ≡ get_or s m 0) where
  abbrev headed : Columns → Columns
  headed f = puts_at upper_cells s at 0 f

  abbrev with_lower : Columns → Columns
  with_lower f = taken (optional 18 lower end) (headed f) s (at + 1)

  abbrev with_all : Columns → ℕ → Columns
  with_all f k = puts_at depends_cells s k 0 (with_lower f)

  parts_taken : (f : Columns) → taken target f s at ≡ with_all f m
  unfolding took puts_at put split total
  parts_taken f =
      let q : m ≡ at + 1 + total (pick (eqb (headed f 18) 1) (took lower (headed f) s (at + 1) 0) (headed f, [])).1 =
      a ∙ ap (λ (b : ℕ). at + 1 + part 0 1 b) e ∙ ap (λ (k : ℕ). at + 1 + k) (sym (spans_long (headed f 18) (part_below 0 1 (get_or s at 0)) (headed f) s (at + 1))) in
      ap (with_all f) (sym q)

  pub target_taken : {l : List ℕ} → PartTaken 18 3 lower (part 0 1 b) (blanks 2) s (at + 1) l
      → PartTaken 15 9 target 1 (blanks 8) s at (1 ∷ part 7 1 b ∷ part 1 6 b ∷ (l ++ (part 7 1 d ∷ part 1 6 d ∷ part 0 1 d ∷ [])))
  unfolding took puts_at put split total all has free flatten each blanks
  target_taken {l} x = record {
    of = λ f w.
        let f₀ = headed f in
        let f₁ = with_lower f in
        let v : f 15 ≡ 1 = flag_is 15 8 f w in
        let h : 1 ∷ part 7 1 b ∷ part 1 6 b ∷ [] ≡ each f₁ 15 3 =
        (λ t. sym v t ∷ part 7 1 (e t) ∷ part 1 6 (e t) ∷ []) ∙ sym (each_off (optional 18 lower end) f₀ s (at + 1) 0 15 3 refl) in
        let o : each f 19 2 ≡ 0 ∷ 0 ∷ [] = ap (λ (q : List ℕ). get_or q 4 0 ∷ get_or q 5 0 ∷ []) w in
        let i : l ≡ each f₁ 18 3 = x.of f₀ (λ t. part 0 1 (sym e t) ∷ o t) in
        (λ t. h t ++ (i t ++ (part 7 1 (z t) ∷ part 1 6 (z t) ∷ part 0 1 (z t) ∷ []))) ∙ ap (λ (q : Columns). each q 15 9) (sym (parts_taken f)) ∙ part_there 15 8 target f s at refl w;
  }
