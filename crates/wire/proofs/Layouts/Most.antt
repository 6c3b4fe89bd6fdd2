-- How many bytes a layout makes at most, whatever its columns are; and rows, what is demanded before a row making none.
use Prim.Native.Nat.{ℕ, zero, suc, ◌+◌, ◌*◌, ◌≤◌}
use mathlib.Core.Path.{◌≡◌, refl, ap, ◌∙◌}
use mathlib.Core.List.{List, [], ◌∷◌, ◌++◌, append-nil, map, flatten}
use mathlib.Core.Bool.{Bool, true, false}
use native.Mathlib.Nat.{suc-mul}
use native.Mathlib.Omega.{arith}
use lib.ListN.{length, length-append}
use lib.Dec.{leb}
use borrow.Author.Tests.{leb-true, leb-false}
use Rattle.wire.specs.Lists.{each}
use Rattle.wire.specs.Bits.{field, fit}
use Rattle.wire.specs.Act.{Act, byte, copy, pick, rows}
use Rattle.wire.specs.Pen.{clean, bytes}
use Rattle.wire.specs.Layout.{Cell, Layout, end, line, word, choose, follows, judged, Columns, byte_of, writes, cells, every, flagged, counted, matched, demands, flat_acts, Bearing, borne_bytes, bearing_acts}
use Rattle.wire.proofs.Writing.Acts.{and_both, clean_both, bytes_append}
use Rattle.wire.proofs.Fields.{fits_cons}
use Rattle.wire.proofs.Writing.Passes.{slice_long}
use Rattle.wire.proofs.Layouts.Rowed.{after_demands}

abbrev larger : ℕ → ℕ → ℕ
larger a b = pick (leb a b) b a

unfoldable pub most : Layout → ℕ
most end = 0
most (line css l) = length css + most l
most (word k l) = 2 + most l
most (choose k is p q l) = larger (most p) (most q) + most l
most (follows c j t x l) = most l
most (judged p l) = most p + most l

larger_so : (a b : ℕ) → (a ≤ larger a b) × (b ≤ larger a b)
larger_so a b = go (leb a b) refl
  where
    go : (x : Bool) → leb a b ≡ x → (a ≤ pick x b a) × (b ≤ pick x b a)
    go true e = let h = leb-true a b e in (omega arith, omega arith)
    go false e = let h = leb-false a b e in (omega arith, omega arith)

line_long : (g : Columns) (css : List (List Cell)) → length (bytes (map (byte_of g) css)) ≡ length css
unfolding bytes
line_long g [] = refl
line_long g (cs ∷ css) = omega (arith, line_long g css)

pub both_long : (a b : List Act) → length (bytes (a ++ b)) ≡ length (bytes a) + length (bytes b)
both_long a b = ap length (bytes_append a b) ∙ length-append (bytes a) (bytes b)

pub writes_most : (l : Layout) (g : Columns) → length (bytes (writes l g)) ≤ most l
unfolding writes most bytes
writes_most end g = omega arith
writes_most (line css l) g = omega (arith, both_long (map (byte_of g) css) (writes l g), line_long g css, writes_most l g)
writes_most (word k l) g = omega (arith, writes_most l g)
writes_most (choose k is p q l) g =
    omega (arith, both_long (pick (is (g k)) (writes p g) (writes q g)) (writes l g), one (is (g k)) (writes_most p g) (writes_most q g), writes_most l g)
  where
    one : (b : Bool) → length (bytes (writes p g)) ≤ most p → length (bytes (writes q g)) ≤ most q → length (bytes (pick b (writes p g) (writes q g))) ≤ larger (most p) (most q)
    one true x y = omega (arith, x, (larger_so (most p) (most q)).0)
    one false x y = omega (arith, y, (larger_so (most p) (most q)).1)
writes_most (follows c j t x l) g = writes_most l g
writes_most (judged p l) g = omega (arith, both_long (writes p g) (writes l g), writes_most p g, writes_most l g)

-- ---- what is demanded makes no bytes

module _ (ls : List Layout) (g : Columns) (q : List Act) where
  pub demanded_clean : clean (demands ls g ++ q) ≡ true → clean q ≡ true
  unfolding clean
  demanded_clean e =
      let (_, e₀) = and_both (every flagged g (cells ls g)) _ e in
      let (_, e₁) = and_both (every counted g (cells ls g)) _ e₀ in
      (clean_both (matched ls g) q e₁).1

  pub demanded_long : length (bytes (demands ls g ++ q)) ≡ length (bytes q)
  unfolding bytes
  demanded_long = ap length (after_demands ls g q)

-- ---- rows

pub flat_most : (l : Layout) (g : Columns) → length (bytes (flat_acts l g)) ≤ most l
flat_most l g = omega (arith, demanded_long (l ∷ []) g (writes l g), writes_most l g)

-- rows whose actions make at most k bytes each
pub rows_most : (f : ℕ → List Act) (k : ℕ) → ((i : ℕ) → clean (f i) ≡ true → length (bytes (f i)) ≤ k) → (i n : ℕ) → clean (rows f i n) ≡ true → length (bytes (rows f i n)) ≤ n * k
unfolding rows each flatten bytes
rows_most f k h i zero e = omega arith
rows_most f k h i (suc n) e =
    let (a, b) = clean_both (f i) (rows f (i + 1) n) e in
    omega (arith, both_long (f i) (rows f (i + 1) n), h i a, rows_most f k h (i + 1) n b, suc-mul n k)

-- a row that ends with a payload: its head, the byte with the length, and at most 255 bytes
pub bearing_most : (b : Bearing) (store : List ℕ) (g : Columns) → clean (bearing_acts b store g) ≡ true → length (bytes (bearing_acts b store g)) ≤ most b.head + 256
unfolding clean bytes
bearing_most b store g c =
    let w = b.head in
    let l = borne_bytes b store g in
    let run = byte (field 8 (g b.size) ∷ []) ∷ copy l ∷ [] in
    let (r, e₀) = and_both (leb (g b.offset + g b.size) (length store)) _ c in
    let (_, e₁) = clean_both (writes w g) run (demanded_clean (w ∷ []) g (writes w g ++ run) e₀) in
    let (f, _) = and_both (fit (field 8 (g b.size) ∷ [])) _ e₁ in
    omega (
      arith,
      (fits_cons 8 (g b.size) [] f).0,
      demanded_long (w ∷ []) g (writes w g ++ run),
      both_long (writes w g) run,
      writes_most w g,
      ap length (append-nil l) ∙ slice_long (g b.offset) (g b.size) store (leb-true _ _ r),
    )
