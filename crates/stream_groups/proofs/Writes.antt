-- The actions of a group part by part, and what its two passes do with them.
use Prim.Native.Nat.{ℕ, zero, suc, ◌+◌, ◌*◌, ◌≤◌, ◌<◌}
use mathlib.Core.Path.{◌≡◌, refl, sym, ap, ◌∙◌}
use mathlib.Core.List.{List, [], ◌∷◌, ◌++◌, map, flatten}
use mathlib.Core.Bool.{Bool, true, false, ◌&&◌, and-true}
use native.Mathlib.Omega.{arith}
use native.Mathlib.Nat.{add-zero}
use lib.ListN.{length, get_or}
use lib.Dec.{eqb}
use borrow.Author.Tests.{leb-true, eqb-true}
use Rattle.wire.specs.Lists.{each}
use Rattle.wire.specs.Bits.{field, is_flag, fit, total}
use Rattle.wire.specs.Act.{Act, demand, byte, when, pick}
use Rattle.wire.specs.Pen.{Quick, clean, bytes}
use Rattle.wire.specs.Layout.{Columns, at, field_of, flat_acts, writes, shown, cells, matches, matched, every, flagged, counted, has}
use Rattle.wire.specs.declared.pen.Fault.TheVariants as F
use Rattle.wire.proofs.Writing.Acts.{and_both, both_and}
use Rattle.wire.proofs.Layouts.Cells.{all, distinct, free, eights, proper, suits, fit_flags}
use Rattle.wire.proofs.Fields.{fits_cons, cons_fits}
use Rattle.wire.proofs.Layouts.Forms.{form_all, form_proper, below}
use Rattle.wire.proofs.Writing.Passes.{quick_clean, quick_odd}
use Rattle.wire.proofs.Writing.Plain.{no_quick}
use Rattle.wire.proofs.Layouts.Rowed.{flat_test, weight}
use Rattle.stream_groups.specs.Layout.{group}
use Rattle.stream_groups.specs.Rows.{group_cols, group_of, group_cells, location_cells}
use Rattle.stream_groups.specs.Write.{flags_of, placed_once, group_acts, row_acts}

-- the layout passes its one test
pub group_passes : flat_test 5 group ≡ true
unfolding flat_test weight form_proper form_all below proper all has distinct free eights suits each total flatten group
group_passes = refl

-- ---- a group

abbrev pub location_acts : Columns → List Act
location_acts g = when (eqb (g 2) 1) (byte (map (field_of g) location_cells) ∷ []) ++ []

abbrev pub plain_acts : Columns → List Act
plain_acts g = demand F.Field (flags_of g) ∷ demand F.Empty true ∷ demand F.Auxiliary (placed_once g) ∷ byte (map (field_of g) group_cells) ∷ location_acts g

pub group_acts_lem : (g : Columns) → flat_acts group g ≡ plain_acts g
unfolding group writes shown cells matches matched every flatten
group_acts_lem g =
    let x : Bool = eqb (g 2) 1 in
    λ i. demand F.Field (is_flag (g 1) && (is_flag (g 2) && flags x i)) ∷ demand F.Empty (counts x i) ∷ demand F.Auxiliary (placed_once g)
    ∷ (none x i ++ (byte (map (field_of g) group_cells) ∷ location_acts g))
  where
    flags : (x : Bool) → every flagged g (pick x location_cells [] ++ []) ≡ pick x (is_flag (g 3)) true
    flags true = and-true (is_flag (g 3))
    flags false = refl

    counts : (x : Bool) → every counted g (pick x location_cells [] ++ []) ≡ true
    counts true = refl
    counts false = refl

    none : (x : Bool) → when x [] ++ [] ≡ []
    none true = refl
    none false = refl

-- ---- the quick test: two shapes of a row are without a fault, and no other is

-- what no fault says of a row
sound : (g : Columns) → clean (flat_acts group g) ≡ true → (is_flag (g 1) ≡ true) × (g 2 ≡ get_or (1 ∷ 0 ∷ []) (g 1) 0) × (g 0 < 128)
unfolding clean
sound g c =
    let (f, q) = and_both (flags_of g) _ (sym (ap clean (group_acts_lem g)) ∙ c) in
    let (o, r) = and_both (placed_once g) _ q in
    let (b, _) = and_both (fit (map (field_of g) group_cells)) _ r in
    ((and_both (is_flag (g 1)) _ f).0, eqb-true (g 2) _ o, (fits_cons 7 (g 0) (field 1 (g 1) ∷ []) b).0)

pub odd_id : (g : Columns) → 128 ≤ g 0 → Quick (flat_acts group g) 2 0
odd_id g h = quick_odd (flat_acts group g) 2 λ c. omega (arith, h, (sound g c).2)

-- the actions, with isInMainStream and the location's flag on their own
abbrev shaped : Columns → ℕ → ℕ → List Act
shaped g m p =
    demand F.Field (is_flag m && (is_flag p && pick (eqb p 1) (is_flag (g 3)) true)) ∷ demand F.Empty true ∷ demand F.Auxiliary (eqb p (get_or (1 ∷ 0 ∷ []) m 0))
    ∷ byte (field 7 (g 0) ∷ field 1 m ∷ []) ∷ (when (eqb p 1) (byte (map (field_of g) location_cells) ∷ []) ++ [])

-- isInMainStream and the location's flag as one number
module _ (g : Columns) {v : ℕ} (e : v ≡ g 2 * 65536 + g 1) where
  pub plain_main : g 0 < 128 → v ≡ 1 → Quick (flat_acts group g) 2 1
  unfolding clean bytes fit
  plain_main l z =
      let m : g 1 ≡ 1 = omega (arith, e, z) in
      let p : g 2 ≡ 0 = omega (arith, e, z) in
      let s : flat_acts group g ≡ shaped g 1 0 = group_acts_lem g ∙ λ i. shaped g (m i) (p i) in
      let c = both_and (cons_fits 7 (g 0) (field 1 1 ∷ []) l refl) refl in
      quick_clean (flat_acts group g) 2 (ap clean s ∙ c) (ap (λ (q : List Act). length (bytes q)) s) (omega arith) (omega arith)

  module _ (h : g 1 < 65536) (z : v ≡ 65536) where
    located : flat_acts group g ≡ shaped g 0 1
    located =
        let m : g 1 ≡ 0 = omega (arith, e, h, z) in
        let p : g 2 ≡ 1 = omega (arith, e, h, z) in
        group_acts_lem g ∙ λ i. shaped g (m i) (p i)

    pub plain_located : g 0 < 128 → fit (map (field_of g) location_cells) ≡ true → Quick (flat_acts group g) 2 2
    unfolding clean bytes fit every
    plain_located l f =
        let t : is_flag (g 3) ≡ true = rw (and-true (is_flag (g 3))) at (fit_flags location_cells g f) in
        let c = both_and t (both_and (cons_fits 7 (g 0) (field 1 0 ∷ []) l refl) (both_and f refl)) in
        quick_clean (flat_acts group g) 2 (ap clean located ∙ c) (ap (λ (q : List Act). length (bytes q)) located) (omega arith) (omega arith)

    pub odd_location : fit (map (field_of g) location_cells) ≡ false → Quick (flat_acts group g) 2 0
    unfolding clean
    odd_location f = quick_odd (flat_acts group g) 2 λ c.
        let (_, r) = and_both (is_flag (g 3)) _ (sym (ap clean located) ∙ c) in
        let (_, l) = and_both (fit (field 7 (g 0) ∷ field 1 0 ∷ [])) _ r in
        no_quick f (and_both (fit (map (field_of g) location_cells)) true l).0

  pub odd_flags : (v ≡ 1 → ⊥) → (v ≡ 65536 → ⊥) → Quick (flat_acts group g) 2 0
  odd_flags a b = quick_odd (flat_acts group g) 2 λ c. let (f, o, _) = sound g c in go (g 1) e f o
    where
      go : (m : ℕ) → v ≡ g 2 * 65536 + m → is_flag m ≡ true → g 2 ≡ get_or (1 ∷ 0 ∷ []) m 0 → ⊥
      go zero e f o = b (omega (arith, e, o))
      go (suc zero) e f o = a (omega (arith, e, o))
      go (suc (suc m)) e f o = omega (arith, leb-true (suc (suc m)) 1 f)

-- ---- a row of the table

pub row_acts_lem : (t : List ℕ) (i : ℕ) → group_acts (group_of t (i * 5)) ≡ row_acts t i
row_acts_lem t i = group_acts_lem (group_cols (group_of t (i * 5))) ∙ same ∙ sym (group_acts_lem (at 5 t i))
  where
    same : plain_acts (group_cols (group_of t (i * 5))) ≡ plain_acts (at 5 t i)
    same = rw add-zero
