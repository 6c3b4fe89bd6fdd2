-- The actions of a preset: its demands and three bytes, and its conditions.
use Rattle.std.specs.Prelude.{Err, Some, None}
use Prim.Native.Nat.{ℕ, ◌+◌, ◌-◌, ◌*◌, ◌/◌, ◌<◌, ◌≤◌, ◌^◌}
use mathlib.Core.Path.{◌≡◌, refl, sym, ap, ◌∙◌}
use mathlib.Core.List.{List, [], ◌∷◌, ◌++◌, map, flatten}
use mathlib.Core.Bool.{Bool, true, false, ◌&&◌, and-true, and-false}
use native.Mathlib.Omega.{arith}
use native.Mathlib.Nat.{add-zero, le-div_iff_mul-le}
use lib.ListN.{length}
use lib.Dec.{leb, ltb}
use borrow.Author.Tests.{leb-true, ltb-true}
use Rattle.wire.specs.Bits.{Field, field, fit, total}
use Rattle.wire.specs.Act.{Act, demand, byte, rows}
use Rattle.wire.specs.Pen.{Checked, Quick, Ready, clean, bytes}
use Rattle.wire.specs.Layout.{num, reserved, Columns, at, field_of, writes, shown, cells, matches, matched, every, has, family_acts, broken_acts}
use Rattle.wire.specs.Spell.{PlainRows, PlainRun, fields_of, fit_all}
use Rattle.wire.specs.declared.pen.Fault.TheVariants as F
use Rattle.wire.proofs.Fields.{less_one_fits}
use Rattle.wire.proofs.Writing.Acts.{and_both}
use Rattle.wire.proofs.Writing.Plain.{clean_all}
use Rattle.wire.proofs.Writing.Passes.{nothing, Filling}
use Rattle.wire.proofs.Layouts.Cells.{all, distinct, free, eights, proper}
use Rattle.wire.proofs.Layouts.Forms.{sure, below}
use Rattle.wire.proofs.Layouts.Rowed.{nest_test, weight}
use Rattle.wire.proofs.Layouts.Families.{Front, front_acts, front_passed, row_is_plain, kids_passed, kids_odd, broken_stopped, broken_checked, broken_quick, broken_odd, broken_odd_kid, broken_ready, broken_filling}
use Rattle.wire.specs.declared.pen.Stopped.{Stopped}
use Rattle.wire.specs.Pen.{Pen, At}
use Rattle.conditions.specs.Layout.{condition}
use Rattle.conditions.specs.Write.{row_acts}
use Rattle.presets.specs.Layout.{preset}
use Rattle.presets.specs.Rows.{preset_cols, preset_of, head_cells}
use Rattle.presets.specs.declared.rows.GroupPreset.{GroupPreset}
use Rattle.presets.specs.Write.{head_fields, preset_acts}

-- ---- a preset

pub preset_passes : nest_test preset ≡ true
unfolding nest_test weight below proper all has distinct free eights total sure flatten
preset_passes = refl

abbrev pub plain_acts : ℕ → (ℕ → List Act) → Columns → List Act
plain_acts room kid g =
    demand F.Range (leb (g 5 + g 6) room) ∷ demand F.Field true ∷ demand F.Empty (leb 1 (g 6)) ∷ (map byte (fields_of g head_cells) ++ (rows kid (g 5) (g 6) ++ []))

pub preset_acts_lem : (room : ℕ) (kid : ℕ → List Act) (g : Columns) → broken_acts preset room kid g ≡ plain_acts room kid g
unfolding writes shown cells matches matched every flatten
preset_acts_lem room kid g = rw (and-true (leb 1 (g 6)))

-- what stands before its conditions
pub front_acts_lem : (room : ℕ) (g : Columns)
    → front_acts preset room g ≡ demand F.Range (leb (g 5 + g 6) room) ∷ demand F.Field true ∷ demand F.Empty (leb 1 (g 6)) ∷ map byte (fields_of g head_cells)
unfolding writes shown cells matches matched every flatten
front_acts_lem room g = rw (and-true (leb 1 (g 6)))

-- a row of the table
pub row_acts_lem : (t u : List ℕ) (i : ℕ) → preset_acts (preset_of t (i * 7)) u ≡ family_acts preset 13 condition t u i
row_acts_lem t u i = preset_acts_lem _ _ (preset_cols (preset_of t (i * 7))) ∙ same ∙ sym (preset_acts_lem _ _ (at 7 t i))
  where
    same : plain_acts (length u / 13) (row_acts u) (preset_cols (preset_of t (i * 7))) ≡ plain_acts (length u / 13) (row_acts u) (at 7 t i)
    same = rw add-zero

-- ---- its conditions stand in their table, and are at most 16 if the third byte fits

in_rows : (k l : ℕ) → k ≤ l / 13 → k * 13 ≤ l
in_rows k l h = let z : 0 < 13 = omega arith in (le-div_iff_mul-le {y = l} z).0 h

third_fits : (a b c : List Field) → fit_all (a ∷ b ∷ c ∷ []) ≡ true → fit c ≡ true
unfolding fit_all
third_fits a b c e = (and_both (fit c) true (and_both (fit b) (fit c && true) (and_both (fit a) (fit b && (fit c && true)) e).1).1).0

most_16 : (g : Columns) → fit_all (fields_of g head_cells) ≡ true → g 6 ≤ 16
unfolding fit
most_16 g e =
    let f = third_fits (map (field_of g) (reserved 3 0 ∷ num 5 1 ∷ [])) (map (field_of g) (reserved 3 2 ∷ num 5 3 ∷ [])) (field 4 (g 4) ∷ field 4 (g 6 - 1) ∷ []) e in
    let (_, l) = and_both (ltb (g 4) (2 ^ 4)) (ltb (g 6 - 1) (2 ^ 4) && true) f in
    let (m, _) = and_both (ltb (g 6 - 1) (2 ^ 4)) true l in
    omega (arith, ltb-true (g 6 - 1) (2 ^ 4) m)

-- the quick test of the three bytes: four columns, then the count and the reserved bits before it
pub front_fits : (p : GroupPreset) {x y : Bool} → x ≡ fit (field 3 p.reserved_id ∷ field 5 p.preset_id.0 ∷ field 3 p.reserved_kind ∷ field 5 p.preset_kind ∷ [])
    → y ≡ ltb p.reserved_conditions (2 ^ 4) → x && ((leb 1 p.conditions.count && leb p.conditions.count 16) && y) ≡ leb 1 p.conditions.count && fit_all (head_fields p)
unfolding fit fit_all
front_fits p e f =
    (λ i. e i && ((leb 1 p.conditions.count && less_one_fits p.conditions.count 4 i) && f i))
    ∙ go (ltb p.reserved_id (2 ^ 3)) (ltb p.preset_id.0 (2 ^ 5)) (ltb p.reserved_kind (2 ^ 3)) (ltb p.preset_kind (2 ^ 5)) (leb 1 p.conditions.count)
    (ltb (p.conditions.count - 1) (2 ^ 4)) (ltb p.reserved_conditions (2 ^ 4))
  where
    go : (a b c d n k r : Bool) → (a && (b && (c && (d && true)))) && ((n && k) && r) ≡ n && ((a && (b && true)) && ((c && (d && true)) && ((r && (k && true)) && true)))
    go a b c d false k r = and-false (a && (b && (c && (d && true))))
    go true true true true true true true = refl
    go true true true true true true false = refl
    go true true true true true false true = refl
    go true true true true true false false = refl
    go true true true false true k r = refl
    go true true false d true k r = refl
    go true false c d true k r = refl
    go false b c d true k r = refl

pub record Few (g : Columns) (u : List ℕ) : Type 0 where
  pub inside : (g 5 + g 6) * 13 ≤ length u
  pub few : g 6 ≤ 16

module _ (u : List ℕ) (g : Columns) where
  abbrev room : ℕ
  room = length u / 13

  -- ---- the check pass

  pub front_few : Front preset room (row_acts u) g → Few g u
  unfolding writes
  front_few f = record { inside = in_rows (g 5 + g 6) (length u) f.inside; few = most_16 g (sym (clean_all (fields_of g head_cells)) ∙ f.fits) }

  pub preset_stopped : {n : ℕ} {x : Stopped} → Checked (front_acts preset room g) 3 (At n) (Err x) → Checked (broken_acts preset room (row_acts u) g) 99 (At n) (Err x)
  preset_stopped w = broken_stopped preset room (row_acts u) g w 99 (omega arith) refl

  module _ {n m : ℕ} (w : Checked (front_acts preset room g) 3 (At n) (At m)) where
    pub preset_passed : Few g u
    preset_passed = front_few (front_passed preset room (row_acts u) g w refl)

    pub preset_near : m ≤ n + 3
    preset_near = w.near

    pub preset_checked : {r : Pen} → Checked (rows (row_acts u) (g 5) (g 6)) (6 * g 6) (At m) r → Checked (broken_acts preset room (row_acts u) g) 99 (At n) r
    unfolding writes
    preset_checked {r} x = broken_checked preset room (row_acts u) g w 99 x (nothing 0 r) (omega (arith, preset_passed.few))

  -- ---- the quick test

  abbrev pub test : Bool
  test = leb (g 5 + g 6) room && (leb 1 (g 6) && fit_all (fields_of g head_cells))

  plain_row : row_is_plain preset room (row_acts u) g ≡ test
  unfolding writes shown cells every flatten clean
  plain_row = λ i. leb (g 5 + g 6) room && (and-true (leb 1 (g 6)) i && (and-true (clean (map byte (fields_of g head_cells))) ∙ clean_all (fields_of g head_cells)) i)

  pub test_few : test ≡ true → Few g u
  test_few e =
      let (r, e₁) = and_both (leb (g 5 + g 6) room) _ e in
      let (_, f) = and_both (leb 1 (g 6)) (fit_all (fields_of g head_cells)) e₁ in
      record { inside = in_rows (g 5 + g 6) (length u) (leb-true _ _ r); few = most_16 g f }

  test_odd : test ≡ false → Quick (broken_acts preset room (row_acts u) g) 99 0
  test_odd e = broken_odd preset room (row_acts u) g 99 (plain_row ∙ e)

  pub outside_odd : leb (g 5 + g 6) room ≡ false → Quick (broken_acts preset room (row_acts u) g) 99 0
  outside_odd e = test_odd (ap (λ (b : Bool). b && (leb 1 (g 6) && fit_all (fields_of g head_cells))) e)

  pub front_odd : leb 1 (g 6) && fit_all (fields_of g head_cells) ≡ false → Quick (broken_acts preset room (row_acts u) g) 99 0
  front_odd e = test_odd (ap (λ (b : Bool). leb (g 5 + g 6) room && b) e ∙ and-false (leb (g 5 + g 6) room))

  module _ {i long : ℕ} (v : PlainRows (λ j. row_acts u (g 5 + j)) 6 (g 6) i long) where
    pub kids_plain : test ≡ true → g 6 ≤ i → Quick (broken_acts preset room (row_acts u) g) 99 (3 + long)
    unfolding writes bytes
    kids_plain e h =
        let (c, l) = kids_passed (row_acts u) (g 5) (g 6) v h in
        let f = (test_few e).few in
        broken_quick preset room (row_acts u) g 99 preset_passes (plain_row ∙ e) (unfold matches matched clean in refl) c (omega (arith, l)) (omega arith)
        (omega (arith, v.few, v.within, f))

    pub kid_odd : i < g 6 → Quick (broken_acts preset room (row_acts u) g) 99 0
    kid_odd h = broken_odd_kid preset room (row_acts u) g 99 (kids_odd (row_acts u) (g 5) (g 6) v h)

  -- the conditions, by one number
  pub run_plain : {long : ℕ} → PlainRun (λ j. row_acts u (g 5 + j)) 6 (g 6) (Some long) → test ≡ true → Quick (broken_acts preset room (row_acts u) g) 99 (3 + long)
  run_plain v e = kids_plain v e (omega arith)

  pub run_odd : PlainRun (λ j. row_acts u (g 5 + j)) 6 (g 6) None → Quick (broken_acts preset room (row_acts u) g) 99 0
  run_odd v = let (i, n, h, w) = v in kid_odd w h

  -- ---- the fill pass

  module _ {n : ℕ} {l : List ℕ} (w : Ready (broken_acts preset room (row_acts u) g) n l) where
    pub ready_few : Few g u
    ready_few = front_few (broken_ready preset room (row_acts u) g w)

    pub ready_counted : 1 ≤ g 6
    unfolding shown cells every flatten
    ready_counted = leb-true 1 (g 6) (and_both (leb 1 (g 6)) true (broken_ready preset room (row_acts u) g w).counts).0

    pub filling : Filling (broken_acts preset room (row_acts u) g) (map byte (fields_of g head_cells) ++ (rows (row_acts u) (g 5) (g 6) ++ [])) n l n l
    unfolding writes
    filling = broken_filling preset room (row_acts u) g w
