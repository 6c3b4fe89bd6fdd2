-- The actions of a group part by part, and what its two passes do with them.
use Prim.Native.Nat.{ℕ, ◌+◌, ◌*◌, ◌^◌, ◌≤◌}
use mathlib.Core.Path.{◌≡◌, refl, sym, ap, subst, ◌∙◌}
use mathlib.Core.List.{List, [], ◌∷◌, ◌++◌, map, flatten}
use mathlib.Core.Bool.{Bool, true, false, ◌&&◌, and-true, and-false}
use native.Mathlib.Omega.{arith}
use native.Mathlib.Nat.{add-zero}
use lib.ListN.{length}
use lib.Dec.{eqb, ltb}
use borrow.Author.Tests.{eq-eqb, ne_eqb, eqb-true}
use Rattle.wire.specs.Bits.{Field, field, is_flag, fit}
use Rattle.wire.specs.Act.{Act, demand, byte, when, pick}
use Rattle.wire.specs.Pen.{Quick, Ready, Filled, clean, bytes}
use Rattle.wire.specs.Layout.{Columns, at, flat_acts, writes, shown, cells, matched, every, counted, flagged}
use Rattle.wire.specs.Spell.{fields_of, fit_all, Spelt, FillsAll}
use Rattle.wire.specs.declared.pen.Fault.TheVariants as F
use Rattle.wire.proofs.Fields.{fit_append}
use Rattle.wire.proofs.Writing.Acts.{and_both, clean_append}
use Rattle.wire.proofs.Layouts.Cells.{fit_flags}
use Rattle.wire.proofs.Writing.Passes.{quick_clean, quick_odd}
use Rattle.wire.proofs.Layouts.Rowed.{loose, matches_loose}
use Rattle.wire.proofs.Writing.Plain.{clean_when, clean_all, fit_flat, absorb, no_quick}
use Rattle.scene_groups.specs.Layout.{group}
use Rattle.scene_groups.specs.declared.rows.PositionInteractivity.{PositionInteractivity}
use Rattle.scene_groups.specs.declared.rows.GainInteractivity.{GainInteractivity}
use Rattle.scene_groups.specs.Write.{position_fields, gain_fields, part_fits, plain_fits, id_fits, kind_fits, no_parts, group_acts, row_acts}
use Rattle.scene_groups.specs.Rows.{group_cols, group_of, id_cells, flag_cells, content_cells, position_cells, gain_cells, language_cells, part_cells}

-- ---- a group

abbrev pub flags_of : Columns → Bool
flags_of g = is_flag (g 3) && (is_flag (g 4) && (is_flag (g 7) && (is_flag (g 18) && is_flag (g 23))))

-- the parts, each with those after it
abbrev pub language_acts : Columns → List Act
language_acts g = when (eqb (g 23) 1) (map byte (fields_of g language_cells)) ++ []

abbrev pub gain_acts : Columns → List Act
gain_acts g = when (eqb (g 18) 1) (map byte (fields_of g gain_cells)) ++ language_acts g

abbrev pub part_acts : Columns → List Act
part_acts g = when (eqb (g 7) 1) (map byte (fields_of g position_cells)) ++ gain_acts g

-- the three bytes that are always there
abbrev head_bytes : Columns → List (List Field)
head_bytes g = fields_of g (id_cells ∷ flag_cells ∷ content_cells ∷ [])

abbrev pub plain_acts : Columns → List Act
plain_acts g = demand F.Field (flags_of g) ∷ demand F.Empty true ∷ (map byte (head_bytes g) ++ part_acts g)

-- none of them is a flag or a count
no_flags : (g : Columns) (x y z : Bool) → every flagged g (part_cells x y z) ≡ true
unfolding every flatten
no_flags g true true true = refl
no_flags g true true false = refl
no_flags g true false true = refl
no_flags g true false false = refl
no_flags g false true true = refl
no_flags g false true false = refl
no_flags g false false true = refl
no_flags g false false false = refl

no_counts : (g : Columns) (x y z : Bool) → every counted g (part_cells x y z) ≡ true
unfolding every flatten
no_counts g true true true = refl
no_counts g true true false = refl
no_counts g true false true = refl
no_counts g true false false = refl
no_counts g false true true = refl
no_counts g false true false = refl
no_counts g false false true = refl
no_counts g false false false = refl

pub group_acts_lem : (g : Columns) → flat_acts group g ≡ plain_acts g
unfolding group writes shown cells matched every flatten
group_acts_lem g =
    let f = ap (λ (b : Bool). is_flag (g 23) && b) (no_flags g (eqb (g 7) 1) (eqb (g 18) 1) (eqb (g 23) 1)) ∙ and-true (is_flag (g 23)) in
    let c = no_counts g (eqb (g 7) 1) (eqb (g 18) 1) (eqb (g 23) 1) in
    λ i. demand F.Field (is_flag (g 3) && (is_flag (g 4) && (is_flag (g 7) && (is_flag (g 18) && f i)))) ∷ demand F.Empty (c i)
    ∷ (matches_loose group g (unfold loose in refl) i ++ (map byte (head_bytes g) ++ part_acts g))

-- ---- the fill pass of a part that is there, and of one that is not

ready : (fss : List (List Field)) {v n : ℕ} {l : List ℕ} → v ≡ 1 → Ready (when (eqb v 1) (map byte fss)) n l → Ready (map byte fss) n l
ready fss {v} {n} {l} t r = subst (λ (x : Bool). Ready (when x (map byte fss)) n l) (eq-eqb v 1 t) r

module _ {v : ℕ} {fss : List (List Field)} {n : ℕ} {l : List ℕ} where
  pub filled_there : {vs : List ℕ} {r : ℕ} {o : List ℕ} → v ≡ 1 → Spelt fss vs → Ready (when (eqb v 1) (map byte fss)) n l → FillsAll true vs n l r o
      → Filled (when (eqb v 1) (map byte fss)) n l r o
  filled_there {r = r} {o} t s q w = subst (λ (x : Bool). Filled (when x (map byte fss)) n l r o) (sym (eq-eqb v 1 t)) (w.of fss s (ready fss t q).sound)

pub filled_absent : {v n : ℕ} {l : List ℕ} (fss : List (List Field)) → (v ≡ 1 → ⊥) → Filled (when (eqb v 1) (map byte fss)) n l n l
unfolding bytes
filled_absent {v} {n} {l} fss t = subst (λ (x : Bool). Filled (when x (map byte fss)) n l n l) (sym (ne_eqb v 1 t)) (record { place = sym (add-zero n); holds = refl })

-- the bytes of a part
pub part_most : (v n : ℕ) {r : ℕ} → r ≡ pick (eqb v 1) n 0 → r ≤ n
part_most v n e = rw e (go (eqb v 1))
  where
    go : (x : Bool) → pick x n 0 ≤ n
    go true = omega arith
    go false = omega arith

parts_clean : (x y z : Bool) (a b c : List (List Field)) → clean (when x (map byte a) ++ (when y (map byte b) ++ (when z (map byte c) ++ [])))
    ≡ pick x (fit_all a) true && (pick y (fit_all b) true && pick z (fit_all c) true)
unfolding clean
parts_clean x y z a b c =
    let l = clean_append (when z (map byte c)) [] ∙ and-true (clean (when z (map byte c))) ∙ clean_when z c in
    let g = clean_append (when y (map byte b)) (when z (map byte c) ++ []) ∙ λ i. clean_when y b i && l i in
    clean_append (when x (map byte a)) _ ∙ λ i. clean_when x a i && g i

-- a flag is a field of one bit, so the bytes tell
flags_too : (g : Columns) → plain_fits g ≡ true → flags_of g ≡ true
unfolding every fit_all
flags_too g e =
    let (h, _) = and_both (fit_all (head_bytes g)) _ e in
    let (_, r) = and_both (fit _) _ h in
    let (f, _) = and_both (fit _) _ r in
    rw (and-true (is_flag (g 23))) at (fit_flags flag_cells g f)

group_clean : (g : Columns) → clean (flat_acts group g) ≡ plain_fits g
unfolding clean fit_all
group_clean g =
    let p = parts_clean (eqb (g 7) 1) (eqb (g 18) 1) (eqb (g 23) 1) (fields_of g position_cells) (fields_of g gain_cells) (fields_of g language_cells) in
    ap clean (group_acts_lem g)
    ∙ ap (λ (b : Bool). flags_of g && b) (clean_append (map byte (head_bytes g)) (part_acts g) ∙ λ i. clean_all (head_bytes g) i && p i)
    ∙ absorb (flags_of g) (plain_fits g) (flags_too g)

-- the bytes of a row
abbrev row_long : Columns → ℕ
row_long g = 3 + (pick (eqb (g 7) 1) 5 0 + (pick (eqb (g 18) 1) 2 0 + pick (eqb (g 23) 1) 3 0))

group_bytes : (g : Columns) → length (bytes (flat_acts group g)) ≡ row_long g
unfolding bytes
group_bytes g = ap (λ (l : List Act). length (bytes l)) (group_acts_lem g) ∙ go (eqb (g 7) 1) (eqb (g 18) 1) (eqb (g 23) 1)
  where
    go : (x y z : Bool)
        → length (bytes (map byte (head_bytes g) ++ (when x (map byte (fields_of g position_cells)) ++ (when y (map byte (fields_of g gain_cells)) ++ (when z (map byte (fields_of g language_cells)) ++ [])))))
        ≡ 3 + (pick x 5 0 + (pick y 2 0 + pick z 3 0))
    go true true true = refl
    go true true false = refl
    go true false true = refl
    go true false false = refl
    go false true true = refl
    go false true false = refl
    go false false true = refl
    go false false false = refl

pub plain_so : (g : Columns) {n : ℕ} → plain_fits g ≡ true → n ≡ row_long g → Quick (flat_acts group g) 13 n
plain_so g {n} e q =
    let m : n ≤ 13 = omega (arith, q, part_most (g 7) 5 refl, part_most (g 18) 2 refl, part_most (g 23) 3 refl) in
    quick_clean (flat_acts group g) 13 (group_clean g ∙ e) (group_bytes g ∙ sym q) (omega arith) m

pub odd_so : (g : Columns) → plain_fits g ≡ false → Quick (flat_acts group g) 13 0
odd_so g e = quick_odd (flat_acts group g) 13 (λ z. no_quick e (sym (group_clean g) ∙ z))

-- a row without parts is its three bytes
module _ (g : Columns) {b : Bool} (h : b ≡ no_parts g) (t : b ≡ true) where
  zeros : (g 7 ≡ 0) × (g 18 ≡ 0) × (g 23 ≡ 0)
  zeros =
      let (p, r) = and_both (eqb (g 7) 0) _ (sym h ∙ t) in
      let (q, l) = and_both (eqb (g 18) 0) (eqb (g 23) 0) r in
      (eqb-true (g 7) 0 p, eqb-true (g 18) 0 q, eqb-true (g 23) 0 l)

  bare_fits : plain_fits g ≡ fit_all (head_bytes g)
  bare_fits =
      let (p, q, l) = zeros in
      (λ i. fit_all (head_bytes g) && (part_fits (p i) (fields_of g position_cells) && (part_fits (q i) (fields_of g gain_cells) && part_fits (l i) (fields_of g language_cells))))
      ∙ and-true (fit_all (head_bytes g))

  pub bare_so : {r : Bool} → r ≡ fit_all (head_bytes g) → r ≡ true → Quick (flat_acts group g) 13 3
  bare_so e z =
      let (p, q, l) = zeros in
      plain_so g (bare_fits ∙ sym e ∙ z) (sym (λ i. 3 + (pick (eqb (p i) 1) 5 0 + (pick (eqb (q i) 1) 2 0 + pick (eqb (l i) 1) 3 0))))

  pub bare_odd : {r : Bool} → r ≡ fit_all (head_bytes g) → r ≡ false → Quick (flat_acts group g) 13 0
  bare_odd e z = odd_so g (bare_fits ∙ sym e ∙ z)

-- ---- a row of the table

pub row_acts_lem : (t : List ℕ) (i : ℕ) → group_acts (group_of t (i * 27)) ≡ row_acts t i
row_acts_lem t i = group_acts_lem (group_cols (group_of t (i * 27))) ∙ same ∙ sym (group_acts_lem (at 27 t i))
  where
    same : plain_acts (group_cols (group_of t (i * 27))) ≡ plain_acts (at 27 t i)
    same = rw add-zero

pub row_at : (t : List ℕ) (b i : ℕ) → b ≡ i * 27 → group_acts (group_of t b) ≡ row_acts t i
row_at t b i e = ap (λ (b : ℕ). group_acts (group_of t b)) e ∙ row_acts_lem t i

-- ---- a part, by the columns that stand side by side

pub position_fit : (p : PositionInteractivity) → fit (field 1 p.reserved_min_az ∷ field 7 p.min_az_offset ∷ field 1 p.reserved_max_az ∷ field 7 p.max_az_offset ∷ [])
    && (fit (field 3 p.reserved_min_el ∷ field 5 p.min_el_offset ∷ field 3 p.reserved_max_el ∷ field 5 p.max_el_offset ∷ []) && fit (field 4 p.min_dist_offset ∷ field 4 p.max_dist_offset ∷ []))
    ≡ fit_all (position_fields p)
unfolding flatten
position_fit p =
    let azimuths = field 1 p.reserved_min_az ∷ field 7 p.min_az_offset ∷ field 1 p.reserved_max_az ∷ field 7 p.max_az_offset ∷ [] in
    let elevations = field 3 p.reserved_min_el ∷ field 5 p.min_el_offset ∷ field 3 p.reserved_max_el ∷ field 5 p.max_el_offset ∷ [] in
    let distances = field 4 p.min_dist_offset ∷ field 4 p.max_dist_offset ∷ [] in
    ap (λ (b : Bool). fit azimuths && b) (sym (fit_append elevations distances)) ∙ sym (fit_append azimuths (elevations ++ distances)) ∙ fit_flat (position_fields p)

pub gain_fit : (g : GainInteractivity) → fit (field 2 g.reserved_min ∷ field 6 g.min_gain ∷ field 3 g.reserved_max ∷ field 5 g.max_gain ∷ []) ≡ fit_all (gain_fields g)
unfolding flatten
gain_fit g = fit_flat (gain_fields g)

-- ---- the three bytes, by the columns that stand side by side

pub head_fits_lem : (g : Columns) {x y z w : Bool} → x ≡ id_fits g → y ≡ kind_fits g → z ≡ ltb (g 18) (2 ^ 1) → w ≡ ltb (g 23) (2 ^ 1)
    → x && (y && (z && w)) ≡ fit_all (fields_of g (id_cells ∷ flag_cells ∷ content_cells ∷ []))
unfolding fit fit_all
head_fits_lem g d e f h =
    (λ i. d i && (e i && (f i && h i)))
    ∙ go (ltb (g 0) (2 ^ 1)) (ltb (g 1) (2 ^ 7)) (ltb (g 2) (2 ^ 3)) (ltb (g 3) (2 ^ 1)) (ltb (g 4) (2 ^ 1)) (ltb (g 5) (2 ^ 4)) (ltb (g 6) (2 ^ 4)) (ltb (g 7) (2 ^ 1)) (ltb (g 18) (2 ^ 1)) (ltb (g 23) (2 ^ 1))
  where
    go : (a b c d e f h p q r : Bool) → (a && (b && (c && (d && true)))) && ((e && (f && (h && (p && true)))) && (q && r))
        ≡ (a && (b && true)) && ((c && (d && (e && (p && (q && (r && true)))))) && ((f && (h && true)) && true))
    go false b c d e f h p q r = refl
    go true false c d e f h p q r = refl
    go true true false d e f h p q r = refl
    go true true true false e f h p q r = refl
    go true true true true false f h p q r = refl
    go true true true true true false h p q r = sym (and-false (p && (q && (r && true))))
    go true true true true true true false p q r = sym (and-false (p && (q && (r && true))))
    go true true true true true true true false q r = refl
    go true true true true true true true true false r = refl
    go true true true true true true true true true false = refl
    go true true true true true true true true true true = refl
