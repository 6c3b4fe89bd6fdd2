-- The actions of a condition part by part, and what its two passes do with them.
use Prim.Native.Nat.{ℕ, ◌+◌, ◌*◌, ◌^◌}
use mathlib.Core.Path.{◌≡◌, refl, sym, ap, subst, ◌∙◌}
use mathlib.Core.List.{List, [], ◌∷◌, ◌++◌, append-nil, map, flatten}
use mathlib.Core.Bool.{Bool, true, false, ◌&&◌, and-true}
use native.Mathlib.Omega.{arith}
use native.Mathlib.Nat.{add-zero}
use lib.ListN.{length}
use lib.Dec.{eqb, ltb}
use borrow.Author.Tests.{eq-eqb, ne_eqb, leb-true}
use Rattle.wire.specs.Bits.{Field, field, is_flag, fit}
use Rattle.wire.specs.Act.{Act, demand, byte, when, pick}
use Rattle.wire.specs.Pen.{Quick, Ready, Filled, clean, bytes}
use Rattle.wire.specs.Layout.{Columns, at, flat_acts, writes, shown, cells, matched, every, counted, flagged, field_of}
use Rattle.wire.specs.Spell.{Spells, Spelt, none, more, fields_of, fit_all, ReadyAll, FillsAll}
use Rattle.wire.specs.declared.pen.Fault.TheVariants as F
use Rattle.wire.proofs.Fields.{fit_more}
use Rattle.wire.proofs.Writing.Acts.{and_both, both_and, clean_append}
use Rattle.wire.proofs.Layouts.Cells.{fit_flags}
use Rattle.wire.proofs.Writing.Passes.{quick_clean, quick_odd, Filling, fill_start, fill_demand, fill_turn, fill_end}
use Rattle.wire.proofs.Layouts.Rowed.{loose, matches_loose}
use Rattle.wire.proofs.Writing.Plain.{clean_when, clean_all, absorb, no_quick, bit_size, filled_long, fill_part_lem, fit_flat}
use Rattle.conditions.specs.Layout.{condition}
use Rattle.conditions.specs.Write.{position_fields, flags_of, detail_acts, detail_fits, detail_long, condition_acts, cols_at, row_acts}
use Rattle.conditions.specs.declared.rows.PresetPosition.{PresetPosition}
use Rattle.conditions.specs.Rows.{condition_cols, condition_of, id_cells, flag_cells, gain_cells, position_cells}

-- ---- a condition

abbrev pub id_bytes : Columns → List (List Field)
id_bytes g = fields_of g (id_cells ∷ [])

abbrev pub plain_acts : Columns → List Act
plain_acts g = demand F.Field (flags_of g) ∷ demand F.Empty true ∷ (map byte (id_bytes g) ++ (when (eqb (g 1) 1) (detail_acts g) ++ []))

pub condition_acts_lem : (g : Columns) → flat_acts condition g ≡ plain_acts g
unfolding condition writes shown cells matched every flatten
condition_acts_lem g =
    λ i. demand F.Field (flags (eqb (g 1) 1) (eqb (g 5) 1) (eqb (g 7) 1) i) ∷ demand F.Empty (counts (eqb (g 1) 1) (eqb (g 5) 1) (eqb (g 7) 1) i)
    ∷ (matches_loose condition g (unfold loose in refl) i ++ (map byte (id_bytes g) ++ (when (eqb (g 1) 1) (detail_acts g) ++ [])))
  where
    flags : (x y z : Bool)
        → is_flag (g 1) && every flagged g (pick x (flag_cells ++ (pick y (flatten gain_cells) [] ++ (pick z (flatten position_cells) [] ++ []))) [] ++ []) ≡ is_flag (g 1) && pick x (is_flag (g 3) && (is_flag (g 5) && (is_flag (g 4) && is_flag (g 7)))) true
    flags true true true = rw (and-true (is_flag (g 7)))
    flags true true false = rw (and-true (is_flag (g 7)))
    flags true false true = rw (and-true (is_flag (g 7)))
    flags true false false = rw (and-true (is_flag (g 7)))
    flags false y z = refl

    counts : (x y z : Bool) → every counted g (pick x (flag_cells ++ (pick y (flatten gain_cells) [] ++ (pick z (flatten position_cells) [] ++ []))) [] ++ []) ≡ true
    counts true true true = refl
    counts true true false = refl
    counts true false true = refl
    counts true false false = refl
    counts false y z = refl

-- a detail that is there, and one that is not
pub when_there : (v : ℕ) (a : List Act) → v ≡ 1 → when (eqb v 1) a ++ [] ≡ a
when_there v a t = append-nil (when (eqb v 1) a) ∙ ap (λ (x : Bool). when x a) (eq-eqb v 1 t)

pub when_absent : (v : ℕ) (a : List Act) → (v ≡ 1 → ⊥) → when (eqb v 1) a ++ [] ≡ []
when_absent v a t = append-nil (when (eqb v 1) a) ∙ ap (λ (x : Bool). when x a) (ne_eqb v 1 t)

pub fill_there : {all : List Act} (a : List Act) {v n₀ n : ℕ} {l o : List ℕ} → v ≡ 1 → Filling all (when (eqb v 1) a ++ []) n₀ l n o → Filling all a n₀ l n o
fill_there {all} a {v} {n₀} {n} {l} {o} t w = subst (λ (q : List Act). Filling all q n₀ l n o) (when_there v a t) w

-- ---- the quick test

three_clean : (y z : Bool) (a b c : List (List Field))
    → clean (map byte a ++ (when y (map byte b) ++ (when z (map byte c) ++ []))) ≡ fit_all a && (pick y (fit_all b) true && pick z (fit_all c) true)
unfolding clean
three_clean y z a b c =
    clean_append (map byte a) (when y (map byte b) ++ (when z (map byte c) ++ []))
    ∙ (λ i. clean_all a i && (clean_append (when y (map byte b)) (when z (map byte c) ++ []) ∙ (λ i. clean_when y b i && (clean_append (when z (map byte c)) [] ∙ and-true (clean (when z (map byte c))) ∙ clean_when z c) i)) i)

abbrev plain_fits : Columns → Bool
plain_fits g = fit_all (id_bytes g) && pick (eqb (g 1) 1) (detail_fits g) true

-- a flag is a field of one bit, so the bytes tell
id_flag : (g : Columns) → fit_all (id_bytes g) ≡ true → is_flag (g 1) ≡ true
unfolding every fit_all
id_flag g e = let (f, _) = and_both (fit _) _ e in rw (and-true (is_flag (g 1))) at (fit_flags id_cells g f)

detail_flags : (g : Columns) → detail_fits g ≡ true → is_flag (g 3) && (is_flag (g 5) && (is_flag (g 4) && is_flag (g 7))) ≡ true
unfolding every fit_all
detail_flags g e =
    let (h, _) = and_both (fit_all (fields_of g (flag_cells ∷ []))) _ e in
    let (f, _) = and_both (fit _) _ h in
    rw (and-true (is_flag (g 7))) at (fit_flags flag_cells g f)

flags_too : (g : Columns) → plain_fits g ≡ true → flags_of g ≡ true
flags_too g e =
    let (h, r) = and_both (fit_all (id_bytes g)) _ e in
    both_and (id_flag g h) (go (eqb (g 1) 1) r)
  where
    go : (x : Bool) → pick x (detail_fits g) true ≡ true → pick x (is_flag (g 3) && (is_flag (g 5) && (is_flag (g 4) && is_flag (g 7)))) true ≡ true
    go true e = detail_flags g e
    go false e = refl

condition_clean : (g : Columns) → clean (flat_acts condition g) ≡ plain_fits g
unfolding clean
condition_clean g =
    ap clean (condition_acts_lem g)
    ∙ ap (λ (b : Bool). flags_of g && b)
    (clean_append (map byte (id_bytes g)) (when (eqb (g 1) 1) (detail_acts g) ++ []) ∙ λ i. clean_all (id_bytes g) i && (ap clean (append-nil (when (eqb (g 1) 1) (detail_acts g))) ∙ go (eqb (g 1) 1)) i)
    ∙ absorb (flags_of g) (plain_fits g) (flags_too g)
  where
    go : (x : Bool) → clean (when x (detail_acts g)) ≡ pick x (detail_fits g) true
    go true = three_clean (eqb (g 5) 1) (eqb (g 7) 1) (fields_of g (flag_cells ∷ [])) (fields_of g gain_cells) (fields_of g position_cells)
    go false = refl

condition_bytes : (g : Columns) → length (bytes (flat_acts condition g)) ≡ 1 + pick (eqb (g 1) 1) (1 + (pick (eqb (g 5) 1) 1 0 + pick (eqb (g 7) 1) 3 0)) 0
unfolding bytes
condition_bytes g = ap (λ (l : List Act). length (bytes l)) (condition_acts_lem g) ∙ go (eqb (g 1) 1) (eqb (g 5) 1) (eqb (g 7) 1)
  where
    go : (x y z : Bool)
        → length (bytes (map byte (id_bytes g) ++ (when x (map byte (fields_of g (flag_cells ∷ [])) ++ (when y (map byte (fields_of g gain_cells)) ++ (when z (map byte (fields_of g position_cells)) ++ []))) ++ []))) ≡ 1 + pick x (1 + (pick y 1 0 + pick z 3 0)) 0
    go true true true = refl
    go true true false = refl
    go true false true = refl
    go true false false = refl
    go false y z = refl

module _ (g : Columns) where
  -- the first byte does not fit
  pub odd_id : fit_all (id_bytes g) ≡ false → Quick (flat_acts condition g) 6 0
  odd_id e = quick_odd (flat_acts condition g) 6 (λ z. no_quick e (and_both (fit_all (id_bytes g)) _ (sym (condition_clean g) ∙ z)).0)

  module _ (h : fit_all (id_bytes g) ≡ true) where
    pub no_detail_lem : (g 1 ≡ 1 → ⊥) → Quick (flat_acts condition g) 6 1
    no_detail_lem t =
        let x = ne_eqb (g 1) 1 t in
        quick_clean (flat_acts condition g) 6 (condition_clean g ∙ rw (h, x)) (condition_bytes g ∙ rw x) (omega arith) (omega arith)

    pub with_detail : g 1 ≡ 1 → {r : ℕ} → r ≡ detail_long g → Quick (flat_acts condition g) 6 r
    with_detail t e = go (detail_fits g) refl e
      where
        x : eqb (g 1) 1 ≡ true
        x = eq-eqb (g 1) 1 t

        go : (b : Bool) → detail_fits g ≡ b → {r : ℕ} → r ≡ pick b (2 + (g 5 + g 7 * 3)) 0 → Quick (flat_acts condition g) 6 r
        go true d e =
            let f = detail_flags g d in
            let (f₅, f₆) = and_both (is_flag (g 5)) _ (and_both (is_flag (g 3)) _ f).1 in
            let f₇ = (and_both (is_flag (g 4)) _ f₆).1 in
            let l : length (bytes (flat_acts condition g)) ≡ 2 + (g 5 + g 7 * 3) = condition_bytes g ∙ rw (x, bit_size (g 5) 1 f₅, bit_size (g 7) 3 f₇) (omega arith) in
            quick_clean (flat_acts condition g) 6 (condition_clean g ∙ rw (h, x) d) (l ∙ sym e) (omega (arith, e)) (omega (arith, e, leb-true (g 5) 1 f₅, leb-true (g 7) 1 f₇))
        go false d e = rw e (quick_odd (flat_acts condition g) 6 (λ z. no_quick d (go' (eqb (g 1) 1) x (and_both (fit_all (id_bytes g)) _ (sym (condition_clean g) ∙ z)).1)))
          where
            go' : (y : Bool) → y ≡ true → pick y (detail_fits g) true ≡ true → detail_fits g ≡ true
            go' true q e = e
            go' false q e = absurd (let z : ◌≡◌ {A = ℕ} 0 1 = cc q in omega arith)

-- what the tests of its parts say of a detail
pub long_so : (g : Columns) {x y z : Bool} → fit_all (fields_of g (flag_cells ∷ [])) ≡ x → pick (eqb (g 5) 1) (fit_all (fields_of g gain_cells)) true ≡ y
    → pick (eqb (g 7) 1) (fit_all (fields_of g position_cells)) true ≡ z → pick (x && (y && z)) (2 + (g 5 + g 7 * 3)) 0 ≡ detail_long g
long_so g e₁ e₂ e₃ = sym (λ i. pick (e₁ i && (e₂ i && e₃ i)) (2 + (g 5 + g 7 * 3)) 0)

-- the byte as a number tells
-- ---- fields that fit, by the columns that stand side by side

pub fit_line : (fs : List Field) → fit fs ≡ fit_all (fs ∷ [])
unfolding fit_all
fit_line fs = sym (and-true (fit fs))

-- the flags of a detail: the third and the fourth stand the other way round in their byte
pub flags_fit_lem : (r g p h q : ℕ) {x y : Bool} → x ≡ fit (field 4 r ∷ field 1 g ∷ field 1 p ∷ field 1 h ∷ []) → y ≡ ltb q (2 ^ 1)
    → x && y ≡ fit (field 4 r ∷ field 1 g ∷ field 1 h ∷ field 1 p ∷ field 1 q ∷ [])
unfolding fit
flags_fit_lem r g p h q e f = (λ i. e i && f i) ∙ go (ltb r (2 ^ 4)) (ltb g (2 ^ 1)) (ltb p (2 ^ 1)) (ltb h (2 ^ 1)) (ltb q (2 ^ 1))
  where
    go : (a b c d e : Bool) → (a && (b && (c && (d && true)))) && e ≡ a && (b && (d && (c && (e && true))))
    go true true true true e = sym (and-true e)
    go true true true false e = refl
    go true true false true e = refl
    go true true false false e = refl
    go true false c d e = refl
    go false b c d e = refl

pub position_fit : (p : PresetPosition) {x y : Bool}
    → x ≡ fit (field 8 p.az_offset ∷ field 2 p.reserved_el ∷ field 6 p.el_offset ∷ field 4 p.reserved_dist ∷ []) → y ≡ ltb p.dist_factor (2 ^ 4)
    → x && y ≡ fit_all (position_fields p)
unfolding flatten
position_fit p e f =
    (λ i. e i && f i) ∙ sym (fit_more (field 8 p.az_offset ∷ field 2 p.reserved_el ∷ field 6 p.el_offset ∷ field 4 p.reserved_dist ∷ []) 4 p.dist_factor)
    ∙ fit_flat (position_fields p)

-- ---- a row of the table

pub row_acts_lem : (t : List ℕ) (i : ℕ) → condition_acts (condition_of t (i * 13)) ≡ row_acts t i
row_acts_lem t i = condition_acts_lem (condition_cols (condition_of t (i * 13))) ∙ same ∙ sym (condition_acts_lem (at 13 t i))
  where
    same : plain_acts (condition_cols (condition_of t (i * 13))) ≡ plain_acts (at 13 t i)
    same = rw add-zero

pub row_at : (t : List ℕ) (b i : ℕ) → b ≡ i * 13 → flat_acts condition (cols_at t b) ≡ row_acts t i
row_at t b i e = ap (λ (b : ℕ). flat_acts condition (cols_at t b)) e ∙ row_acts_lem t i

-- ---- filling a part whose flag was tested, a detail and a row

module _ (fss : List (List Field)) {there : Bool} {n : ℕ} {l : List ℕ} (w : Ready (when there (map byte fss)) n l) where
  module _ {vs : List ℕ} (s : Spelt fss vs) (t : there ≡ true) where
    sure : Ready (map byte fss) n l
    sure = subst (λ (x : Bool). Ready (when x (map byte fss)) n l) t w

    pub part_ready : ReadyAll true vs n l
    part_ready = record { fss = fss; spelt = s; ready = sure }

    pub part_filled : {r : ℕ} {o : List ℕ} → FillsAll true vs n l r o → Filled (when there (map byte fss)) n l r o
    part_filled {r} {o} f = subst (λ (x : Bool). Filled (when x (map byte fss)) n l r o) (sym t) (f.of fss s sure.sound)

  pub part_absent : there ≡ false → Filled (when there (map byte fss)) n l n l
  part_absent t = fill_end (fill_start w) (ap (λ (x : Bool). when x (map byte fss)) t)

abbrev gain_acts : Columns → List Act
gain_acts g = when (eqb (g 5) 1) (map byte (fields_of g gain_cells))

abbrev position_acts : Columns → List Act
position_acts g = when (eqb (g 7) 1) (map byte (fields_of g position_cells))

pub row_begun : (g : Columns) {n₀ : ℕ} {l : List ℕ} → Ready (flat_acts condition g) n₀ l
    → Filling (plain_acts g) (map byte (id_bytes g) ++ (when (eqb (g 1) 1) (detail_acts g) ++ [])) n₀ l n₀ l
row_begun g w = fill_demand (fill_demand (fill_start (rw (condition_acts_lem g) at w)))

module _ (g : Columns) {n₀ n : ℕ} {l o : List ℕ} where
  pub flags_filled : {v : ℕ} → Spells (map (field_of g) flag_cells) v → Ready (detail_acts g) n₀ l → FillsAll true (v ∷ []) n₀ l n o
      → Filling (detail_acts g) (gain_acts g ++ (position_acts g ++ [])) n₀ l n o
  flags_filled s w f = fill_part_lem _ (more s none) (fill_start w) f

  pub gain_filled : {r : ℕ} {o' : List ℕ} → Filling (detail_acts g) (gain_acts g ++ (position_acts g ++ [])) n₀ l n o → Filled (gain_acts g) n o r o'
      → Filling (detail_acts g) (position_acts g ++ []) n₀ l r o'
  gain_filled w f = fill_turn w refl (filled_long f) f

  pub position_filled : {r : ℕ} {o' : List ℕ} → Filling (detail_acts g) (position_acts g ++ []) n₀ l n o → Filled (position_acts g) n o r o' → Filled (detail_acts g) n₀ l r o'
  position_filled w f = fill_end (fill_turn w refl (filled_long f) f) refl

  pub id_filled : {v : ℕ} → Spells (map (field_of g) id_cells) v → Ready (flat_acts condition g) n₀ l → FillsAll true (v ∷ []) n₀ l n o
      → Filling (plain_acts g) (when (eqb (g 1) 1) (detail_acts g) ++ []) n₀ l n o
  id_filled s w f = fill_part_lem _ (more s none) (row_begun g w) f
