-- The actions of a target loudness part by part, whatever the other columns of its row are, and what both passes do with them.
use Prim.Native.Nat.{ℕ, ◌+◌, ◌≤◌}
use mathlib.Core.Path.{◌≡◌, refl, sym, subst, ◌∙◌}
use mathlib.Core.List.{List, [], ◌++◌, map, flatten}
use mathlib.Core.Bool.{Bool, true, false, ◌&&◌, and-true}
use native.Mathlib.Omega.{arith}
use lib.ListN.{length}
use lib.Dec.{eqb}
use borrow.Author.Tests.{eq-eqb, ne_eqb, leb-true}
use Rattle.wire.specs.Bits.{is_flag, fit}
use Rattle.wire.specs.Act.{Act, byte, when, pick}
use Rattle.wire.specs.Pen.{Checked, Ready, Filled, clean, bytes, Pen}
use Rattle.wire.specs.Layout.{Cell, end, optional, ◌▹◌, Columns, writes, shown, every, flagged, counted}
use Rattle.wire.specs.Spell.{fields_of, fit_all, Spelt, ReadyAll, FillsAll}
use Rattle.wire.proofs.Writing.Acts.{and_both, clean_append}
use Rattle.wire.proofs.Layouts.Cells.{fit_flags}
use Rattle.wire.proofs.Writing.Passes.{then, nothing, Filling, fill_start, fill_last, fill_none}
use Rattle.wire.proofs.Writing.Plain.{clean_all, clean_when, bit_size, ready_part, fill_part_lem}
use Rattle.target_loudness.specs.Layout.{target}
use Rattle.target_loudness.specs.Rows.{upper_cells, lower_cells, depends_cells}
use Rattle.target_loudness.specs.Write.{target_acts, target_fits, target_long, target_part}

-- ---- in a row

pub target_writes : (g : Columns) → writes (optional 15 target ▹ end) g ≡ target_part g ++ []
unfolding writes
target_writes g = refl

-- its cells, by both flags
abbrev pub part_cells : Bool → Bool → List Cell
part_cells x y = pick x (flatten upper_cells ++ (pick y (flatten lower_cells ++ []) [] ++ (flatten depends_cells ++ []))) [] ++ []

-- with is_flag (g 15) before them they are flagsOf g
pub target_flags : (g : Columns) → every flagged g (shown (optional 15 target ▹ end) g) ≡ pick (eqb (g 15) 1) (is_flag (g 18)) true
unfolding shown every flatten
target_flags g = go (eqb (g 15) 1) (eqb (g 18) 1)
  where
    go : (x y : Bool) → every flagged g (part_cells x y) ≡ pick x (is_flag (g 18)) true
    go true true = and-true (is_flag (g 18))
    go true false = and-true (is_flag (g 18))
    go false y = refl

pub target_counts : (g : Columns) → every counted g (shown (optional 15 target ▹ end) g) ≡ true
unfolding shown every flatten
target_counts g = go (eqb (g 15) 1) (eqb (g 18) 1)
  where
    go : (x y : Bool) → every counted g (part_cells x y) ≡ true
    go true true = refl
    go true false = refl
    go false y = refl

-- ---- its bytes

abbrev upper_part : Columns → List Act
upper_part g = map byte (fields_of g upper_cells)

abbrev lower_part : Columns → List Act
lower_part g = when (eqb (g 18) 1) (map byte (fields_of g lower_cells))

abbrev depends_part : Columns → List Act
depends_part g = map byte (fields_of g depends_cells)

pub target_clean : (g : Columns) → clean (target_part g) ≡ pick (eqb (g 15) 1) (target_fits g) true
unfolding clean
target_clean g = go (eqb (g 15) 1)
  where
    go : (x : Bool) → clean (when x (target_acts g)) ≡ pick x (target_fits g) true
    go true =
        clean_append (upper_part g) (lower_part g ++ depends_part g)
        ∙ (λ i. clean_all (fields_of g upper_cells) i && (clean_append (lower_part g) (depends_part g) ∙ λ i. clean_when (eqb (g 18) 1) (fields_of g lower_cells) i && clean_all (fields_of g depends_cells) i) i)
    go false = refl

-- a flag is a field of one bit, so the bytes tell
pub lower_flag : (g : Columns) → target_fits g ≡ true → is_flag (g 18) ≡ true
unfolding every fit_all flatten
lower_flag g e =
    let (h, _) = and_both (fit_all (fields_of g upper_cells)) _ e in
    let (f, _) = and_both (fit _) _ h in
    rw (and-true (is_flag (g 18))) at (fit_flags (flatten upper_cells) g f)

pub target_long_lem : (g : Columns) → clean (target_part g) ≡ true → length (bytes (target_part g)) ≡ target_long g
unfolding bytes
target_long_lem g e = go (eqb (g 15) 1) (sym (target_clean g) ∙ e)
  where
    lowered : (y : Bool) → length (bytes (upper_part g ++ (when y (map byte (fields_of g lower_cells)) ++ depends_part g))) ≡ 2 + pick y 1 0
    lowered true = refl
    lowered false = refl

    go : (x : Bool) → pick x (target_fits g) true ≡ true → length (bytes (when x (target_acts g))) ≡ pick x (2 + g 18) 0
    go true e = lowered (eqb (g 18) 1) ∙ omega (arith, bit_size (g 18) 1 (lower_flag g e))
    go false e = refl

-- ---- the quick test: what the tests of its parts say together

and_swap : (a b c : Bool) → a && (b && c) ≡ b && (a && c)
and_swap true b c = refl
and_swap false true c = refl
and_swap false false c = refl

module _ (g : Columns) (t : g 15 ≡ 1) {u d : Bool} (e : u ≡ fit_all (fields_of g upper_cells)) (q : d ≡ fit_all (fields_of g depends_cells)) where
  pub fits_with : g 18 ≡ 1 → {l : Bool} → l ≡ fit_all (fields_of g lower_cells) → l && (u && d) ≡ pick (eqb (g 15) 1) (target_fits g) true
  fits_with v {l} r = and_swap l u d ∙ rw (eq-eqb (g 15) 1 t, eq-eqb (g 18) 1 v) (λ i. e i && (r i && q i))

  pub fits_without : (g 18 ≡ 1 → ⊥) → u && d ≡ pick (eqb (g 15) 1) (target_fits g) true
  fits_without v = rw (eq-eqb (g 15) 1 t, ne_eqb (g 18) 1 v) (λ i. e i && q i)

pub fits_none : (g : Columns) → (g 15 ≡ 1 → ⊥) → true ≡ pick (eqb (g 15) 1) (target_fits g) true
fits_none g t = rw (ne_eqb (g 15) 1 t)

pub long_there : (g : Columns) → g 15 ≡ 1 → pick (eqb (g 15) 1) (target_fits g) true ≡ true → (2 + g 18 ≡ target_long g) × (2 + g 18 ≤ 3)
long_there g t e =
    let x = eq-eqb (g 15) 1 t in
    (rw x, omega (arith, leb-true (g 18) 1 (lower_flag g (rw x at e))))

-- ---- the check pass

module _ (g : Columns) {p : Pen} where
  pub target_checked : g 15 ≡ 1 → {p₁ p₂ r : Pen} → Checked (upper_part g) 1 p p₁ → Checked (lower_part g) 1 p₁ p₂ → Checked (depends_part g) 1 p₂ r → Checked (target_part g) 3 p r
  target_checked t {r = r} x y z = subst (λ (b : Bool). Checked (when b (target_acts g)) 3 p r) (sym (eq-eqb (g 15) 1 t)) (then x (then y z))

  pub none_checked : (g 15 ≡ 1 → ⊥) → Checked (target_part g) 3 p p
  none_checked t = subst (λ (b : Bool). Checked (when b (target_acts g)) 3 p p) (sym (ne_eqb (g 15) 1 t)) (nothing 3 p)

-- ---- the fill pass

module _ (g : Columns) {n : ℕ} {l : List ℕ} where
  pub none_filled : (g 15 ≡ 1 → ⊥) → Filled (target_part g) n l n l
  none_filled t = subst (λ (b : Bool). Filled (when b (target_acts g)) n l n l) (sym (ne_eqb (g 15) 1 t)) (fill_none n l)

  module _ (t : g 15 ≡ 1) (w : Ready (target_part g) n l) {vs : List ℕ} (s : Spelt (fields_of g upper_cells) vs) where
    start : Filling (target_acts g) (target_acts g) n l n l
    start = fill_start (subst (λ (b : Bool). Ready (when b (target_acts g)) n l) (eq-eqb (g 15) 1 t) w)

    pub upper_ready : ReadyAll true vs n l
    upper_ready = ready_part (lower_part g ++ depends_part g) {there = true} s start

    module _ {n₁ : ℕ} {o₁ : List ℕ} (x : FillsAll true vs n l n₁ o₁) {ws : List ℕ} (s₁ : Spelt (fields_of g lower_cells) ws) where
      behind_upper : Filling (target_acts g) (lower_part g ++ depends_part g) n l n₁ o₁
      behind_upper = fill_part_lem (lower_part g ++ depends_part g) {there = true} s start x

      pub lower_ready : ReadyAll (eqb (g 18) 1) ws n₁ o₁
      lower_ready = ready_part (depends_part g) s₁ behind_upper

      module _ {n₂ : ℕ} {o₂ : List ℕ} (y : FillsAll (eqb (g 18) 1) ws n₁ o₁ n₂ o₂) {us : List ℕ} (s₂ : Spelt (fields_of g depends_cells) us) where
        behind_lower : Filling (target_acts g) (depends_part g) n l n₂ o₂
        behind_lower = fill_part_lem (depends_part g) s₁ behind_upper y

        pub depends_ready : ReadyAll true us n₂ o₂
        depends_ready = record { fss = fields_of g depends_cells; spelt = s₂; ready = behind_lower.ready }

        pub target_filled : {r : ℕ} {o : List ℕ} → FillsAll true us n₂ o₂ r o → Filled (target_part g) n l r o
        target_filled {r} {o} z =
            subst (λ (b : Bool). Filled (when b (target_acts g)) n l r o) (sym (eq-eqb (g 15) 1 t))
            (fill_last behind_lower (z.of (fields_of g depends_cells) s₂ behind_lower.ready.sound))
