-- The actions of a scope part by part: what has to match, its fields, and its bytes.
use Prim.Native.Nat.{ℕ, ◌^◌, ◌≤◌}
use mathlib.Core.Path.{◌≡◌, refl, sym, ap, ◌∙◌}
use mathlib.Core.List.{List, [], ◌∷◌, ◌++◌, map, flatten}
use mathlib.Core.Bool.{Bool, true, false, ◌&&◌}
use lib.Dec.{eqb, ltb}
use lib.ListN.{length}
use native.Mathlib.Omega.{arith}
use Rattle.wire.specs.Bits.{Field, fit}
use Rattle.wire.specs.Act.{Act, demand, byte, when, pick}
use Rattle.wire.specs.Pen.{Checked, Quick, Ready, Filled, clean, bytes, Pen}
use Rattle.wire.specs.Spell.{Spells, fit_all, FitsAll, ChecksAll, ReadyAll, FillsAll, none, more}
use Rattle.wire.proofs.Writing.Acts.{and_both, both_and}
use Rattle.wire.proofs.Writing.Passes.{then, quick_clean, quick_odd, Filling, fill_start, fill_last}
use Rattle.wire.proofs.Writing.Plain.{all_checked, no_quick, ready_part, fill_part_lem}
use Rattle.wire.specs.Layout.{Cell, num, reserved, end, judged, ◌▹◌, Columns, of, writes, shown, every, matches, has}
use Rattle.wire.specs.declared.pen.Fault.TheVariants as F
use Rattle.scopes.specs.Layout.{case_at, scope}
use Rattle.scopes.specs.Rows.{case_is, kind_is, scope_row}
use Rattle.scopes.specs.Write.{scope_acts, scope_bytes, has_id, type_fields, id_fields}
use Rattle.scopes.specs.declared.rows.DrcScope.{DrcScope}
use Rattle.scopes.specs.declared.rows.DrcScope.TheVariants.{Plain, Group, Preset, Unknown}
use Rattle.scopes.proofs.Taken.{case_at_lem}

-- the type byte, and the ID byte where it has one
abbrev pub in_parts : ℕ → DrcScope → List Act
in_parts rt s = map byte (type_fields rt s ∷ []) ++ when (has_id s) (map byte (id_fields s ∷ []))

pub bytes_so : (rt : ℕ) (s : DrcScope) → scope_bytes rt s ≡ in_parts rt s
unfolding scope writes
bytes_so rt (Plain k) = refl
bytes_so rt (Group k r i) = refl
bytes_so rt (Preset r i) = refl
bytes_so rt Unknown = refl

fits_so : (a b c d : Bool) → a && (b && (c && (d && true))) ≡ (a && (b && true)) && ((c && (d && true)) && true)
fits_so true true true true = refl
fits_so true true true false = refl
fits_so true true false d = refl
fits_so true false c d = refl
fits_so false b c d = refl

none_so : (a b : Bool) → a && (b && true) ≡ (a && (b && true)) && (true && true)
none_so true true = refl
none_so true false = refl
none_so false b = refl

pub acts_so : (types : List ℕ) (rt : ℕ) (s : DrcScope)
    → scope_acts types rt s ≡ demand F.Scope (eqb (case_is s) (case_at types (kind_is s))) ∷ demand F.Field (fit_all (type_fields rt s ∷ id_fields s ∷ [])) ∷ in_parts rt s
unfolding scope writes matches shown fit fit_all flatten
acts_so types rt (Plain k) = λ i. demand F.Scope (eqb 0 (case_at types k)) ∷ demand F.Field (none_so (ltb rt 64) (ltb k 4) i) ∷ in_parts rt (Plain k)
acts_so types rt (Group k r i) = λ j. demand F.Scope (eqb 1 (case_at types k)) ∷ demand F.Field (fits_so (ltb rt 64) (ltb k 4) (ltb r 2) (ltb i.0 128) j) ∷ in_parts rt (Group k r i)
acts_so types rt (Preset r i) = λ j. demand F.Scope (eqb 2 (case_at types 3)) ∷ demand F.Field (fits_so (ltb rt 64) true (ltb r 8) (ltb i.0 32) j) ∷ in_parts rt (Preset r i)
acts_so types rt Unknown = λ i. demand F.Scope (eqb 3 (case_at types 0)) ∷ demand F.Field (none_so (ltb rt 64) true i) ∷ in_parts rt Unknown

-- ---- the check pass

pub scope_checked : (types : List ℕ) (rt : ℕ) (s : DrcScope) {p p₀ p₁ p₂ r : Pen} {a f h : Bool} {v x : ℕ} → a ≡ eqb (case_is s) (case_at types (kind_is s))
    → Checked (demand F.Scope a ∷ []) 0 p p₀
    → Spells (type_fields rt s) v → Spells (id_fields s) x → FitsAll (v ∷ x ∷ []) f → Checked (demand F.Field f ∷ []) 0 p₀ p₁
    → ChecksAll true (v ∷ []) p₁ p₂ → h ≡ has_id s → ChecksAll h (x ∷ []) p₂ r → Checked (scope_acts types rt s) 2 p r
scope_checked types rt s e w₀ t i f w₁ y g z =
    rw (acts_so types rt s)
    (then (rw e at w₀) (then (rw (f.of (type_fields rt s ∷ id_fields s ∷ []) (more t (more i none))) at w₁) (then (all_checked (more t none) y) (rw g at (all_checked (more i none) z)))))

-- ---- the quick test: no fault, or the first one that is named elsewhere

abbrev parted : Bool → List Field → List Field → List Act
parted h fs gs = map byte (fs ∷ []) ++ when h (map byte (gs ∷ []))

parts_clean : (h : Bool) (fs gs : List Field) → fit_all (fs ∷ gs ∷ []) ≡ true → clean (parted h fs gs) ≡ true
unfolding clean fit_all
parts_clean true fs gs e = e
parts_clean false fs gs e = both_and (and_both (fit fs) _ e).0 refl

parts_long : (h : Bool) (fs gs : List Field) → length (bytes (parted h fs gs)) ≡ pick h 2 1
unfolding bytes
parts_long true fs gs = refl
parts_long false fs gs = refl

-- its actions are clean exactly if these tests hold
pub record Sound (types : List ℕ) (rt : ℕ) (s : DrcScope) : Type 0 where
  pub type : ltb rt (2 ^ 6) ≡ true
  pub id : fit (id_fields s) ≡ true
  pub kind : ltb (kind_is s) (2 ^ 2) ≡ true
  pub case : eqb (case_is s) (case_at types (kind_is s)) ≡ true

module _ (types : List ℕ) (rt : ℕ) where
  sound_clean : {s : DrcScope} → Sound types rt s → clean (scope_acts types rt s) ≡ true
  unfolding clean fit fit_all
  sound_clean {s} z =
      let f : fit_all (type_fields rt s ∷ id_fields s ∷ []) ≡ true = both_and (both_and z.type (both_and z.kind refl)) (both_and z.id refl) in
      ap clean (acts_so types rt s) ∙ both_and z.case (both_and f (parts_clean (has_id s) (type_fields rt s) (id_fields s) f))

  clean_sound : {s : DrcScope} → clean (scope_acts types rt s) ≡ true → Sound types rt s
  unfolding clean fit fit_all
  clean_sound {s} e =
      let (a, b) = and_both (eqb (case_is s) (case_at types (kind_is s))) _ (sym (ap clean (acts_so types rt s)) ∙ e) in
      let (f, g) = and_both (fit_all (type_fields rt s ∷ id_fields s ∷ [])) _ b in
      let (t, i) = and_both (fit (type_fields rt s)) _ f in
      let (x, y) = and_both (ltb rt (2 ^ 6)) _ t in
      record { type = x; id = (and_both (fit (id_fields s)) _ i).0; kind = (and_both (ltb (kind_is s) (2 ^ 2)) _ y).0; case = a }

  -- t is the variant that s was found to be
  module _ {s t : DrcScope} (e : s ≡ t) where
    pub scope_plain : Sound types rt t → {r : ℕ} → r ≡ pick (has_id t) 2 1 → Quick (scope_acts types rt s) 2 r
    unfolding bytes
    scope_plain z {r} k =
        let n = some (has_id t) in
        rw e
        (quick_clean (scope_acts types rt t) 2 (sound_clean z) (ap (λ (q : List Act). length (bytes q)) (acts_so types rt t) ∙ parts_long (has_id t) (type_fields rt t) (id_fields t) ∙ sym k)
        (omega (arith, k, n)) (omega (arith, k, n)))
      where
        some : (h : Bool) → (1 ≤ pick h 2 1) × (pick h 2 1 ≤ 2)
        some true = (omega arith, omega arith)
        some false = (omega arith, omega arith)

    pub scope_odd : (Sound types rt t → ⊥) → Quick (scope_acts types rt s) 2 0
    scope_odd n = rw e (quick_odd (scope_acts types rt t) 2 (λ q. n (clean_sound q)))

  -- no type has the case of an unknown scope
  pub unknown_odd : Sound types rt Unknown → ⊥
  unknown_odd z = no_quick (ap (eqb 3) (case_at_lem types 0 (omega arith)) ∙ go (has 0 types)) z.case
    where
      go : (b : Bool) → eqb 3 (pick b 1 0) ≡ false
      go true = refl
      go false = refl

-- ---- the fill pass

module _ (rt : ℕ) (s : DrcScope) where
  abbrev id_part : List Act
  id_part = when (has_id s) (map byte (id_fields s ∷ []))

  module _ {n : ℕ} {l : List ℕ} (w : Ready (scope_bytes rt s) n l) {v : ℕ} (t : Spells (type_fields rt s) v) where
    start : Filling (in_parts rt s) (in_parts rt s) n l n l
    start = fill_start (rw (bytes_so rt s) at w)

    pub type_ready : ReadyAll true (v ∷ []) n l
    type_ready = ready_part id_part {there = true} (more t none) start

    module _ {m : ℕ} {o : List ℕ} (y : FillsAll true (v ∷ []) n l m o) {h : Bool} (g : h ≡ has_id s) {x : ℕ} (i : Spells (id_fields s) x) where
      behind : Filling (in_parts rt s) id_part n l m o
      behind = fill_part_lem id_part {there = true} (more t none) start y

      pub id_ready : ReadyAll h (x ∷ []) m o
      id_ready = rw g (record { fss = id_fields s ∷ []; spelt = more i none; ready = behind.ready })

      pub scope_filled : {r : ℕ} {o' : List ℕ} → FillsAll h (x ∷ []) m o r o' → Filled (scope_bytes rt s) n l r o'
      scope_filled z = rw (bytes_so rt s) (fill_last behind ((rw g at z).of (id_fields s ∷ []) (more i none) behind.ready.sound))

-- ---- in a row, of which it is the first columns: its actions are the same

module _ (types : List ℕ) (rt : ℕ) where
  pub row_acts_lem : (s : DrcScope) (rest : List ℕ)
      → matches (scope types) (of (rt ∷ scope_row s ++ rest)) ++ writes (judged (scope types) ▹ end) (of (rt ∷ scope_row s ++ rest)) ≡ scope_acts types rt s
  unfolding scope writes matches shown flatten
  row_acts_lem (Plain k) rest = refl
  row_acts_lem (Group k r i) rest = refl
  row_acts_lem (Preset r i) rest = refl
  row_acts_lem Unknown rest = refl

  pub row_bytes_lem : (s : DrcScope) (rest : List ℕ) → writes (scope types) (of (rt ∷ scope_row s ++ rest)) ≡ scope_bytes rt s
  unfolding scope writes
  row_bytes_lem (Plain k) rest = refl
  row_bytes_lem (Group k r i) rest = refl
  row_bytes_lem (Preset r i) rest = refl
  row_bytes_lem Unknown rest = refl

-- a test that numbers and reserved bits pass says nothing of it
module _ (test : Cell → ℕ → Bool) (h : (w k v : ℕ) → (test (num w k) v ≡ true) × (test (reserved w k) v ≡ true)) (g : Columns) where
  pub scope_every : (types : List ℕ) (rest : List Cell) → every test g (shown (scope types) g ++ rest) ≡ every test g rest
  unfolding scope shown every flatten
  scope_every types rest = λ i. (h 6 0 (g 0)).1 i && ((h 2 2 (g 2)).0 i && ((h 2 1 (g 1)).0 i && go (eqb (g 1) 1) (eqb (g 1) 2) i))
    where
      go : (x y : Bool) → every test g ((pick x (reserved 1 3 ∷ num 7 4 ∷ []) (pick y (reserved 3 3 ∷ num 5 4 ∷ []) [] ++ []) ++ []) ++ rest) ≡ every test g rest
      go true y = λ i. (h 1 3 (g 3)).1 i && ((h 7 4 (g 4)).0 i && every test g rest)
      go false true = λ i. (h 3 3 (g 3)).1 i && ((h 5 4 (g 4)).0 i && every test g rest)
      go false false = refl
