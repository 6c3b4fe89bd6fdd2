-- Loudness entries written: a scope as the head of a row, checked, tested and filled with the payload behind it.
use Prim.Native.Nat.{ℕ, ◌+◌, ◌*◌, ◌≤◌, ◌<◌}
use mathlib.Core.Path.{◌≡◌, refl, sym, ap, subst, ◌∙◌}
use mathlib.Core.List.{List, [], ◌∷◌, ◌++◌, map, flatten}
use mathlib.Core.Bool.{Bool, true, false, ◌&&◌}
use native.Mathlib.Omega.{arith}
use native.Mathlib.Nat.{add-zero}
use lib.ListN.{length, get_or, set}
use lib.Seq.{slice}
use lib.Dec.{leb, ltb}
use Rattle.wire.specs.Lists.{each}
use Rattle.wire.specs.Bits.{field, fit}
use Rattle.wire.specs.Act.{Act, demand, copy}
use Rattle.wire.specs.Pen.{look, glance, looks, Checked, CheckedByte, CheckedRun, Quick, clean, Ready, Filled, Pen, At}
use Rattle.wire.specs.Layout.{from, at, row, field_of, writes, shown, cells, matches, matched, every}
use Rattle.wire.specs.declared.pen.Fault.TheVariants as F
use Rattle.wire.specs.declared.rows.Payload.{Payload}
use Rattle.wire.proofs.Fields.{fit_one}
use Rattle.wire.proofs.Writing.Passes.{then, more, Filling, fill_demand, fill_row_lem, fill_turn}
use Rattle.wire.proofs.Writing.Plain.{met, filled_long}
use Rattle.wire.proofs.Layouts.Bearers.{head_acts, payload_acts, bear_checked, bear_plain, bear_odd, bear_inside, bear_filling, size_ready, bytes_room, bytes_filled, bear_acts}
use Rattle.scopes.specs.Layout.{scope}
use Rattle.scopes.specs.Rows.{scope_row, scope_is, scoped}
use Rattle.scopes.specs.Write.{scope_acts, scope_bytes}
use Rattle.scopes.specs.declared.rows.DrcScope.{DrcScope}
use Rattle.scopes.specs.declared.rows.DrcScope.TheVariants.{Plain, Group, Preset, Unknown}
use Rattle.loudness.specs.Layout.{types, entry}
use Rattle.loudness.specs.Rows.{entry_row, entry_cols, entry_of}
use Rattle.loudness.specs.Write.{entry_acts, row_acts}
use Rattle.loudness.specs.declared.rows.LoudnessInfoEntry.{LoudnessInfoEntry}
use Rattle.loudness.proofs.Taken.{entry_bear}

abbrev made : ℕ → DrcScope → Payload → LoudnessInfoEntry
made rt c p = record { reserved_type = rt; scope = c; loudness_info = p }

-- no flag and no list is in a scope, so its demands are the first
head_so : (rt : ℕ) (c : DrcScope) (p : Payload) → head_acts entry (entry_cols (made rt c p)) ≡ demand F.Field true ∷ demand F.Empty true ∷ scope_acts types rt c
unfolding writes shown cells matches matched every scope flatten
head_so rt (Plain k) p = refl
head_so rt (Group k r i) p = refl
head_so rt (Preset r i) p = refl
head_so rt Unknown p = refl

-- its bytes, behind the demand that its fields fit
abbrev judged_act : ℕ → DrcScope → Payload → Act
judged_act rt c p = demand F.Field (fit (map (field_of (entry_cols (made rt c p))) (shown (scope types) (entry_cols (made rt c p)))))

writes_so : (rt : ℕ) (c : DrcScope) (p : Payload) → writes entry.head (entry_cols (made rt c p)) ≡ judged_act rt c p ∷ scope_bytes rt c
unfolding writes shown scope
writes_so rt (Plain k) p = refl
writes_so rt (Group k r i) p = refl
writes_so rt (Preset r i) p = refl
writes_so rt Unknown p = refl

-- a row of table 11 is written as the entry that its columns make
columns_so : (t : List ℕ) (b : ℕ) → entry_row (entry_of t b) ≡ row 7 (scoped (from t b))
unfolding each
columns_so t b =
    let p₀ = sym (add-zero b) in
    let p₂ : b + 1 + 1 ≡ b + 2 = omega arith in
    let p₃ : b + 1 + 2 ≡ b + 3 = omega arith in
    let p₄ : b + 1 + 3 ≡ b + 4 = omega arith in
    λ i. get_or t (p₀ i) 0 ∷ scope_row (scope_is (get_or t (b + 1) 0) (get_or t (p₂ i) 0) (get_or t (p₃ i) 0) (get_or t (p₄ i) 0)) ++ (get_or t (b + 5) 0 ∷ get_or t (b + 6) 0 ∷ [])

pub row_acts_lem : (t store : List ℕ) (i : ℕ) {e : LoudnessInfoEntry} → e ≡ entry_of t (i * 7) → entry_acts store e ≡ row_acts t store i
unfolding each
row_acts_lem t store i q = ap (entry_acts store) q ∙ bear_acts entry_bear store (entry_cols (entry_of t (i * 7))) (scoped (at 7 t i)) (columns_so t (i * 7))

module _ (store : List ℕ) (e : LoudnessInfoEntry) where
  abbrev info_length : ℕ
  info_length = e.loudness_info.length

  -- ---- the check pass

  pub entry_checked : {inside fits : Bool} {n : ℕ} {p₀ p₁ : Pen} (p₂ : Pen) {r : Pen} → inside ≡ leb (e.loudness_info.offset + info_length) (length store)
      → Checked (demand F.Range inside ∷ []) 0 (At n) p₀
      → Checked (scope_acts types e.reserved_type e.scope) 2 p₀ p₁ → fits ≡ ltb info_length 256 → CheckedByte fits p₁ p₂ → CheckedRun info_length p₂ r → Checked (entry_acts store e) 258 (At n) r
  entry_checked {p₀ = p₀} {p₁} p₂ i w₀ w₁ f w₂ w₃ =
      let head : Checked (head_acts entry (entry_cols e)) 2 p₀ p₁ = rw (head_so e.reserved_type e.scope e.loudness_info) (more 2 (then (met F.Field p₀) (then (met F.Empty p₀) w₁)) (omega arith)) in
      bear_checked entry store (entry_cols e) p₂ i w₀ head (w₂.of (field 8 info_length ∷ []) (f ∙ fit_one 8 info_length)) w₃

  -- ---- the quick test

  met_first : {k : ℕ} → Quick (scope_acts types e.reserved_type e.scope) 2 k → Quick (head_acts entry (entry_cols e)) 2 k
  unfolding looks glance look clean
  met_first w = rw (head_so e.reserved_type e.scope e.loudness_info) (record { to = λ p n. record { pens = (w.to p n).pens; near = (w.to p n).near }; odd = w.odd })

  module _ {inside fits : Bool} {k : ℕ} (i : inside ≡ leb (e.loudness_info.offset + info_length) (length store)) (w : Quick (scope_acts types e.reserved_type e.scope) 2 k) (f : fits ≡ ltb info_length 256) where
    pub entry_plain : inside && (ltb 0 k && fits) ≡ true → Quick (entry_acts store e) 258 (k + (1 + info_length))
    entry_plain q = bear_plain entry store (entry_cols e) i (met_first w) (ap (λ (b : Bool). inside && (ltb 0 k && b)) (sym f) ∙ q)

    pub entry_odd : inside && (ltb 0 k && fits) ≡ false → Quick (entry_acts store e) 258 0
    entry_odd q = bear_odd entry store (entry_cols e) i (met_first w) (ap (λ (b : Bool). inside && (ltb 0 k && b)) (sym f) ∙ q)

  -- ---- the fill pass

  module _ {n : ℕ} {l : List ℕ} (w : Ready (entry_acts store e) n l) where
    start : Filling (entry_acts store e) (scope_bytes e.reserved_type e.scope ++ payload_acts entry store (entry_cols e)) n l n l
    start =
        fill_demand
        (subst (λ (q : List Act). Filling (entry_acts store e) (q ++ payload_acts entry store (entry_cols e)) n l n l) (writes_so e.reserved_type e.scope e.loudness_info) (bear_filling entry store (entry_cols e) w))

    pub scope_ready : Ready (scope_bytes e.reserved_type e.scope) n l
    scope_ready = fill_row_lem (scope_bytes e.reserved_type e.scope) (payload_acts entry store (entry_cols e)) start refl

    pub info_inside : e.loudness_info.offset + info_length ≤ length store
    info_inside = bear_inside entry store (entry_cols e) w

    module _ {n₁ : ℕ} {o₁ : List ℕ} (x : Filled (scope_bytes e.reserved_type e.scope) n l n₁ o₁) where
      behind : Filling (entry_acts store e) (payload_acts entry store (entry_cols e)) n l n₁ o₁
      behind = fill_turn start refl (filled_long x) x

      pub length_ready : (info_length < 256) × (n₁ < length o₁)
      length_ready = size_ready entry store (entry_cols e) behind

      module _ {n₂ : ℕ} {o₂ : List ℕ} (y : (n₂ ≡ n₁ + 1) × (o₂ ≡ set o₁ n₁ info_length)) where
        pub info_room : n₂ + info_length ≤ length o₂
        info_room = bytes_room entry store (entry_cols e) behind y info_inside

        pub entry_filled : {r : ℕ} {o : List ℕ} → Filled (copy (slice e.loudness_info.offset (e.loudness_info.offset + info_length) store) ∷ []) n₂ o₂ r o
            → Filled (entry_acts store e) n l r o
        entry_filled z = bytes_filled entry store (entry_cols e) behind y z
