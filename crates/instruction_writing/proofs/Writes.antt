-- Instructions written: their actions part by part, and what the two passes do with a row and its additional IDs.
use Rattle.std.specs.Prelude.{Err}
use Prim.Native.Nat.{ℕ, zero, suc, ◌+◌, ◌*◌, ◌/◌, ◌%◌, ◌<◌, ◌≤◌}
use mathlib.Core.Path.{◌≡◌, refl, sym, ap, subst, ◌∙◌}
use mathlib.Core.List.{List, [], ◌∷◌, ◌++◌, append_assoc, append-nil, map, flatten}
use mathlib.Core.Bool.{Bool, true, false, ◌&&◌}
use native.Mathlib.Omega.{arith}
use native.Mathlib.Nat.{add-zero}
use lib.ListN.{length, length-append, get_or}
use lib.Dec.{eqb, leb, ltb}
use borrow.Author.Tests.{lt-ltb, ltb-true, leb-true, le-ltb, eq-eqb, ne_eqb, eqb-true}
use Rattle.wire.specs.Lists.{each}
use Rattle.wire.specs.Bits.{Field, field, is_flag, fit, total}
use Rattle.wire.specs.Act.{Act, demand, byte, when, pick, rows}
use Rattle.wire.specs.Pen.{Checked, Quick, Ready, Filled, clean, bytes, Pen, At}
use Rattle.wire.specs.Layout.{Cell, num, reserved, flag, end, optional, ◌▹◌, Columns, from, at, row, field_of, writes, shown, cells, matches, matched, every, flagged, counted, layouts, has}
use Rattle.wire.specs.Spell.{fit_all, Spells, Spelt, none, more, FitsAll, ChecksAll, ReadyAll, FillsAll, PlainRows}
use Rattle.wire.specs.declared.pen.Fault.TheVariants as F
use Rattle.wire.specs.declared.pen.Stopped.{Stopped}
use Rattle.wire.proofs.Writing.Acts.{and_both, both_and, clean_append, clean_both, bytes_append}
use Rattle.wire.proofs.Fields.{fits_cons}
use Rattle.wire.proofs.Writing.Passes.{then, quick_clean, quick_odd, fill_none, Filling, fill_start, fill_demand, fill_row_lem, fill_turn, fill_last}
use Rattle.wire.proofs.Writing.Plain.{met, all_checked, bytes_long, clean_all, clean_when, no_quick, going_start, going_end, filled_long, ready_part, fill_part_lem}
use Rattle.wire.proofs.Layouts.Cells.{all, distinct, free, eights, proper, suits}
use Rattle.wire.proofs.Layouts.Forms.{sure, below, form_proper, form_all}
use Rattle.wire.proofs.Layouts.Heeds.{broken_row_lem}
use Rattle.wire.proofs.Layouts.Rowed.{Flat, Nest, flat_test, nest_test, weight, loose, matches_loose, after_demands}
use Rattle.wire.proofs.Layouts.Families.{front_acts, kid_acts, Front, quick_passed, kids_passed, kids_odd, clean_parts, broken_stopped, broken_checked, front_passed, broken_quick, broken_odd_kid, broken_ready, broken_filling, kids_ready, kids_filled}
use Rattle.pairs.specs.Layout.{pair}
use Rattle.pairs.specs.Write.{pair_acts}
use Rattle.scopes.specs.Layout.{case_at, scope}
use Rattle.scopes.specs.Rows.{scoped}
use Rattle.scopes.specs.Write.{scope_acts, scope_bytes}
use Rattle.scopes.specs.declared.rows.DrcScope.{DrcScope}
use Rattle.scopes.specs.declared.rows.DrcScope.TheVariants.{Plain}
use Rattle.scopes.proofs.Written as S
use Rattle.target_loudness.specs.Layout.{target}
use Rattle.target_loudness.specs.Rows.{target_cols}
use Rattle.target_loudness.specs.Write.{target_fits, target_long, target_part}
use Rattle.target_loudness.proofs.Writes.{target_writes, target_flags, target_counts, target_clean, target_long_lem}
use Rattle.instructions.specs.Layout.{types, additional, settings, effect, instruction}
use Rattle.instructions.specs.Rows.{settings_row, effect_row, instruction_cols, instruction_of, settings_cells}
use Rattle.instruction_writing.specs.Write.{settings_fields, effect_fields, limiter_fields, limiter_part, effect_acts, flags_of, instruction_acts, bare_at, row_acts}
use Rattle.instructions.specs.declared.rows.DrcInstructions.{DrcInstructions}

-- ---- a row of table 9 with its rows of table 10: what it passes, and that writing reads no other column

pub additional_passes : flat_test 2 additional ≡ true
unfolding flat_test weight form_proper form_all below proper all has distinct free eights total flatten pair
additional_passes = refl

pub instruction_passes : nest_test instruction ≡ true
unfolding nest_test weight below proper suits all has distinct free eights total sure flatten scope each
instruction_passes = refl

abbrev pub additional_rows : Flat
additional_rows = record { columns = 2; layout = additional; passes = additional_passes }

abbrev pub instruction_rows : Nest
instruction_rows = record { row = instruction; kid = additional_rows; passes = instruction_passes }

row_acts_lem : (t u : List ℕ) (i : ℕ) → instruction_acts u (instruction_of t (i * 24)) ≡ row_acts t u i
unfolding each
row_acts_lem t u i = broken_row_lem instruction_rows (length u / 2) (pair_acts u) (instruction_cols (instruction_of t (i * 24))) (scoped (at 24 t i)) (same (i * 24))
  where
    same : (b : ℕ) → row 24 (instruction_cols (instruction_of t b)) ≡ row 24 (scoped (from t b))
    same b =
        let e₂ : b + 1 + 1 ≡ b + 2 = omega arith in
        let e₃ : b + 1 + 2 ≡ b + 3 = omega arith in
        let e₄ : b + 1 + 3 ≡ b + 4 = omega arith in
        rw (add-zero, e₂, e₃, e₄)

-- what is promised of an instruction that was loaded from row i is promised of that row
module _ (t u : List ℕ) (i : ℕ) {d : DrcInstructions} (e : d ≡ instruction_of t (i * 24)) where
  is_row : instruction_acts u d ≡ row_acts t u i
  is_row = ap (instruction_acts u) e ∙ row_acts_lem t u i

  pub row_quick : {k : ℕ} → Quick (instruction_acts u d) 18 k → Quick (row_acts t u i) 18 k
  row_quick {k} q = subst (λ (a : List Act). Quick a 18 k) is_row q

  pub row_looked : {p r : Pen} → Checked (instruction_acts u d) 18 p r → Checked (row_acts t u i) 18 p r
  row_looked {p} {r} w = subst (λ (a : List Act). Checked a 18 p r) is_row w

  pub row_asked : {n : ℕ} {l : List ℕ} → Ready (row_acts t u i) n l → Ready (instruction_acts u d) n l
  row_asked {n} {l} w = subst (λ (a : List Act). Ready a n l) (sym is_row) w

  pub row_stored : {n r : ℕ} {l o : List ℕ} → Filled (instruction_acts u d) n l r o → Filled (row_acts t u i) n l r o
  row_stored {n} {r} {l} {o} w = subst (λ (a : List Act). Filled a n l r o) is_row w

-- ---- its actions, part by part

module _ (d : DrcInstructions) where
  abbrev g : Columns
  g = instruction_cols d

  abbrev pub own_scope : List Act
  own_scope = scope_acts types d.reserved_type d.scope

  abbrev settings_part : List Act
  settings_part = map byte (settings_fields d)

  -- what has to match, and the bytes before the additional IDs
  head_so : matched (layouts instruction) g ++ writes settings g ≡ own_scope ++ settings_part
  unfolding writes matches matched
  head_so =
      let m = matches (scope types) g in
      let w = writes (scope types) g in
      let rest = settings_row d ++ effect_row d in
      let j = demand F.Field (fit (map (field_of g) (shown (scope types) g))) in
      let e : matched (layouts instruction) g ≡ m = (λ i. append-nil m i ++ matches_loose effect g (unfold loose in refl) i) ∙ append-nil m in
      (λ i. e i ++ (j ∷ (sym (append-nil w) i ++ settings_part)))
      ∙ sym (append_assoc m (j ∷ (w ++ [])) settings_part)
      ∙ ap (λ (l : List Act). l ++ settings_part) (S.row_acts_lem types d.reserved_type d.scope rest)

  -- a test of its cells that numbers and reserved bits pass is one of its flags
  cells_every : (test : Cell → ℕ → Bool) → ((w k v : ℕ) → (test (num w k) v ≡ true) × (test (reserved w k) v ≡ true))
      → every test g (cells (layouts instruction) g) ≡ test (flag 13) (g 13) && (test (flag 15) (g 15) && every test g (shown (optional 15 target ▹ end) g))
  unfolding cells shown every flatten
  cells_every test h =
      let t = shown effect g in
      ap (every test g) (append_assoc (shown (scope types) g) (flatten settings_cells) t)
      ∙ S.scope_every test h g types (flatten settings_cells ++ t)
      ∙ (λ i. (h 2 5 (g 5)).1 i && ((h 6 6 (g 6)).0 i && ((h 1 7 (g 7)).1 i && ((h 7 8 (g 8)).0 i && ((h 3 9 (g 9)).1 i && ((h 3 11 (g 11)).0 i && (test (flag 13) (g 13) && (test (flag 15) (g 15) && ((h 16 12 (g 12)).0 i && go (eqb (g 13) 1) i)))))))))
    where
      go : (x : Bool) → every test g (pick x (num 8 14 ∷ []) [] ++ shown (optional 15 target ▹ end) g) ≡ every test g (shown (optional 15 target ▹ end) g)
      go true = λ i. (h 8 14 (g 14)).0 i && every test g (shown (optional 15 target ▹ end) g)
      go false = refl

  flags_so : every flagged g (cells (layouts instruction) g) ≡ flags_of d
  flags_so = cells_every flagged (λ w k v. (refl, refl)) ∙ ap (λ (b : Bool). is_flag (g 13) && (is_flag (g 15) && b)) (target_flags g)

  counts_so : every counted g (cells (layouts instruction) g) ≡ true
  counts_so = cells_every counted (λ w k v. (refl, refl)) ∙ target_counts g

  front_so : (room : ℕ) → front_acts instruction room g ≡ demand F.Range (leb (g 10 + g 11) room) ∷ demand F.Field (flags_of d) ∷ demand F.Empty true ∷ (own_scope ++ settings_part)
  front_so room = λ i. demand F.Range (leb (g 10 + g 11) room) ∷ demand F.Field (flags_so i) ∷ demand F.Empty (counts_so i) ∷ head_so i

  -- behind the additional IDs
  effect_so : writes effect g ≡ effect_acts d
  unfolding writes
  effect_so = ap (λ (l : List Act). map byte (effect_fields d.drc_set_effect) ++ (limiter_part d.limiter_peak_target ++ l)) (target_writes g ∙ append-nil (target_part g))

  -- ---- what stands behind the additional IDs: whether it fits, and how long it is

  word_fits : d.drc_set_effect < 65536 → fit_all (effect_fields d.drc_set_effect) ≡ true
  unfolding fit_all fit
  word_fits h = let e = d.drc_set_effect in λ i. (lt-ltb (e / 256) 256 (omega arith) i && true) && ((lt-ltb (e % 256) 256 (omega arith) i && true) && true)

  effect_clean : clean (effect_acts d) ≡ fit_all (effect_fields d.drc_set_effect) && (pick (eqb (g 13) 1) (fit_all (limiter_fields d.limiter_peak_target)) true && pick (eqb (g 15) 1) (target_fits (target_cols d.target_loudness)) true)
  effect_clean =
      let l = limiter_part d.limiter_peak_target in
      let t = target_cols d.target_loudness in
      clean_append (map byte (effect_fields d.drc_set_effect)) (l ++ target_part t)
      ∙ (λ i. clean_all (effect_fields d.drc_set_effect) i && (clean_append l (target_part t) ∙ λ i. clean_when (eqb (g 13) 1) (limiter_fields d.limiter_peak_target) i && target_clean t i) i)

  module _ (h : d.drc_set_effect < 65536) {t : Bool} (q : t ≡ pick (eqb (g 15) 1) (target_fits (target_cols d.target_loudness)) true) where
    pub fits_with : g 13 ≡ 1 → {l : Bool} → l ≡ fit_all (limiter_fields d.limiter_peak_target) → l && t ≡ clean (effect_acts d)
    fits_with v r = sym (effect_clean ∙ rw (word_fits h, eq-eqb (g 13) 1 v) (sym (λ i. r i && q i)))

    pub fits_without : (g 13 ≡ 1 → ⊥) → t ≡ clean (effect_acts d)
    fits_without v = sym (effect_clean ∙ rw (word_fits h, ne_eqb (g 13) 1 v) (sym q))

  module _ (c : clean (effect_acts d) ≡ true) where
    pub loud_fits : pick (eqb (g 15) 1) (target_fits (target_cols d.target_loudness)) true ≡ true
    loud_fits =
        let (_, e) = and_both (fit_all (effect_fields d.drc_set_effect)) _ (sym effect_clean ∙ c) in
        (and_both (pick (eqb (g 13) 1) (fit_all (limiter_fields d.limiter_peak_target)) true) _ e).1

    pub effect_long_lem : g 13 ≤ 1 → {k : ℕ} → k ≡ target_long (target_cols d.target_loudness) → 2 + g 13 + k ≡ length (bytes (effect_acts d))
    unfolding bytes
    effect_long_lem h {k} e =
        let t = target_cols d.target_loudness in
        let z : length (bytes (limiter_part d.limiter_peak_target)) ≡ g 13 = limited (g 13) h in
        let y = target_long_lem t (target_clean t ∙ loud_fits) in
        let w =
        ap length (bytes_append (limiter_part d.limiter_peak_target) (target_part t)) ∙ length-append (bytes (limiter_part d.limiter_peak_target)) (bytes (target_part t)) in
        omega (arith, z, y, w, e)
      where
        limited : (v : ℕ) → v ≤ 1 → length (bytes (when (eqb v 1) (map byte (limiter_fields d.limiter_peak_target)))) ≡ v
        limited zero h = refl
        limited (suc zero) h = refl
        limited (suc (suc v)) h = absurd (omega arith)

  module _ {n : ℕ} {l : List ℕ} (w : Ready (effect_acts d) n l) {vs : List ℕ} (s : Spelt (effect_fields d.drc_set_effect) vs) where
    abbrev loud_part : List Act
    loud_part = target_part (target_cols d.target_loudness)

    abbrev behind_word : List Act
    behind_word = limiter_part d.limiter_peak_target ++ loud_part

    pub word_ready : ReadyAll true vs n l
    word_ready = ready_part behind_word {there = true} s (fill_start w)

    module _ {n₁ : ℕ} {o₁ : List ℕ} (x : FillsAll true vs n l n₁ o₁) {ws : List ℕ} (r : Spelt (limiter_fields d.limiter_peak_target) ws) where
      word_filled : Filling (effect_acts d) behind_word n l n₁ o₁
      word_filled = fill_part_lem behind_word {there = true} s (fill_start w) x

      pub limiter_ready : ReadyAll (eqb (g 13) 1) ws n₁ o₁
      limiter_ready = ready_part loud_part r word_filled

      module _ {n₂ : ℕ} {o₂ : List ℕ} (y : FillsAll (eqb (g 13) 1) ws n₁ o₁ n₂ o₂) where
        limiter_filled : Filling (effect_acts d) loud_part n l n₂ o₂
        limiter_filled = fill_part_lem loud_part r word_filled y

        pub loud_ready : Ready loud_part n₂ o₂
        loud_ready = limiter_filled.ready

        pub effect_filled : {k : ℕ} {o : List ℕ} → Filled loud_part n₂ o₂ k o → Filled (effect_acts d) n l k o
        effect_filled v = fill_last limiter_filled v

  -- fields that fit are few
  pub record Small : Type 0 where
    pub few : g 11 ≤ 7
    pub flag : g 13 ≤ 1

  small : fit_all (settings_fields d) ≡ true → Small
  unfolding fit_all
  small e =
      let (_, e₁) = and_both (fit _) _ e in
      let (_, e₂) = and_both (fit _) _ e₁ in
      let (f, _) = and_both (fit _) _ e₂ in
      let (_, f₁) = fits_cons 3 (g 9) _ f in
      let (c, f₂) = fits_cons 3 (g 11) _ f₁ in
      let (l, _) = fits_cons 1 (g 13) _ f₂ in
      record { few = omega (arith, c); flag = omega (arith, l) }

  -- ---- the check pass

  module _ (u : List ℕ) where
    pub front : {n : ℕ} {p₀ p₁ p₂ p₃ : Pen} {inside flags : Bool} {vs : List ℕ} → inside ≡ leb (g 10 + g 11) (length u / 2) → flags ≡ flags_of d
        → Checked (demand F.Range inside ∷ []) 0 (At n) p₀ → Checked (demand F.Field flags ∷ []) 0 p₀ p₁ → Checked own_scope 2 p₁ p₂ → Spelt
        (settings_fields d) vs → ChecksAll true vs p₂ p₃
        → Checked (front_acts instruction (length u / 2) g) 5 (At n) p₃
    front e f w₀ w₁ w₂ s w₃ = rw (front_so (length u / 2)) (then (rw e at w₀) (then (rw f at w₁) (then (met F.Empty _) (then w₂ (all_checked s w₃)))))

    -- behind it: the additional IDs stand in their table, and are few
    pub record Behind : Type 0 where
      pub inside : (g 10 + g 11) * 2 ≤ length u
      pub few : g 11 ≤ 7

    behind : Front instruction (length u / 2) (pair_acts u) g → Behind
    unfolding writes clean
    behind f =
        let i = f.inside in
        let (_, c) = and_both (fit _) _ f.fits in
        let (_, s) = clean_both (writes (scope types) g) settings_part c in
        record { inside = omega (arith, i); few = (small (sym (clean_all (settings_fields d)) ∙ s)).few }

    -- it has stopped
    pub front_stopped : {n : ℕ} {x : Stopped} → Checked (front_acts instruction (length u / 2) g) 5 (At n) (Err x) → Checked (instruction_acts u d) 18 (At n) (Err x)
    front_stopped {x = x} w = broken_stopped instruction (length u / 2) (pair_acts u) g w 18 (omega arith) {f = x.0} {m = x.1} refl

    -- or stands at a place
    module _ {n m : ℕ} (w : Checked (front_acts instruction (length u / 2) g) 5 (At n) (At m)) where
      pub front_behind : Behind
      front_behind = behind (front_passed instruction (length u / 2) (pair_acts u) g w refl)

      pub front_near : m ≤ n + 5
      front_near = w.near

      pub row_checked : {q r : Pen} → Checked (rows (pair_acts u) (g 10) (g 11)) (g 11) (At m) q → Checked (effect_acts d) 6 q r → Checked (instruction_acts u d) 18 (At n) r
      row_checked {q} {r} x y =
          broken_checked instruction (length u / 2) (pair_acts u) g w 18 x (subst (λ (a : List Act). Checked a 6 q r) (sym effect_so) y)
          (let h = front_behind.few in omega (arith, h))

    -- ---- the quick test

    module _ {inside fits tail : Bool} {head : ℕ} {vs : List ℕ} (e : inside ≡ leb (g 10 + g 11) (length u / 2)) (q : Quick own_scope 2 head) (s : Spelt (settings_fields d) vs) (f : FitsAll vs fits) (t : tail ≡ clean (effect_acts d)) where
      -- what the code tests is what has no fault, but for the additional IDs
      clean_tested : clean (instruction_acts u d) ≡ true → (inside && ltb 0 head) && (fits && tail) ≡ true
      clean_tested c =
          let (r, e₁) = and_both (leb (g 10 + g 11) (length u / 2)) _ (sym (clean_parts instruction (length u / 2) (pair_acts u) g) ∙ c) in
          let (_, e₂) = and_both (every flagged g (cells (layouts instruction) g)) _ e₁ in
          let (_, e₃) = and_both (every counted g (cells (layouts instruction) g)) _ e₂ in
          let (m, e₄) = and_both (clean (matched (layouts instruction) g)) _ e₃ in
          let (h, e₅) = and_both (clean (writes settings g)) _ e₄ in
          let (_, l) = and_both (clean (kid_acts instruction (pair_acts u) g)) _ e₅ in
          let (a, b) = clean_both own_scope settings_part (sym (ap clean head_so) ∙ clean_append (matched (layouts instruction) g) (writes settings g) ∙ both_and m h) in
          both_and (both_and (e ∙ r) (lt-ltb 0 head (some head q a)))
          (both_and (f.of (settings_fields d) s ∙ sym (clean_all (settings_fields d)) ∙ b) (t ∙ sym (ap clean effect_so) ∙ l))
        where
          some : (k : ℕ) → Quick own_scope 2 k → clean own_scope ≡ true → 0 < k
          some zero w a = absurd (no_quick (w.odd refl) a)
          some (suc k) w a = omega arith

      pub row_odd : (inside && ltb 0 head) && (fits && tail) ≡ false → Quick (instruction_acts u d) 18 0
      row_odd z = quick_odd (instruction_acts u d) 18 (λ c. no_quick z (clean_tested c))

      module _ (z : (inside && ltb 0 head) && (fits && tail) ≡ true) where
        pub record Tested : Type 0 where
          pub stand : (g 10 + g 11) * 2 ≤ length u
          pub small : Small
          pub sound : clean (effect_acts d) ≡ true
          pub some : 0 < head
          pub short : head ≤ 2

        tested_inside : leb (g 10 + g 11) (length u / 2) ≡ true
        tested_inside = let (a, _) = and_both (inside && ltb 0 head) _ z in sym e ∙ (and_both inside _ a).0

        tested_head : 0 < head
        tested_head = let (a, _) = and_both (inside && ltb 0 head) _ z in ltb-true 0 head (and_both inside _ a).1

        tested_fits : fit_all (settings_fields d) ≡ true
        tested_fits = let (_, b) = and_both (inside && ltb 0 head) _ z in sym (f.of (settings_fields d) s) ∙ (and_both fits tail b).0

        pub tested : Tested
        tested =
            let (_, b) = and_both (inside && ltb 0 head) _ z in
            let i = leb-true (g 10 + g 11) (length u / 2) tested_inside in
            let n = (q.to tested_head 0).near in
            record { stand = omega (arith, i); small = small tested_fits; sound = sym t ∙ (and_both fits tail b).1; some = tested_head; short = omega (arith, n) }

        own_clean : clean (matched (layouts instruction) g ++ writes settings g) ≡ true
        own_clean = ap clean head_so ∙ clean_append own_scope settings_part ∙ both_and (quick_passed own_scope q tested_head).0 (clean_all (settings_fields d) ∙ tested_fits)

        own_long : length (bytes (writes settings g)) ≡ head + 3
        own_long =
            let w =
            ap length (sym (after_demands (layouts instruction) g (writes settings g)) ∙ ap bytes head_so ∙ bytes_append own_scope settings_part)
            ∙ length-append (bytes own_scope) (bytes settings_part) in
            omega (arith, w, (quick_passed own_scope q tested_head).1, bytes_long (settings_fields d))

        module _ {k : ℕ} (v : PlainRows (λ j. pair_acts u (g 10 + j)) 1 (g 11) k k) where
          pub row_plain : k ≡ g 11 → {long : ℕ} → (long ≡ length (bytes (effect_acts d))) × (long ≤ 6) → Quick (instruction_acts u d) 18 (head + 3 + g 11 + long)
          row_plain r (x, y) =
              let (c, l) = kids_passed (pair_acts u) (g 10) (g 11) v (omega (arith, r)) in
              let (m, h) = clean_both (matched (layouts instruction) g) (writes settings g) own_clean in
              let w = tested in
              let p = both_and tested_inside (both_and counts_so (both_and h (ap clean effect_so ∙ w.sound))) in
              let n = ap (λ (a : List Act). length (bytes a)) effect_so in
              broken_quick instruction (length u / 2) (pair_acts u) g 18 instruction_passes p m c (omega (arith, own_long, l, r, n, x)) (omega (arith, w.some))
              (omega (arith, w.small.few, w.short, y))

          pub row_odd_kid : (k ≡ g 11 → ⊥) → Quick (instruction_acts u d) 18 0
          row_odd_kid r = let w = v.within in broken_odd_kid instruction (length u / 2) (pair_acts u) g 18 (kids_odd (pair_acts u) (g 10) (g 11) v (omega (arith, r, w)))

    -- ---- the fill pass

    abbrev behind_head : List Act
    behind_head = kid_acts instruction (pair_acts u) g ++ writes effect g

    module _ {n : ℕ} {l : List ℕ} (w : Ready (instruction_acts u d) n l) where
      pub row_ready : Behind
      row_ready = behind (broken_ready instruction (length u / 2) (pair_acts u) g w)

      start : Filling (instruction_acts u d) ((writes (scope types) g ++ settings_part) ++ behind_head) n l n l
      unfolding writes
      start = fill_demand (broken_filling instruction (length u / 2) (pair_acts u) g w)

      scope_so : writes (scope types) g ≡ scope_bytes d.reserved_type d.scope
      scope_so = S.row_bytes_lem types d.reserved_type d.scope (settings_row d ++ effect_row d)

      after_scope : (writes (scope types) g ++ settings_part) ++ behind_head ≡ scope_bytes d.reserved_type d.scope ++ (settings_part ++ behind_head)
      after_scope = append_assoc (writes (scope types) g) settings_part behind_head ∙ ap (λ (a : List Act). a ++ (settings_part ++ behind_head)) scope_so

      pub scope_ready : Ready (scope_bytes d.reserved_type d.scope) n l
      scope_ready = fill_row_lem (scope_bytes d.reserved_type d.scope) (settings_part ++ behind_head) start after_scope

      module _ {n₁ : ℕ} {o₁ : List ℕ} (x : Filled (scope_bytes d.reserved_type d.scope) n l n₁ o₁) {vs : List ℕ} (s : Spelt (settings_fields d) vs) where
        scope_filled : Filling (instruction_acts u d) (settings_part ++ behind_head) n l n₁ o₁
        scope_filled = fill_turn start after_scope (filled_long x) x

        pub settings_ready : ReadyAll true vs n₁ o₁
        settings_ready = ready_part behind_head {there = true} s scope_filled

        module _ {n₂ : ℕ} {o₂ : List ℕ} (y : FillsAll true vs n₁ o₁ n₂ o₂) where
          settings_filled : Filling (instruction_acts u d) behind_head n l n₂ o₂
          settings_filled = fill_part_lem behind_head {there = true} s scope_filled y

          pub ids_ready : Ready (rows (pair_acts u) (g 10) (g 11)) n₂ o₂
          ids_ready = kids_ready instruction (length u / 2) (pair_acts u) g settings_filled

          module _ {n₃ : ℕ} {o₃ : List ℕ} (z : Filled (rows (pair_acts u) (g 10) (g 11)) n₂ o₂ n₃ o₃) where
            ids_filled : Filling (instruction_acts u d) (writes effect g) n l n₃ o₃
            ids_filled = kids_filled instruction (length u / 2) (pair_acts u) g settings_filled z

            pub effect_ready : Ready (effect_acts d) n₃ o₃
            effect_ready = rw effect_so at ids_filled.ready

            pub row_filled : {r : ℕ} {o : List ℕ} → Filled (effect_acts d) n₃ o₃ r o → Filled (instruction_acts u d) n l r o
            row_filled v = fill_last ids_filled (rw effect_so v)

-- ---- a bare row: a plain scope, and no part that may be absent

abbrev type_test : ℕ → ℕ → Bool
type_test rt k = fit (field 6 rt ∷ field 1 k ∷ [])

-- the types without an ID are 0 and 1
plain_kinds : (k : ℕ) → eqb 0 (case_at types k) && ltb k 4 ≡ ltb k 2
unfolding each has
plain_kinds zero = refl
plain_kinds (suc zero) = refl
plain_kinds (suc (suc zero)) = refl
plain_kinds (suc (suc (suc zero))) = refl
plain_kinds (suc (suc (suc (suc k)))) = let j = suc (suc (suc (suc k))) in ap (λ (b : Bool). eqb 0 (case_at types j) && b) (le-ltb j 4 (omega arith)) ∙ and-false (eqb 0 (case_at types j)) ∙ sym (le-ltb j 2 (omega arith))
  where
    and-false : (b : Bool) → b && false ≡ false
    and-false true = refl
    and-false false = refl

type_clean : (rt k : ℕ) → clean (scope_acts types rt (Plain k)) ≡ type_test rt k
unfolding clean fit fit_all
type_clean rt k = ap clean (S.acts_so types rt (Plain k)) ∙ go (ltb rt 64) (ltb k 4) (eqb 0 (case_at types k)) ∙ ap (λ (b : Bool). ltb rt 64 && (b && true)) (plain_kinds k)
  where
    go : (a b c : Bool) → c && (((a && (b && true)) && (true && true)) && ((a && (b && true)) && true)) ≡ a && ((c && b) && true)
    go true true true = refl
    go true false true = refl
    go false b true = refl
    go true b false = refl
    go false b false = refl

type_long : (rt k : ℕ) → length (bytes (scope_acts types rt (Plain k))) ≡ 1
unfolding bytes
type_long rt k = ap (λ (q : List Act). length (bytes q)) (S.acts_so types rt (Plain k))

type_quick : (rt k : ℕ) (f : Bool) → f ≡ type_test rt k → Quick (scope_acts types rt (Plain k)) 2 (pick f 1 0)
type_quick rt k true e = quick_clean (scope_acts types rt (Plain k)) 2 (type_clean rt k ∙ sym e) (type_long rt k) (omega arith) (omega arith)
type_quick rt k false e = quick_odd (scope_acts types rt (Plain k)) 2 (λ z. no_quick (sym e) (sym (type_clean rt k) ∙ z))

same_test : (a t f : Bool) → (a && ltb 0 (pick t 1 0)) && (f && true) ≡ (a && t) && f
same_test true true true = refl
same_test true true false = refl
same_test true false f = refl
same_test false t f = refl

module _ (t : List ℕ) (b : ℕ) (u : List ℕ) (p : bare_at t b ≡ true) where
  abbrev D : DrcInstructions
  D = instruction_of t b

  abbrev rt : ℕ
  rt = get_or t b 0

  abbrev kind : ℕ
  kind = get_or t (b + 2) 0

  abbrev word : List (List Field)
  word = effect_fields (get_or t (b + 12) 0)

  scope_bare : D.scope ≡ Plain kind
  scope_bare =
      let (x, _) = and_both (eqb (get_or t (b + 1) 0) 0 && eqb (get_or t (b + 11) 0) 0) _ p in
      let (s, _) = and_both (eqb (get_or t (b + 1) 0) 0) _ x in
      let j : b + 1 + 1 ≡ b + 2 = omega arith in
      rw (s, j)

  no_ids : get_or t (b + 11) 0 ≡ 0
  no_ids =
      let (x, _) = and_both (eqb (get_or t (b + 1) 0) 0 && eqb (get_or t (b + 11) 0) 0) _ p in
      let (_, c) = and_both (eqb (get_or t (b + 1) 0) 0) _ x in
      eqb-true (get_or t (b + 11) 0) 0 c

  effect_bare : effect_acts D ≡ map byte word
  effect_bare =
      let (_, y) = and_both (eqb (get_or t (b + 1) 0) 0 && eqb (get_or t (b + 11) 0) 0) _ p in
      let (l, g) = and_both (eqb (get_or t (b + 13) 0) 0) _ y in
      let e₁ = eqb-true (get_or t (b + 13) 0) 0 l in
      let e₂ = eqb-true (get_or t (b + 15) 0) 0 g in
      rw (e₁, e₂)

  -- the quick test
  module _ {d : DrcInstructions} (q : d ≡ D) {inside typed fits : Bool} {vs : List ℕ} (e : inside ≡ leb (d.additional_downmix_ids.first + d.additional_downmix_ids.count) (length u / 2)) (h : typed ≡ type_test rt kind) (s : Spelt (settings_fields d) vs) (f : FitsAll vs fits) (o : d.drc_set_effect < 65536) where
    head_quick : Quick (own_scope D) 2 (pick typed 1 0)
    head_quick = subst (λ (z : DrcScope). Quick (scope_acts types rt z) 2 (pick typed 1 0)) (sym scope_bare) (type_quick rt kind typed h)

    tail_clean : true ≡ clean (effect_acts D)
    tail_clean = sym (ap clean effect_bare ∙ clean_all word ∙ word_fits D (rw q at o))

    own_inside : inside ≡ leb (get_or t (b + 10) 0 + get_or t (b + 11) 0) (length u / 2)
    own_inside = rw q at e

    own_spelt : Spelt (settings_fields D) vs
    own_spelt = subst (λ (z : DrcInstructions). Spelt (settings_fields z) vs) q s

    pub bare_plain : (inside && typed) && fits ≡ true → Quick (instruction_acts u D) 18 6
    bare_plain z =
        let (y, _) = and_both (inside && typed) _ z in
        let one = ap {B = ℕ} (λ (c : Bool). pick c 1 0) (and_both inside typed y).1 in
        let long : length (bytes (effect_acts D)) ≡ 2 = ap (λ (a : List Act). length (bytes a)) effect_bare ∙ bytes_long word in
        let six : pick typed 1 0 + 3 + get_or t (b + 11) 0 + 2 ≡ 6 = omega (arith, one, no_ids) in
        let v = going_end (going_start (λ j. pair_acts u (get_or t (b + 10) 0 + j)) 1 (get_or t (b + 11) 0)) (omega (arith, no_ids)) in
        subst (λ (k : ℕ). Quick (instruction_acts u D) 18 k) six
        (row_plain D u own_inside head_quick own_spelt f tail_clean (same_test inside typed fits ∙ z) v (sym no_ids) (sym long, omega arith))

    pub bare_odd : (inside && typed) && fits ≡ false → Quick (instruction_acts u D) 18 0
    bare_odd z = row_odd D u own_inside head_quick own_spelt f tail_clean (same_test inside typed fits ∙ z)

  -- the fill pass: the type byte, the settings, and the word
  module _ {n : ℕ} {l : List ℕ} (w : Ready (instruction_acts u D) n l) {v : ℕ} (y : Spells (field 6 rt ∷ field 2 kind ∷ []) v) where
    type_so : scope_bytes rt D.scope ≡ map byte ((field 6 rt ∷ field 2 kind ∷ []) ∷ [])
    type_so = ap (scope_bytes rt) scope_bare ∙ S.bytes_so rt (Plain kind)

    type_here : Ready (map byte ((field 6 rt ∷ field 2 kind ∷ []) ∷ [])) n l
    type_here = subst (λ (a : List Act). Ready a n l) type_so (scope_ready D u w)

    pub bare_type_ready : ReadyAll true (v ∷ []) n l
    bare_type_ready = record { fss = (field 6 rt ∷ field 2 kind ∷ []) ∷ []; spelt = more y none; ready = type_here }

    module _ {n₁ : ℕ} {o₁ : List ℕ} (x : FillsAll true (v ∷ []) n l n₁ o₁) {d : DrcInstructions} (q : d ≡ D) {vs : List ℕ} (s : Spelt (settings_fields d) vs) where
      type_filled : Filled (scope_bytes rt D.scope) n l n₁ o₁
      type_filled = subst (λ (a : List Act). Filled a n l n₁ o₁) (sym type_so) (x.of ((field 6 rt ∷ field 2 kind ∷ []) ∷ []) (more y none) type_here.sound)

      bare_spelt : Spelt (settings_fields D) vs
      bare_spelt = subst (λ (z : DrcInstructions). Spelt (settings_fields z) vs) q s

      pub bare_settings_ready : ReadyAll true vs n₁ o₁
      bare_settings_ready = settings_ready D u w type_filled bare_spelt

      module _ {n₂ : ℕ} {o₂ : List ℕ} (z : FillsAll true vs n₁ o₁ n₂ o₂) {ws : List ℕ} (r : Spelt (effect_fields d.drc_set_effect) ws) where
        ids_none : Filled (rows (pair_acts u) (get_or t (b + 10) 0) (get_or t (b + 11) 0)) n₂ o₂ n₂ o₂
        unfolding rows each flatten
        ids_none = subst (λ (c : ℕ). Filled (rows (pair_acts u) (get_or t (b + 10) 0) c) n₂ o₂ n₂ o₂) (sym no_ids) (fill_none n₂ o₂)

        word_spelt : Spelt word ws
        word_spelt = subst (λ (z : DrcInstructions). Spelt (effect_fields z.drc_set_effect) ws) q r

        word_here : Ready (map byte word) n₂ o₂
        word_here = subst (λ (a : List Act). Ready a n₂ o₂) effect_bare (effect_ready D u w type_filled bare_spelt z ids_none)

        pub bare_word_ready : ReadyAll true ws n₂ o₂
        bare_word_ready = record { fss = word; spelt = word_spelt; ready = word_here }

        pub bare_filled : {m : ℕ} {o : List ℕ} → FillsAll true ws n₂ o₂ m o → Filled (instruction_acts u D) n l m o
        bare_filled {m} {o} k =
            row_filled D u w type_filled bare_spelt z ids_none (subst (λ (a : List Act). Filled a n₂ o₂ m o) (sym effect_bare) (k.of word word_spelt word_here.sound))
