-- Filling the tables of a body whose sections were found: what the functions that fill ask for, and that they leave the rows of the tree.
use Prim.Native.Nat.{ℕ, ◌*◌, ◌≤◌, ◌<◌, ◌^◌}
use mathlib.Core.Path.{◌≡◌, ap, ◌∙◌}
use mathlib.Core.List.{List, [], ◌∷◌, ◌++◌, flatten, flat_map}
use mathlib.Core.Bool.{true}
use native.Mathlib.Omega.{arith}
use lib.ListN.{length, drop}
use lib.Seq.{sets}
use Rattle.wire.specs.Lists.{Every, all_nil, all_cons, sum}
use Rattle.wire.specs.Prog.{run, many}
use Rattle.wire.specs.Reads.{rows_of, is_done}
use Rattle.wire.specs.Nest.{Fillable, Nests}
use Rattle.wire.specs.Layout.{flat, kids, broken_row}
use Rattle.wire.proofs.Layouts.Families.{kids_summed}
use Rattle.wire.proofs.Layouts.Rowed.{Wide, parents_long}
use Rattle.wire.proofs.Layouts.Fronts.{flat_front, Both, both}
use Rattle.frame.specs.Body.{tables}
use Rattle.frame.specs.Entry.{needs, room, first_table, other_tables, filled}
use Rattle.frame.specs.Sight.{Roomy, Fills}
use Rattle.frame.proofs.Entries.{room_walked, fills_walked}
use Rattle.frame.proofs.Lawful.{Shaped}
use Rattle.frame.proofs.MoreRoom.{none_fit, fit_head, shapes}
use Rattle.scene_groups.specs.Layout.{group}
use Rattle.switch_groups.specs.Layout.{switch_group, switch_group_list}
use Rattle.presets.specs.Layout.{preset, presets}
use Rattle.scene.specs.declared.parsing.Places.{Places}
use Rattle.scene_kind.specs.Kind.{kind}
use Rattle.scene.specs.Walk.{Flags, rows_at, count_at, groups_flag, switches_flag, presets_flag, Found, tree}
use Rattle.scene_kind.proofs.Lawful.{switch_rows, preset_rows, lawful}
use Rattle.scene.proofs.Walked.{found_reads}
use Rattle.scene.proofs.Found.{groups_stand, switches_stand, presets_stand, groups_counted, switches_counted, presets_counted, at_presets, at_switches}

-- ---- the room of all tables

module _ {s : List ℕ} {p : Places} (f : Found s p) (short : length s < 65536) (t₁ t₂ t₃ t₄ t₅ : List ℕ) (r : Roomy kind s (t₁ ∷ t₂ ∷ t₃ ∷ t₄ ∷ t₅ ∷ [])) where
  record Space : Type 0 where
    groups : length f.in_groups.rows * 27 ≤ length t₁
    switches : length f.in_switches.rows * 9 ≤ length t₂
    members : length (kids f.in_switches.rows) * 2 ≤ length t₃
    presets : length f.in_presets.rows * 7 ≤ length t₄
    conditions : length (kids f.in_presets.rows) * 13 ≤ length t₅

  space : Space
  unfolding needs kind tables room first_table other_tables
  space =
      let h₁ = fit_head (none_fit (needs (kind.tables (tree f))) (t₁ ∷ t₂ ∷ t₃ ∷ t₄ ∷ t₅ ∷ []) (room_walked kind s short (found_reads s p f) r)) in
      let h₂ = fit_head h₁.1 in
      let h₃ = fit_head h₂.1 in
      let h₄ = fit_head h₃.1 in
      let h₅ = fit_head h₄.1 in
      record {
        groups = omega (arith, h₁.0);
        switches = omega (arith, h₂.0, parents_long switch_rows f.in_switches.rows);
        members = omega (arith, h₃.0);
        presets = omega (arith, h₄.0, parents_long preset_rows f.in_presets.rows);
        conditions = omega (arith, h₅.0);
      }

  -- what is asked for before each section is stored, with the flags as code has them
  pub groups_ask : {g : ℕ} → g ≡ groups_flag s
      → (rows_at g 2 ≤ length s) × (is_done (run (many (count_at 7 s g 2) (flat 27 group)) s (rows_at g 2)) ≡ true) × (27 * count_at 7 s g 2 ≤ length t₁) × (2 < 2 ^ 32)
  groups_ask e = let w = groups_stand f in rw e (w.there_is, ap is_done w.reads, omega (arith, space.groups, groups_counted f), omega arith)

  pub switches_ask : {t : ℕ} → t ≡ switches_flag s
      → Fillable (many (count_at 5 s t p.switch_groups) switch_group_list) 2 (sum (λ x. length x.1)) s (rows_at t p.switch_groups) 0 t₃ × Unit {0} × (9 * count_at 5 s t p.switch_groups ≤ length t₂) × (p.switch_groups < 2 ^ 32)
  switches_ask e =
      let w = switches_stand f in
      rw (e, kids_summed)
      (record { value = f.in_switches.rows; end = p.presets; reads = w.reads; begun = w.there_is; all = short; before = omega arith; room = omega (arith, space.members) }, tt, omega (arith, space.switches, switches_counted f), omega (arith, at_switches f, short))

  pub presets_ask : {q : ℕ} → q ≡ presets_flag s
      → Fillable (many (count_at 5 s q p.presets) presets) 13 (sum (λ x. length x.1)) s (rows_at q p.presets) 0 t₅ × Unit {0} × (7 * count_at 5 s q p.presets ≤ length t₄) × (p.presets < 2 ^ 32)
  presets_ask e =
      let w = presets_stand f in
      rw (e, kids_summed)
      (record { value = f.in_presets.rows; end = p.k; reads = w.reads; begun = w.there_is; all = short; before = omega arith; room = omega (arith, space.conditions) }, tt, omega (arith, space.presets, presets_counted f), omega (arith, at_presets f, short))

  -- ---- and what they leave

  -- every row is as wide as its table
  record Widths : Type 0 where
    groups : Every (Wide 27) f.in_groups.rows
    members : Every (Wide 2) (kids f.in_switches.rows)
    conditions : Every (Wide 13) (kids f.in_presets.rows)

  wide : Widths
  unfolding kind tables
  wide = go (shapes kind lawful s (found_reads s p f))
    where
      go : Every Shaped (kind.tables (tree f)) → Widths
      go (all_cons a (all_cons _ (all_cons b (all_cons _ (all_cons c all_nil))))) = record { groups = a; members = b; conditions = c }

  groups_stored : {g : ℕ} {t' : List ℕ} → g ≡ groups_flag s → t' ≡ sets t₁ 0 (flat_map (λ r. r) (rows_of (run (many (count_at 7 s g 2) (flat 27 group)) s (rows_at g 2))))
      → t' ≡ flatten f.in_groups.rows ++ drop (length (flatten f.in_groups.rows)) t₁
  groups_stored e q =
      flat_front 27 f.in_groups.rows t₁ (q ∙ (λ i. sets t₁ 0 (flat_map (λ r. r) (rows_of (run (many (count_at 7 s (e i) 2) (flat 27 group)) s (rows_at (e i) 2))))))
      (groups_stand f).reads wide.groups space.groups

  switches_stored : {t : ℕ} {t' u' : List ℕ} → t ≡ switches_flag s
      → Nests switch_group_list (λ x. length x.1) (λ n x. broken_row switch_group (n, x)) (λ x. flatten x.1) s (rows_at t p.switch_groups) (count_at 5 s t p.switch_groups) t₂ t₃ t' u'
      → Both switch_group f.in_switches.rows t₂ t₃ t' u'
  switches_stored e v =
      both switch_rows switch_group_list {end = p.presets} f.in_switches.rows t₂ t₃ v (rw e (switches_stand f).reads) wide.members space.switches space.members

  presets_stored : {q : ℕ} {t' u' : List ℕ} → q ≡ presets_flag s
      → Nests presets (λ x. length x.1) (λ n x. broken_row preset (n, x)) (λ x. flatten x.1) s (rows_at q p.presets) (count_at 5 s q p.presets) t₄ t₅ t' u'
      → Both preset f.in_presets.rows t₄ t₅ t' u'
  presets_stored e v = both preset_rows presets {end = p.k} f.in_presets.rows t₄ t₅ v (rw e (presets_stand f).reads) wide.conditions space.presets space.conditions

-- all five tables
pub stored : {s : List ℕ} {p : Places} → Found s p → length s < 65536 → (t₁ t₂ t₃ t₄ t₅ : List ℕ) {u₁ u₂ u₃ u₄ u₅ : List ℕ} {g t q : ℕ} → Flags s g t q
    → Roomy kind s (t₁ ∷ t₂ ∷ t₃ ∷ t₄ ∷ t₅ ∷ [])
    → u₁ ≡ sets t₁ 0 (flat_map (λ r. r) (rows_of (run (many (count_at 7 s g 2) (flat 27 group)) s (rows_at g 2))))
    → Nests switch_group_list (λ x. length x.1) (λ n x. broken_row switch_group (n, x)) (λ x. flatten x.1) s (rows_at t p.switch_groups)
    (count_at 5 s t p.switch_groups) t₂ t₃ u₂ u₃
    → Nests presets (λ x. length x.1) (λ n x. broken_row preset (n, x)) (λ x. flatten x.1) s (rows_at q p.presets) (count_at 5 s q p.presets) t₄ t₅ u₄ u₅
    → Fills kind s (t₁ ∷ t₂ ∷ t₃ ∷ t₄ ∷ t₅ ∷ []) (u₁ ∷ u₂ ∷ u₃ ∷ u₄ ∷ u₅ ∷ [])
unfolding filled kind tables first_table other_tables
stored {s} {p} f h t₁ t₂ t₃ t₄ t₅ w r a b c =
    let x = groups_stored f h t₁ t₂ t₃ t₄ t₅ r w.of_groups a in
    let y = switches_stored f h t₁ t₂ t₃ t₄ t₅ r w.of_switches b in
    let z = presets_stored f h t₁ t₂ t₃ t₄ t₅ r w.of_presets c in
    fills_walked kind s h (found_reads s p f) (λ i. x i ∷ y.outer i ∷ y.inner i ∷ z.outer i ∷ z.inner i ∷ [])
