-- Of a body whose sections were found: where its rows stand, its sizes and its record.
use Prim.Native.Nat.{ℕ, ◌≤◌, ◌<◌}
use mathlib.Core.Path.{◌≡◌, sym, ap, ◌∙◌}
use mathlib.Core.List.{List}
use lib.ListN.{length, get_or}
use Rattle.wire.specs.Lists.{each}
use Rattle.wire.specs.Bits.{part}
use Rattle.wire.specs.Layout.{flat}
use Rattle.wire.proofs.Reading.Walk.{ends}
use Rattle.wire.proofs.Reading.Loops.{many_long}
use Rattle.wire.proofs.Layouts.Rowed.{parents_long}
use Rattle.frame.specs.Body.{with_place, tables}
use Rattle.frame.specs.Numbers.{accepted}
use Rattle.frame.specs.Entry.{needs, sizes, tail, Measures}
use Rattle.frame.specs.Sight.{Tops}
use Rattle.frame.proofs.Entries.{measures_walked, tops_walked}
use Rattle.scene_groups.specs.Layout.{group}
use Rattle.switch_groups.specs.Layout.{switch_group_list}
use Rattle.presets.specs.Layout.{presets}
use Rattle.scene.specs.declared.parsing.Places.{Places}
use Rattle.scene.specs.declared.Sizes.{Sizes as CodeSizes}
use Rattle.scene_kind.specs.declared.rows.MpegH3dAudioScene.{MpegH3dAudioScene}
use Rattle.scene_kind.specs.Rows.{section, needed}
use Rattle.scene_kind.specs.Read.{all}
use Rattle.scene_kind.specs.Kind.{kind}
use Rattle.scene.specs.Contract.{sized}
use Rattle.scene.specs.Walk.{Flags, rows_at, count_at, reserved_at, groups_flag, switches_flag, presets_flag, Found, tree}
use Rattle.scene_kind.proofs.Lawful.{switch_rows, preset_rows}
use Rattle.scene.proofs.Sections.{Stands, stands}
use Rattle.scene.proofs.Walked.{found_reads}

module _ {s : List ℕ} {p : Places} (f : Found s p) where
  -- each section begins in the body
  pub at_switches : p.switch_groups ≤ length s
  at_switches = ends _ s 2 f.head (sym f.groups_read)

  pub at_presets : p.presets ≤ length s
  at_presets = ends _ s p.switch_groups at_switches (sym f.switches_read)

  pub at_end : p.k ≤ length s
  at_end = ends _ s p.presets at_presets (sym f.presets_read)

  -- and stands where its byte says
  pub groups_stand : Stands (flat 27 group) 1 7 1 s (groups_flag s) 2 f.in_groups p.switch_groups
  groups_stand = stands (flat 27 group) 1 7 1 s (groups_flag s) 2 f.head f.groups_read

  pub switches_stand : Stands switch_group_list 3 5 7 s (switches_flag s) p.switch_groups f.in_switches p.presets
  switches_stand = stands switch_group_list 3 5 7 s (switches_flag s) p.switch_groups at_switches f.switches_read

  pub presets_stand : Stands presets 3 5 7 s (presets_flag s) p.presets f.in_presets p.k
  presets_stand = stands presets 3 5 7 s (presets_flag s) p.presets at_presets f.presets_read

  -- how many rows each has
  pub groups_counted : count_at 7 s (groups_flag s) 2 ≡ length f.in_groups.rows
  groups_counted = sym (many_long (flat 27 group) s _ _ _ _ groups_stand.reads)

  pub switches_counted : count_at 5 s (switches_flag s) p.switch_groups ≡ length f.in_switches.rows
  switches_counted = sym (many_long switch_group_list s _ _ _ _ switches_stand.reads)

  pub presets_counted : count_at 5 s (presets_flag s) p.presets ≡ length f.in_presets.rows
  presets_counted = sym (many_long presets s _ _ _ _ presets_stand.reads)

  pub needs_found : needed (count_at 7 s (groups_flag s) 2) (count_at 5 s (switches_flag s) p.switch_groups) p.members (count_at 5 s (presets_flag s) p.presets) p.conditions ≡ needs (kind.tables (tree f))
  unfolding needs kind tables
  needs_found = λ i.
      needed (groups_counted i) ((switches_counted ∙ sym (parents_long switch_rows f.in_switches.rows)) i) (f.members_are i)
      ((presets_counted ∙ sym (parents_long preset_rows f.in_presets.rows)) i) (f.conditions_are i)

-- ---- the record and the sizes, from the bytes

-- flags as code has them
pub flags_so : {s : List ℕ} {v g t q : ℕ} → v ≡ get_or s 0 0 → g ≡ part 7 1 v → t ≡ part 6 1 v → q ≡ part 5 1 v → Flags s g t q
flags_so e a b c = record { of_groups = a ∙ ap (part 7 1) e; of_switches = b ∙ ap (part 6 1) e; of_presets = c ∙ ap (part 5 1) e }

module _ {s : List ℕ} {p : Places} (f : Found s p) where
  pub groups_there : {g : ℕ} → g ≡ groups_flag s → rows_at g 2 ≤ length s
  groups_there e = rw e (groups_stand f).there_is

  pub switches_there : {t : ℕ} → t ≡ switches_flag s → rows_at t p.switch_groups ≤ length s
  switches_there e = rw e (switches_stand f).there_is

  pub presets_there : {q : ℕ} → q ≡ presets_flag s → rows_at q p.presets ≤ length s
  presets_there e = rw e (presets_stand f).there_is

module _ {s : List ℕ} {p : Places} (f : Found s p) (h : length s < 65536) {g t q : ℕ} (w : Flags s g t q) where
  pub counted : {r : CodeSizes} → r.groups ≡ count_at 7 s g 2 → r.switch_groups ≡ count_at 5 s t p.switch_groups → r.members ≡ p.members
      → r.presets ≡ count_at 5 s q p.presets → r.conditions ≡ p.conditions → r.k ≡ p.k → Measures kind s (accepted (sized r))
  unfolding sizes
  counted {r} a b c d e k =
      measures_walked kind s h (found_reads s p f)
      ((λ i. record { tables = needed ((a ∙ ap (λ (g : ℕ). count_at 7 s g 2) w.of_groups) i) ((b ∙ ap (λ (t : ℕ). count_at 5 s t p.switch_groups) w.of_switches) i) (c i) ((d ∙ ap (λ (q : ℕ). count_at 5 s q p.presets) w.of_presets) i) (e i); before = k i })
      ∙ (λ i. record { tables = needs_found f i; before = p.k }))

  pub recorded : {r : MpegH3dAudioScene} → r.reserved_flags ≡ part 0 5 (get_or s 0 0) → r.scene_info_id ≡ all (get_or s 1 0)
      → r.groups ≡ section g (count_at 7 s g 2) → r.reserved_switch_groups ≡ reserved_at 3 5 7 s t p.switch_groups → r.switch_groups ≡ section t (count_at 5 s t p.switch_groups)
      → r.reserved_presets ≡ reserved_at 3 5 7 s q p.presets → r.presets ≡ section q (count_at 5 s q p.presets) → r.reserved_groups ≡ reserved_at 1 7 1 s g 2 → r.trailing ≡ tail p.k s → Tops kind s r
  unfolding kind with_place each
  recorded {r} a b c d e o j k l =
      let x = (groups_stand f).is in
      let y = (switches_stand f).is in
      let z = (presets_stand f).is in
      tops_walked kind s h (found_reads s p f) (λ i. record {
        reserved_flags = a i;
        scene_info_id = b i;
        groups = (c ∙ (λ i. section (w.of_groups i) (count_at 7 s (w.of_groups i) 2)) ∙ (λ i. section (groups_flag s) (sym x i).count)) i;
        reserved_switch_groups = (d ∙ (λ i. reserved_at 3 5 7 s (w.of_switches i) p.switch_groups) ∙ (λ i. (sym y i).reserved)) i;
        switch_groups = (e ∙ (λ i. section (w.of_switches i) (count_at 5 s (w.of_switches i) p.switch_groups)) ∙ (λ i. section (switches_flag s) (sym y i).count)) i;
        reserved_presets = (o ∙ (λ i. reserved_at 3 5 7 s (w.of_presets i) p.presets) ∙ (λ i. (sym z i).reserved)) i;
        presets = (j ∙ (λ i. section (w.of_presets i) (count_at 5 s (w.of_presets i) p.presets)) ∙ (λ i. section (presets_flag s) (sym z i).count)) i;
        reserved_groups = (k ∙ (λ i. reserved_at 1 7 1 s (w.of_groups i) 2) ∙ (λ i. (sym x i).reserved)) i;
        trailing = l i;
      })
