-- `scene_writing::writing::fill_fields` meets its contract: the two bytes, and section after section.
use Prim.Native.Nat.{ℕ}
use mathlib.Core.List.{List, [], ◌∷◌, ◌++◌, map}
use mathlib.Core.Bool.{true}
use mathlib.Core.Path.{refl}
use native.Mathlib.Omega.{arith}
use Rattle.wire.specs.Act.{byte, when}
use Rattle.wire.specs.Pen.{Ready, Filled}
use Rattle.wire.specs.Spell.{Spelt, FillsAll}
use Rattle.wire.proofs.Writing.Passes.{Filling, fill_start, fill_demand, fill_row_lem, fill_turn, fill_last, demanded}
use Rattle.wire.proofs.Writing.Plain.{ready_part, fill_part_lem, filled_long}
use Rattle.frame.specs.Entry.{first_table, other_tables}
use Rattle.frame.specs.Kind.{Lent}
use Rattle.scene_kind.specs.declared.rows.MpegH3dAudioScene.{MpegH3dAudioScene}
use Rattle.scene_writing.specs.Write.{head_bytes, group_acts, switch_acts, preset_acts, groups_acts, switch_groups_acts, presets_acts, scene_acts}
use Rattle.scene_writing.proofs.Writes.{insides}
use Rattle.scene_writing.proofs.writing.fill_fields.Goals as goal

-- what is left to store, section after section
module _ (m : MpegH3dAudioScene) (lent : Lent) {l : List ℕ} (x : Ready (scene_acts m lent) 0 l) where
  begun : Filling (scene_acts m lent) (when true (map byte (head_bytes m)) ++ (groups_acts m (group_acts lent) ++ (switch_groups_acts m (switch_acts lent) ++ presets_acts m (preset_acts lent)))) 0 l 0 l
  unfolding scene_acts
  begun = fill_demand (fill_demand (fill_demand (fill_start x)))

  module _ {vs : List ℕ} {n₁ : ℕ} {o₁ : List ℕ} (s : Spelt (head_bytes m) vs) (w₁ : FillsAll true vs 0 l n₁ o₁) where
    behind_head : Filling (scene_acts m lent) (groups_acts m (group_acts lent) ++ (switch_groups_acts m (switch_acts lent) ++ presets_acts m (preset_acts lent))) 0 l n₁ o₁
    behind_head = fill_part_lem _ s begun w₁

    module _ {n₂ : ℕ} {o₂ : List ℕ} (w₂ : Filled (groups_acts m (group_acts lent)) n₁ o₁ n₂ o₂) where
      behind_groups : Filling (scene_acts m lent) (switch_groups_acts m (switch_acts lent) ++ presets_acts m (preset_acts lent)) 0 l n₂ o₂
      behind_groups = fill_turn behind_head refl (filled_long w₂) w₂

      behind_switches : {n₃ : ℕ} {o₃ : List ℕ} → Filled (switch_groups_acts m (switch_acts lent)) n₂ o₂ n₃ o₃ → Filling (scene_acts m lent) (presets_acts m (preset_acts lent)) 0 l n₃ o₃
      behind_switches w₃ = fill_turn behind_groups refl (filled_long w₃) w₃

pub fill_all-n1-requires : goal.fill_all-n1-requires
unfolding first_table other_tables
fill_all-n1-requires c =
    let lent = (c.args.groups.now ∷ c.args.switch_groups.now ∷ c.args.members.now ∷ c.args.presets.now ∷ c.args.conditions.now ∷ []) in
    ready_part _ c.head_bytes.ensures (begun c.args.m lent c.requires)

pub fill_section-n2-requires : goal.fill_section-n2-requires
unfolding scene_acts first_table other_tables
fill_section-n2-requires c =
    let lent = (c.args.groups.now ∷ c.args.switch_groups.now ∷ c.args.members.now ∷ c.args.presets.now ∷ c.args.conditions.now ∷ []) in
    let left = behind_head c.args.m lent c.requires c.head_bytes.ensures c.fill_all-n1.ensures in
    ((insides c.args.m _ _ _ (demanded c.requires)).groups, tt, omega arith, omega arith, fill_row_lem (groups_acts c.args.m (group_acts lent)) _ left refl)

pub fill_section-n3-requires : goal.fill_section-n3-requires
unfolding scene_acts first_table other_tables
fill_section-n3-requires c =
    let lent = (c.args.groups.now ∷ c.args.switch_groups.now ∷ c.args.members.now ∷ c.args.presets.now ∷ c.args.conditions.now ∷ []) in
    let left = behind_groups c.args.m lent c.requires c.head_bytes.ensures c.fill_all-n1.ensures c.fill_section-n2.ensures in
    ((insides c.args.m _ _ _ (demanded c.requires)).switches, tt, omega arith, omega arith, fill_row_lem (switch_groups_acts c.args.m (switch_acts lent)) _ left refl)

pub fill_section-requires : goal.fill_section-requires
unfolding scene_acts first_table other_tables
fill_section-requires c =
    let lent = (c.args.groups.now ∷ c.args.switch_groups.now ∷ c.args.members.now ∷ c.args.presets.now ∷ c.args.conditions.now ∷ []) in
    let left = behind_switches c.args.m lent c.requires c.head_bytes.ensures c.fill_all-n1.ensures c.fill_section-n2.ensures c.fill_section-n3.ensures in
    ((insides c.args.m _ _ _ (demanded c.requires)).presets, tt, omega arith, omega arith, left.ready)

pub returns : goal.returns
unfolding first_table other_tables
returns c =
    let lent = (c.args.groups.now ∷ c.args.switch_groups.now ∷ c.args.members.now ∷ c.args.presets.now ∷ c.args.conditions.now ∷ []) in
    fill_last (behind_switches c.args.m lent c.requires c.head_bytes.ensures c.fill_all-n1.ensures c.fill_section-n2.ensures c.fill_section-n3.ensures) c.fill_section.ensures
