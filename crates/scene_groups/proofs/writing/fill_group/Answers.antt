-- `fill_group` stores the three bytes and those of each part that is there.
use Prim.Native.Nat.{ℕ}
use mathlib.Core.List.{List, [], ◌++◌, map}
use mathlib.Core.Bool.{true}
use mathlib.Core.Path.{refl}
use Rattle.wire.specs.Act.{byte}
use Rattle.wire.specs.Pen.{Ready, Filled}
use Rattle.wire.specs.Spell.{Spelt, FillsAll}
use Rattle.wire.proofs.Writing.Passes.{Filling, fill_start, fill_demand, fill_row_lem, fill_turn, fill_end}
use Rattle.wire.proofs.Writing.Plain.{ready_part, fill_part_lem, filled_long}
use Rattle.scene_groups.specs.Rows.{group_cols, group_of}
use Rattle.scene_groups.specs.Write.{head_fields, position_part, gain_part, language_part, group_acts}
use Rattle.scene_groups.specs.declared.rows.SceneGroup.{SceneGroup}
use Rattle.scene_groups.proofs.Writes.{group_acts_lem, plain_acts, part_acts, gain_acts, language_acts}
use Rattle.scene_groups.proofs.writing.fill_group.Goals as goal

-- what is left to store, byte for byte and part for part
module _ (g : SceneGroup) {n : ℕ} {o : List ℕ} (x : Ready (group_acts g) n o) where
  begun : Filling (plain_acts (group_cols g)) (map byte (head_fields g) ++ part_acts (group_cols g)) n o n o
  begun = fill_demand (fill_demand (fill_start (rw (group_acts_lem (group_cols g)) at x)))

  module _ {vs : List ℕ} {n₁ : ℕ} {o₁ : List ℕ} (s : Spelt (head_fields g) vs) (w₁ : FillsAll true vs n o n₁ o₁) where
    behind_head : Filling (plain_acts (group_cols g)) (part_acts (group_cols g)) n o n₁ o₁
    behind_head = fill_part_lem _ s begun w₁

    module _ {n₂ : ℕ} {o₂ : List ℕ} (w₂ : Filled (position_part g.position) n₁ o₁ n₂ o₂) where
      behind_position : Filling (plain_acts (group_cols g)) (gain_acts (group_cols g)) n o n₂ o₂
      behind_position = fill_turn behind_head refl (filled_long w₂) w₂

      behind_gain : {n₃ : ℕ} {o₃ : List ℕ} → Filled (gain_part g.gain) n₂ o₂ n₃ o₃ → Filling (plain_acts (group_cols g)) (language_acts (group_cols g)) n o n₃ o₃
      behind_gain w₃ = fill_turn behind_position refl (filled_long w₃) w₃

pub fill_all-n1-requires : goal.fill_all-n1-requires
fill_all-n1-requires c = ready_part _ c.head_bytes.ensures (begun (group_of c.args.groups.now c.args.b) c.requires.1)

pub fill_position-n2-requires : goal.fill_position-n2-requires
fill_position-n2-requires c =
    let g = group_of c.args.groups.now c.args.b in
    (c.requires.0, fill_row_lem (position_part g.position) (gain_acts (group_cols g)) (behind_head g c.requires.1 c.head_bytes.ensures c.fill_all-n1.ensures) refl)

pub fill_gain-n3-requires : goal.fill_gain-n3-requires
fill_gain-n3-requires c =
    let g = group_of c.args.groups.now c.args.b in
    (c.requires.0, fill_row_lem (gain_part g.gain) (language_acts (group_cols g)) (behind_position g c.requires.1 c.head_bytes.ensures c.fill_all-n1.ensures c.fill_position-n2.ensures) refl)

pub fill_language-requires : goal.fill_language-requires
fill_language-requires c =
    let g = group_of c.args.groups.now c.args.b in
    let left = behind_gain g c.requires.1 c.head_bytes.ensures c.fill_all-n1.ensures c.fill_position-n2.ensures c.fill_gain-n3.ensures in
    (c.requires.0, fill_row_lem (language_part g.content_language) [] left refl)

pub returns : goal.returns
returns c =
    let g = group_of c.args.groups.now c.args.b in
    let left = behind_gain g c.requires.1 c.head_bytes.ensures c.fill_all-n1.ensures c.fill_position-n2.ensures c.fill_gain-n3.ensures in
    let w = c.fill_language.ensures in
    rw (group_acts_lem (group_cols g)) (fill_end (fill_turn left refl (filled_long w) w) refl)
