-- `check_group` demands the flags at the start of the row, then each byte at its place.
use Prim.Native.Nat.{ℕ}
use mathlib.Core.List.{List, [], ◌∷◌, map, append-nil}
use mathlib.Core.Bool.{Bool, true}
use mathlib.Core.Path.{◌≡◌}
use native.Mathlib.Omega.{arith}
use lib.Dec.{eqb}
use Rattle.wire.specs.Act.{Act, demand, byte, when}
use Rattle.wire.specs.Pen.{Pen, At, Checked}
use Rattle.wire.specs.Spell.{Spelt, ChecksAll}
use Rattle.wire.specs.declared.pen.Fault.TheVariants as F
use Rattle.wire.proofs.Writing.Passes.{then}
use Rattle.wire.proofs.Writing.Plain.{met, all_checked}
use Rattle.scene_groups.specs.Rows.{group_cols, group_of}
use Rattle.scene_groups.specs.Write.{head_fields, position_fields, gain_fields, language_fields, group_flags, group_acts}
use Rattle.scene_groups.specs.declared.rows.SceneGroup.{SceneGroup}
use Rattle.scene_groups.proofs.Writes.{group_acts_lem}
use borrow.Author.Rules.{rules}
use Rattle.scene_groups.proofs.writing.check_group.Goals as goal

abbrev head_acts : SceneGroup → List Act
head_acts g = demand F.Field (group_flags g) ∷ demand F.Empty true ∷ map byte (head_fields g)

-- `g` is the row that was loaded
module _ (of : SceneGroup) {g : SceneGroup} (same : g ≡ of) {n : ℕ} {p₀ p₁ : Pen} {flags : Bool} {v₁ : List ℕ} (f : flags ≡ group_flags g)
    (d : Checked (demand F.Field flags ∷ []) 0 (At n) p₀) (s₁ : Spelt (head_fields of) v₁) (w₁ : ChecksAll true v₁ p₀ p₁) where
  head_checked : Checked (head_acts of) 3 (At n) p₁
  head_checked = then (rw (f, same) at d) (then (met F.Empty _) (all_checked s₁ w₁))

  module _ {p₂ : Pen} {v₂ : List ℕ} (s₂ : Spelt (position_fields g.position) v₂) (w₂ : ChecksAll (eqb g.position.present 1) v₂ p₁ p₂) where
    position_checked : Checked (when (eqb of.position.present 1) (map byte (position_fields of.position))) 5 p₁ p₂
    position_checked = all_checked (rw same at s₂) (rw same at w₂)

    module _ {p₃ : Pen} {v₃ : List ℕ} (s₃ : Spelt (gain_fields g.gain) v₃) (w₃ : ChecksAll (eqb g.gain.present 1) v₃ p₂ p₃) where
      gain_checked : Checked (when (eqb of.gain.present 1) (map byte (gain_fields of.gain))) 2 p₂ p₃
      gain_checked = all_checked (rw same at s₃) (rw same at w₃)

      row_checked : {r : Pen} {v₄ : List ℕ} → Spelt (language_fields g.content_language) v₄ → ChecksAll (eqb g.content_language.present 1) v₄ p₃ r → Checked (group_acts of) 13 (At n) r
      row_checked s₄ w₄ = rw (group_acts_lem (group_cols of), append-nil) (then head_checked (then position_checked (then gain_checked (all_checked (rw same at s₄) (rw same at w₄)))))

pub check_all-p2-requires : goal.check_all-p2-requires
check_all-p2-requires c =
    let head = head_checked (group_of c.args.groups.now c.args.b) c.of_columns-g.ensures c.flags_hold.ensures c.demand-p0.ensures c.head_bytes.ensures c.check_all-p1.ensures in
    (omega (arith, head.near, c.requires.0), search rules)

pub check_all-p3-requires : goal.check_all-p3-requires
check_all-p3-requires c =
    let head = head_checked (group_of c.args.groups.now c.args.b) c.of_columns-g.ensures c.flags_hold.ensures c.demand-p0.ensures c.head_bytes.ensures c.check_all-p1.ensures in
    let position = position_checked (group_of c.args.groups.now c.args.b) c.of_columns-g.ensures c.flags_hold.ensures c.demand-p0.ensures c.head_bytes.ensures c.check_all-p1.ensures c.position_bytes.ensures c.check_all-p2.ensures in
    (omega (arith, position.near, head.near, c.requires.0), search rules)

pub check_all-requires : goal.check_all-requires
check_all-requires c =
    let head = head_checked (group_of c.args.groups.now c.args.b) c.of_columns-g.ensures c.flags_hold.ensures c.demand-p0.ensures c.head_bytes.ensures c.check_all-p1.ensures in
    let position = position_checked (group_of c.args.groups.now c.args.b) c.of_columns-g.ensures c.flags_hold.ensures c.demand-p0.ensures c.head_bytes.ensures c.check_all-p1.ensures c.position_bytes.ensures c.check_all-p2.ensures in
    let gain = gain_checked (group_of c.args.groups.now c.args.b) c.of_columns-g.ensures c.flags_hold.ensures c.demand-p0.ensures c.head_bytes.ensures c.check_all-p1.ensures c.position_bytes.ensures c.check_all-p2.ensures c.gain_bytes.ensures c.check_all-p3.ensures in
    (omega (arith, gain.near, position.near, head.near, c.requires.0), search rules)

pub returns : goal.returns
returns c = row_checked (group_of c.args.groups.now c.args.b) c.of_columns-g.ensures c.flags_hold.ensures c.demand-p0.ensures c.head_bytes.ensures c.check_all-p1.ensures c.position_bytes.ensures c.check_all-p2.ensures c.gain_bytes.ensures c.check_all-p3.ensures c.language_bytes.ensures c.check_all.ensures
