-- `fill_group` stores the byte of the group, and that of its location where it is there.
use Prim.Native.Nat.{ℕ}
use mathlib.Core.List.{List, [], ◌∷◌, ◌++◌, map}
use mathlib.Core.Bool.{true}
use mathlib.Core.Path.{refl}
use Rattle.wire.specs.Act.{byte}
use Rattle.wire.specs.Pen.{Ready}
use Rattle.wire.specs.Spell.{Spells, FillsAll, none, more}
use Rattle.wire.proofs.Writing.Passes.{Filling, fill_start, fill_demand, fill_row_lem, fill_turn, fill_end}
use Rattle.wire.proofs.Writing.Plain.{ready_part, fill_part_lem, filled_long}
use Rattle.stream_groups.specs.Rows.{group_cols}
use Rattle.stream_groups.specs.Write.{group_byte, group_acts, location_part}
use Rattle.stream_groups.specs.declared.rows.MultiStreamGroup.{MultiStreamGroup}
use Rattle.stream_groups.proofs.Writes.{group_acts_lem, plain_acts, location_acts}
use Rattle.stream_groups.proofs.writing.fill_group.Goals as goal

module _ (g : MultiStreamGroup) {n : ℕ} {o : List ℕ} (x : Ready (group_acts g) n o) where
  begun : Filling (plain_acts (group_cols g)) (map byte (group_byte g ∷ []) ++ location_acts (group_cols g)) n o n o
  begun = fill_demand (fill_demand (fill_demand (fill_start (rw (group_acts_lem (group_cols g)) at x))))

  -- behind its byte
  behind : {v n₁ : ℕ} {o₁ : List ℕ} → Spells (group_byte g) v → FillsAll true (v ∷ []) n o n₁ o₁ → Filling (plain_acts (group_cols g)) (location_acts (group_cols g)) n o n₁ o₁
  behind s w = fill_part_lem _ {there = true} (more s none) begun w

pub fill_all-n1-requires : goal.fill_all-n1-requires
fill_all-n1-requires c = ready_part _ (more c.group_byte.ensures none) (begun c.args.g c.requires)

pub fill_location-requires : goal.fill_location-requires
fill_location-requires c = fill_row_lem (location_part c.args.g.auxiliary) [] (behind c.args.g c.requires c.group_byte.ensures c.fill_all-n1.ensures) refl

pub returns : goal.returns
returns c =
    let w = c.fill_location.ensures in
    rw (group_acts_lem (group_cols c.args.g)) (fill_end (fill_turn (behind c.args.g c.requires c.group_byte.ensures c.fill_all-n1.ensures) refl (filled_long w) w) refl)
