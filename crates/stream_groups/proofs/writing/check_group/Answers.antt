-- `check_group` demands the flags and what follows from isInMainStream, then each byte at its place.
use Prim.Native.Nat.{ℕ}
use mathlib.Core.Path.{◌≡◌}
use mathlib.Core.List.{List, [], ◌∷◌, append-nil}
use mathlib.Core.Bool.{Bool, true}
use native.Mathlib.Omega.{arith}
use Rattle.wire.specs.Act.{Act, demand, byte}
use Rattle.wire.specs.Pen.{Pen, Checked, At}
use Rattle.wire.specs.Spell.{Spells, ChecksAll, none, more}
use Rattle.wire.specs.declared.pen.Fault.TheVariants as F
use Rattle.wire.proofs.Writing.Passes.{then}
use Rattle.wire.proofs.Writing.Plain.{met, all_checked}
use Rattle.stream_groups.specs.Rows.{group_cols}
use Rattle.stream_groups.specs.Write.{group_byte, flags_of, placed_once}
use Rattle.stream_groups.specs.declared.rows.MultiStreamGroup.{MultiStreamGroup}
use Rattle.stream_groups.proofs.Writes.{group_acts_lem}
use borrow.Author.Rules.{rules}
use Rattle.stream_groups.proofs.writing.check_group.Goals as goal

-- all but the location
abbrev head_acts : MultiStreamGroup → List Act
head_acts g = demand F.Field (flags_of (group_cols g)) ∷ demand F.Empty true ∷ demand F.Auxiliary (placed_once (group_cols g)) ∷ byte (group_byte g) ∷ []

head_checked : (g : MultiStreamGroup) {n : ℕ} {flags once : Bool} {p q r : Pen} {v : ℕ} → flags ≡ flags_of (group_cols g) → Checked (demand F.Field flags ∷ []) 0 (At n) p
    → once ≡ placed_once (group_cols g) → Checked (demand F.Auxiliary once ∷ []) 0 p q → Spells (group_byte g) v → ChecksAll true (v ∷ []) q r → Checked (head_acts g) 1 (At n) r
head_checked g e d f a s w = then (rw e at d) (then (met F.Empty _) (then (rw f at a) (all_checked (more s none) w)))

pub check_all-requires : goal.check_all-requires
check_all-requires c =
    let step = head_checked c.args.g c.flags_hold.ensures c.demand-p0.ensures c.placed_once.ensures c.demand-p1.ensures c.group_byte.ensures c.check_all-p2.ensures in
    (omega (arith, step.near, c.requires), search rules)

pub returns : goal.returns
returns c =
    let step = head_checked c.args.g c.flags_hold.ensures c.demand-p0.ensures c.placed_once.ensures c.demand-p1.ensures c.group_byte.ensures c.check_all-p2.ensures in
    rw (group_acts_lem (group_cols c.args.g), append-nil) (then step (all_checked (more c.location_byte.ensures none) c.check_all.ensures))
