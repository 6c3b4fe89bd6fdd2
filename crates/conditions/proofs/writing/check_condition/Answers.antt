-- `writing::check_condition` meets its contract.
use Prim.Native.Nat.{ℕ}
use mathlib.Core.Path.{◌≡◌}
use mathlib.Core.List.{[], ◌∷◌, map}
use mathlib.Core.Bool.{Bool, true}
use native.Mathlib.Omega.{arith}
use Rattle.wire.specs.Act.{demand, byte}
use Rattle.wire.specs.Pen.{Pen, Checked}
use Rattle.wire.specs.Layout.{field_of}
use Rattle.wire.specs.Spell.{Spells, ChecksAll, none, more}
use Rattle.wire.specs.declared.pen.Fault.TheVariants as F
use Rattle.wire.specs.Pen.{At}
use Rattle.wire.proofs.Writing.Passes.{then, nothing}
use Rattle.wire.proofs.Writing.Plain.{met, all_checked}
use Rattle.conditions.specs.Rows.{condition_cols, id_cells}
use Rattle.conditions.specs.declared.rows.PresetCondition.{PresetCondition}
use Rattle.conditions.specs.Write.{flags_of}
use Rattle.conditions.proofs.Writes.{condition_acts_lem, id_bytes, when_there, when_absent}
use Rattle.conditions.proofs.writing.check_condition.Goals as goal

-- its flags, and the byte that is always there
head_checked : (x : PresetCondition) {n v : ℕ} {p q : Pen} {flags : Bool} → flags ≡ flags_of (condition_cols x) → Checked (demand F.Field flags ∷ []) 0 (At n) p
    → Spells (map (field_of (condition_cols x)) id_cells) v → ChecksAll true (v ∷ []) p q
    → Checked (demand F.Field (flags_of (condition_cols x)) ∷ demand F.Empty true ∷ map byte (id_bytes (condition_cols x))) 1 (At n) q
head_checked x e d s w = then (rw e at d) (then (met F.Empty _) (all_checked (more s none) w))

pub check_detail-requires : goal.check_detail-requires
check_detail-requires c =
    let step-1 = head_checked c.args.c c.flags_hold.ensures c.demand-p0.ensures c.two.ensures c.check_all-p1.ensures in
    omega (arith, step-1.near, c.requires)

pub returns-then-d-eq1 : goal.returns-then-d-eq1
returns-then-d-eq1 c =
    let step-1 = head_checked c.args.c c.flags_hold.ensures c.demand-p0.ensures c.two.ensures c.check_all-p1.ensures in
    rw (condition_acts_lem (condition_cols c.args.c), when_there _ _ c.if-d-eq1.true)
    (then step-1 c.check_detail.ensures)

pub returns-else-d-eq1 : goal.returns-else-d-eq1
returns-else-d-eq1 c =
    let step-1 = head_checked c.args.c c.flags_hold.ensures c.demand-p0.ensures c.two.ensures c.check_all-p1.ensures in
    rw (condition_acts_lem (condition_cols c.args.c), when_absent _ _ c.if-d-eq1.false)
    (then step-1 (nothing 5 _))
