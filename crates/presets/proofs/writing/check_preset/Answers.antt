-- `writing::check_preset` meets its contract.
use Prim.Native.Nat.{ℕ, ◌+◌, ◌/◌}
use mathlib.Core.Path.{◌≡◌}
use mathlib.Core.Bool.{Bool, true}
use mathlib.Core.List.{List, [], ◌∷◌}
use native.Mathlib.Omega.{arith}
use lib.Dec.{leb}
use lib.ListN.{length}
use Rattle.wire.specs.Act.{demand}
use Rattle.wire.specs.Pen.{Pen, At, Checked}
use Rattle.wire.specs.Spell.{Spelt, ChecksAll}
use Rattle.wire.specs.declared.pen.Fault.TheVariants as F
use Rattle.wire.proofs.Handed.{handed}
use Rattle.wire.proofs.Writing.Passes.{then}
use Rattle.wire.proofs.Writing.Plain.{met, all_checked}
use Rattle.wire.proofs.Layouts.Families.{front_acts}
use Rattle.presets.specs.Layout.{preset}
use Rattle.presets.specs.Rows.{preset_cols}
use Rattle.presets.specs.Write.{head_fields}
use Rattle.presets.specs.declared.rows.GroupPreset.{GroupPreset}
use Rattle.presets.proofs.Writes.{front_acts_lem, preset_passed, preset_near, preset_stopped, preset_checked}
use Rattle.presets.proofs.writing.check_preset.Goals as goal

-- what stands before its conditions, one check after the other
front : (u : List ℕ) (p : GroupPreset) {n : ℕ} {p₀ p₁ q : Pen} {inside : Bool} {vs : List ℕ} → inside ≡ leb (p.conditions.first + p.conditions.count) (length u / 13)
    → Checked (demand F.Range inside ∷ []) 0 (At n) p₀ → Checked (demand F.Empty (leb 1 p.conditions.count) ∷ []) 0 p₀ p₁ → Spelt (head_fields p) vs → ChecksAll true vs p₁ q
    → Checked (front_acts preset (length u / 13) (preset_cols p)) 3 (At n) q
front u p e w₀ w₁ s w₂ = rw front_acts_lem (then (rw e at w₀) (then (met F.Field _) (then w₁ (all_checked s w₂))))

pub returns-in_err-m : goal.returns-in_err-m
returns-in_err-m c =
    rw (handed c.from_residual.result c.from_residual.ensures.1) (preset_stopped c.args.conditions.now (preset_cols c.args.p)
    (front c.args.conditions.now c.args.p c.in_table-inside.ensures c.demand-p0.ensures c.demand-p1.ensures c.head_bytes.ensures c.in_err-m.ensures))

pub check_rows-requires : goal.check_rows-requires
check_rows-requires c =
    let w = front c.args.conditions.now c.args.p c.in_table-inside.ensures c.demand-p0.ensures c.demand-p1.ensures c.head_bytes.ensures c.in_ok-m.ensures in
    let f = preset_passed c.args.conditions.now (preset_cols c.args.p) w in
    let k = preset_near c.args.conditions.now (preset_cols c.args.p) w in
    (f.inside, tt, omega (arith, f.few), omega (arith, f.few, k, c.requires))

pub returns : goal.returns
returns c =
    preset_checked c.args.conditions.now (preset_cols c.args.p)
    (front c.args.conditions.now c.args.p c.in_table-inside.ensures c.demand-p0.ensures c.demand-p1.ensures c.head_bytes.ensures c.in_ok-m.ensures)
    c.check_rows.ensures
