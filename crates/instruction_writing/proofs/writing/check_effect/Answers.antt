-- `writing::check_effect` meets its contract.
use Prim.Native.Nat.{ℕ}
use mathlib.Core.Bool.{true}
use mathlib.Core.List.{List, map}
use lib.Dec.{eqb}
use Rattle.wire.specs.Act.{byte}
use Rattle.wire.specs.Pen.{Pen, Checked}
use Rattle.wire.specs.Spell.{Spelt, ChecksAll}
use Rattle.wire.proofs.Writing.Passes.{then}
use Rattle.wire.proofs.Writing.Plain.{all_checked}
use Rattle.instructions.specs.declared.rows.LimiterPeakTarget.{LimiterPeakTarget}
use Rattle.instruction_writing.specs.Write.{effect_fields, limiter_fields, limiter_part}
use Rattle.instruction_writing.proofs.writing.check_effect.Goals as goal

-- the pen behind the two bytes of the effect, and behind the limiter
effect : (e : ℕ) {vs : List ℕ} {p r : Pen} → Spelt (effect_fields e) vs → ChecksAll true vs p r → Checked (map byte (effect_fields e)) 2 p r
effect e s w = all_checked s w

limited : (l : LimiterPeakTarget) {vs : List ℕ} {p r : Pen} → Spelt (limiter_fields l) vs → ChecksAll (eqb l.present 1) vs p r → Checked (limiter_part l) 1 p r
limited l s w = all_checked s w

pub returns : goal.returns
returns c =
    then (effect _ c.effect_bytes.ensures c.check_all-p0.ensures) (then (limited _ c.limiter_bytes.ensures c.check_all-p1.ensures) c.check_target.ensures)
