-- `written::plain_run` counts the bytes of the rows that are passed.
use Prim.Native.Nat.{◌+◌, ◌-◌, ◌*◌}
use mathlib.Core.Path.{◌≡◌}
use Rattle.wire.proofs.Writing.Plain.{Going}
use Rattle.wire.proofs.written.plain_run.Given as goal

abbrev pub invariant-loop-b : goal.invariant-loop-b
invariant-loop-b g l = (l.b ≡ (l.first + l.i) * g.R.Rows.columns) × Going (λ i. g.R.Rows.acts l.rows (l.first + i)) g.R.Rows.most l.count l.i l.bytes

abbrev pub decreases-loop-b : goal.decreases-loop-b
decreases-loop-b g l = l.last - l.b
