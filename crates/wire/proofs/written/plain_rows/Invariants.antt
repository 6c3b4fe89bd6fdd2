-- `written::plain_rows` counts the rows before the first that is not plain, and their bytes.
use Prim.Native.Nat.{◌+◌, ◌-◌, ◌*◌, ◌≤◌}
use mathlib.Core.Path.{◌≡◌}
use Rattle.wire.proofs.Writing.Plain.{Going}
use Rattle.wire.proofs.written.plain_rows.Given as goal

abbrev pub invariant-loop-left : goal.invariant-loop-left
invariant-loop-left g l =
    (l.left ≤ l.count) × (l.b ≡ (l.first + (l.count - l.left)) * g.R.Rows.columns) × Going (λ i. g.R.Rows.acts l.rows (l.first + i)) g.R.Rows.most l.count (l.count - l.left) l.bytes

abbrev pub decreases-loop-left : goal.decreases-loop-left
decreases-loop-left g l = l.left
