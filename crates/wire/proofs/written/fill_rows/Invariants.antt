-- `written::fill_rows` stores the bytes of the rows: what is left to store from a row on.
use Prim.Native.Nat.{◌-◌, ◌+◌, ◌*◌, ◌≤◌}
use mathlib.Core.Path.{◌≡◌}
use Rattle.wire.specs.Act.{rows}
use Rattle.wire.proofs.Writing.Passes.{Filling}
use Rattle.wire.proofs.written.fill_rows.Given as goal

abbrev pub invariant-loop-b : goal.invariant-loop-b
invariant-loop-b g l =
    (l.b ≡ l.i * g.R.Rows.columns) × (l.i ≤ l.first + l.count)
    × Filling (rows (g.R.Rows.acts l.rows) l.first l.count) (rows (g.R.Rows.acts l.rows) l.i (l.first + l.count - l.i)) l.initial.at l.initial.out l.at l.out

abbrev pub decreases-loop-b : goal.decreases-loop-b
decreases-loop-b g l = l.last - l.b
