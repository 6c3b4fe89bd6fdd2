-- `list::rows_end` is where the rows end: the end from here is the end from the start.
use Prim.Native.Nat.{◌-◌}
use Rattle.wire.proofs.Reading.Loops.{Measuring}
use Rattle.wire.proofs.list.rows_end.Given as goal

abbrev pub invariant-loop : goal.invariant-loop
invariant-loop g l = Measuring (g.R.Measure.reads l.row) l.body l.at l.count l.pos (l.count - l.counter)
