-- `list::rows_kids` meets its contract: the rows so far, and those of the rows that are left.
use Prim.Native.Nat.{◌-◌}
use Rattle.wire.proofs.Reading.Loops.{Summing}
use Rattle.wire.proofs.list.rows_kids.Given as goal

abbrev pub invariant-loop : goal.invariant-loop
invariant-loop g l = Summing (g.R.Count.reads l.row) (g.R.Count.kids l.row) g.R.Count.most l.body l.at l.count l.pos (l.count - l.counter) l.kids
