-- `list::rows_zeros` meets its contract: what is summed up, and what is left, come to the whole.
use Prim.Native.Nat.{◌-◌}
use Rattle.wire.proofs.Reading.Loops.{Summing}
use Rattle.wire.proofs.list.rows_zeros.Given as goal

abbrev pub invariant-loop : goal.invariant-loop
invariant-loop g l = Summing (g.R.Tally.reads l.row) (g.R.Tally.zeros l.row) g.R.Tally.most l.body l.at l.count l.pos (l.count - l.counter) l.zeros
