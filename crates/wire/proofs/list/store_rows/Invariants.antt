-- `list::store_rows` stores each row: what is still to store from here is what was to store from the start.
use Prim.Native.Nat.{◌-◌}
use Rattle.wire.proofs.Reading.Loops.{Filling}
use Rattle.wire.proofs.list.store_rows.Given as goal

abbrev pub invariant-loop : goal.invariant-loop
invariant-loop g l = Filling (g.R.Store.reads l.row) (g.R.Store.columns l.row) g.R.Store.COLUMNS l.body l.at l.count l.initial.table l.column l.table l.pos (l.count - l.counter) l.to
