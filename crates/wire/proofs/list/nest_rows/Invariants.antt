-- `list::nest_rows` stores each row with its rows: what is still to store in both tables from here is what was to store from the start.
use Prim.Native.Nat.{◌-◌}
use Rattle.wire.proofs.Reading.Nest.{Nesting}
use Rattle.wire.proofs.list.nest_rows.Given as goal

abbrev pub invariant-loop : goal.invariant-loop
invariant-loop g l =
    Nesting (g.R.Nest.reads l.row) (g.R.Nest.size l.row) (g.R.Nest.columns l.row) g.R.Nest.COLUMNS (g.R.Nest.kids l.row) g.R.Nest.KID_COLUMNS l.body l.at l.count l.initial.outer l.initial.inner l.outer l.inner l.pos (l.count - l.counter) l.to l.first
