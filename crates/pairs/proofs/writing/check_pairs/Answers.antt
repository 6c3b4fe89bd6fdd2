-- `writing::check_pairs` meets its contract: all rows were passed, or a field of one does not fit.
use native.Mathlib.Nat.{one-mul}
use Rattle.wire.proofs.Layouts.Families.{kids_checked, kids_stopped}
use Rattle.pairs.specs.Write.{pair_acts}
use Rattle.pairs.proofs.Pairs.{pair_stopped}
use Rattle.pairs.proofs.writing.check_pairs.Goals as goal

pub returns-then-k-r : goal.returns-then-k-r
returns-then-k-r c =
    rw (one-mul c.args.r.count) at (kids_stopped (pair_acts c.args.table.now) c.args.r.first
    c.args.r.count c.plain_pairs-k.ensures c.args.n c.if-k-r.true (pair_stopped c.args.table.now _ _
    (c.plain_pairs-k.ensures.odd c.if-k-r.true)))

pub returns-else-k-r : goal.returns-else-k-r
returns-else-k-r c =
    rw (one-mul c.args.r.count) at (kids_checked (pair_acts c.args.table.now) c.args.r.first
    c.args.r.count c.plain_pairs-k.ensures c.args.n c.if-k-r.false)
