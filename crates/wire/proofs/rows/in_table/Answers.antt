-- `wire::rows::in_table` meets its contract: the rows asked for are those up to the end of the range, in whatever order they are added.
use Prim.Native.Nat.{◌+◌}
use mathlib.Core.Path.{◌≡◌}
use native.Mathlib.Omega.{arith}
use borrow.Author.Rules.{rules}
use Rattle.wire.proofs.rows.in_table.Goals as goal

pub returns : goal.returns
returns c =
    let r = c.args.r in
    let h : r.first + r.count ≡ r.count + r.first = omega arith in
    search (rules, h)
