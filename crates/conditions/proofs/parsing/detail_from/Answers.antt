-- `parsing::detail_from` meets its contract.
use Prim.Native.Nat.{ℕ, ◌+◌}
use mathlib.Core.Path.{ap}
use Rattle.conditions.proofs.Taken.{detail_taken}
use borrow.Author.Rules.{rules}
use Rattle.conditions.proofs.parsing.detail_from.Goals as goal

pub returns : goal.returns
returns c =
    rw (c.part.ensures, c.part-2.ensures, c.part-3.ensures)
    (search (rules, detail_taken, ap (λ (k : ℕ). c.args.at + 1 + k) c.part-g.ensures, rw c.part-g.ensures at c.gain_at.ensures, rw c.part-p.ensures at c.position_at.ensures))
