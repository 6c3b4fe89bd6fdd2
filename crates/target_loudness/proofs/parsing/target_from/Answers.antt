-- `parsing::target_from` meets its contract.
use Prim.Native.Nat.{ℕ, ◌+◌}
use mathlib.Core.Path.{ap}
use Rattle.target_loudness.proofs.Taken.{target_taken}
use Rattle.target_loudness.proofs.parsing.target_from.Goals as goal

pub returns : goal.returns
returns c =
    rw (c.part.ensures, c.part-2.ensures, c.part-3.ensures, c.part-4.ensures, c.part-5.ensures)
    (search (target_taken, ap (λ (k : ℕ). c.args.at + 1 + k) c.part-l.ensures, rw c.part-l.ensures at c.lower_at.ensures))
