-- `tallying::condition_zeros` meets its contract.
use Prim.Native.Nat.{◌+◌}
use native.Mathlib.Omega.{arith}
use borrow.Author.Tests.{eq-eqb, ne_eqb}
use Rattle.conditions.specs.Rows.{condition_cols}
use Rattle.conditions.proofs.Tallied.{condition_tally}
use Rattle.conditions.proofs.tallying.condition_zeros.Goals as goal

pub returns-then-d-eq1 : goal.returns-then-d-eq1
returns-then-d-eq1 c =
    (rw (condition_tally (condition_cols c.args.c), eq-eqb _ 1 c.if-d-eq1.true) (λ i. c.idle_bits.ensures i + c.position_zeros.ensures.0 i), omega arith)

pub returns-else-d-eq1 : goal.returns-else-d-eq1
returns-else-d-eq1 c =
    (rw (condition_tally (condition_cols c.args.c), ne_eqb _ 1 c.if-d-eq1.false), omega arith)
