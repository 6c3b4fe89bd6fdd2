-- `tallying::target_zeros` meets its contract.
use Prim.Native.Nat.{◌+◌}
use native.Mathlib.Omega.{arith}
use borrow.Author.Tests.{eq-eqb, ne_eqb}
use borrow.Author.Rules.{rules}
use Rattle.target_loudness.proofs.tallying.target_zeros.Goals as goal

pub returns-then-t-eq1 : goal.returns-then-t-eq1
returns-then-t-eq1 c =
    (rw (eq-eqb _ 1 c.if-t-eq1.true) (λ i. c.idle_bits-then-t-eq1.ensures i + (c.lower_zeros.ensures.0 i + c.idle_bits.ensures i)), search rules)

pub returns-else-t-eq1 : goal.returns-else-t-eq1
returns-else-t-eq1 c =
    (rw (ne_eqb _ 1 c.if-t-eq1.false), omega arith)
