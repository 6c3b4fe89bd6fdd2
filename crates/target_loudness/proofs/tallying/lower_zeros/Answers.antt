-- `tallying::lower_zeros` meets its contract.
use native.Mathlib.Omega.{arith}
use borrow.Author.Tests.{eq-eqb, ne_eqb}
use Rattle.target_loudness.proofs.tallying.lower_zeros.Goals as goal

pub returns-then-l-eq1 : goal.returns-then-l-eq1
returns-then-l-eq1 c =
    (rw (eq-eqb _ 1 c.if-l-eq1.true) c.idle_bits.ensures, omega arith)

pub returns-else-l-eq1 : goal.returns-else-l-eq1
returns-else-l-eq1 c =
    (rw (ne_eqb _ 1 c.if-l-eq1.false), omega arith)
