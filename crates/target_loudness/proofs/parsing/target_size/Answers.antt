-- `parsing::target_size` meets its contract.
use native.Mathlib.Omega.{arith}
use borrow.Author.Tests.{eq-eqb, ne_eqb}
use Rattle.wire.proofs.Fields.{part_below}
use borrow.Author.Rules.{rules}
use Rattle.target_loudness.proofs.parsing.target_size.Goals as goal

pub returns-then-present-eq1 : goal.returns-then-present-eq1
returns-then-present-eq1 c =
    (rw (eq-eqb _ 1 c.if-present-eq1.true, c.part.ensures, c.wide.ensures), search (rules, part_below))

pub returns-else-present-eq1 : goal.returns-else-present-eq1
returns-else-present-eq1 c =
    (rw (ne_eqb _ 1 c.if-present-eq1.false), omega arith)
