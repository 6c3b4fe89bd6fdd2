-- `writing::target_long` meets its contract.
use native.Mathlib.Omega.{arith}
use borrow.Author.Tests.{ne_eqb}
use Rattle.target_loudness.specs.Rows.{target_cols}
use Rattle.target_loudness.proofs.Writes.{long_there}
use Rattle.target_loudness.proofs.writing.target_long.Goals as goal

pub returns-then-t-eq1 : goal.returns-then-t-eq1
returns-then-t-eq1 c =
    long_there (target_cols c.args.t) c.if-t-eq1.true c.requires

pub returns-else-t-eq1 : goal.returns-else-t-eq1
returns-else-t-eq1 c =
    (rw (ne_eqb _ 1 c.if-t-eq1.false), omega arith)
