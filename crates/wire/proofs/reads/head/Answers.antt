-- `reads::head` meets its contract.
use mathlib.Core.Path.{sym}
use native.Mathlib.Omega.{arith}
use Rattle.wire.proofs.Layouts.Straight.{ones_got, ones_lacks}
use Rattle.wire.proofs.reads.head.Goals as goal

pub returns-then-count-body : goal.returns-then-count-body
returns-then-count-body c = sym (ones_got _ _ _ (omega arith))

pub returns-else-count-body : goal.returns-else-count-body
returns-else-count-body c = sym (ones_lacks _ _ _ c.requires.0 (omega arith))
