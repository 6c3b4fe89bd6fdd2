-- `reads::bytes_end` meets its contract.
use mathlib.Core.Path.{sym}
use native.Mathlib.Omega.{arith}
use mathlib.Core.List.{[]}
use Rattle.wire.specs.Straight.{ends}
use Rattle.wire.proofs.Layouts.Straight.{ends_got, ends_lacks}
use Rattle.wire.proofs.reads.bytes_end.Goals as goal

pub returns-then-count-body : goal.returns-then-count-body
unfolding ends
returns-then-count-body c = sym (ends_got c.args.count [] c.args.body.now c.args.at (omega arith))

pub returns-else-count-body : goal.returns-else-count-body
returns-else-count-body c = sym (ends_lacks c.args.count [] _ c.args.at (omega arith))
