-- `wire::bits::pair` meets its contract: a shift and an or are a product and a sum.
use native.Mathlib.Omega.{arith}
use Rattle.wire.proofs.Fields.{pair_exact}
use Rattle.wire.proofs.bits.pair.Goals as goal

pub returns : goal.returns
returns c = pair_exact c.args.high c.args.low (omega arith) (omega arith)
