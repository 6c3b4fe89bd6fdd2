-- `wire::bits::above` meets its contract: what is not below the width.
use native.Mathlib.Omega.{arith}
use lib.Pow.{pow_pos}
use Rattle.wire.proofs.bits.above.Goals as goal

pub returns : goal.returns
returns c = omega (arith, c.wide.ensures, c.ones.ensures, pow_pos c.args.width)
