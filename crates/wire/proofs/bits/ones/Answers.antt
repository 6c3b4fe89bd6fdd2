-- `wire::bits::ones` meets its contract.
use native.Mathlib.Omega.{arith}
use lib.Pow.{pow_pos, pow_mono}
use Rattle.wire.proofs.Fields.{one_shifted}
use Rattle.wire.proofs.bits.ones.Goals as goal

pub overflow_sub-result : goal.overflow_sub-result
overflow_sub-result c = rw (one_shifted c.args.n c.requires) (pow_pos c.args.n)

pub overflow_cast-result-2 : goal.overflow_cast-result-2
overflow_cast-result-2 c =
    record { fits = rw (one_shifted c.args.n c.requires) (omega (arith, pow_mono {j = 8} c.requires, pow_pos c.args.n)) }

pub returns : goal.returns
returns c = rw (one_shifted c.args.n c.requires)
