-- `mpegh_c::codes::code` meets its contract: the value as it is, or the largest of 56 bits.
use native.Mathlib.Omega.{arith}
use Rattle.mpegh_c.proofs.codes.code.Goals as goal

pub returns : goal.returns
returns c = omega (arith, c.at_most.ensures)
