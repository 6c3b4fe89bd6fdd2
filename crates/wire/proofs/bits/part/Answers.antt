-- `wire::bits::part` meets its contract: a mask of ones is a remainder.
use lib.Bits.{and_mask}
use Rattle.wire.proofs.bits.part.Goals as goal

pub returns : goal.returns
returns c = rw (c.wide.ensures, c.ones.ensures) (and_mask _ _)
