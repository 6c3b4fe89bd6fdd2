-- A `u16` fits every width from 16 bits on.
use mathlib.Core.Path.{sym}
use native.Mathlib.Omega.{arith}
use Rattle.wire.proofs.Fields.{shr_zero, wide_fits}
use Rattle.wire.proofs.bits.fits.Goals as goal

pub returns-then-width-lt16 : goal.returns-then-width-lt16
returns-then-width-lt16 c = shr_zero c.args.value c.args.width

pub returns-else-width-lt16 : goal.returns-else-width-lt16
returns-else-width-lt16 c = sym (wide_fits c.args.value 16 c.args.width (omega arith) (omega arith))
