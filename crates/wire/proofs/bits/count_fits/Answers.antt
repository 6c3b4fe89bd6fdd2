-- A `usize` fits every width from 64 bits on.
use mathlib.Core.Path.{sym}
use native.Mathlib.Omega.{arith}
use Rattle.wire.proofs.Fields.{shr_zero, wide_fits}
use Rattle.wire.proofs.bits.count_fits.Goals as goal

pub returns-then-width-lt64 : goal.returns-then-width-lt64
returns-then-width-lt64 c = shr_zero c.args.count c.args.width

pub returns-else-width-lt64 : goal.returns-else-width-lt64
returns-else-width-lt64 c = sym (wide_fits c.args.count 64 c.args.width (omega arith) (omega arith))
