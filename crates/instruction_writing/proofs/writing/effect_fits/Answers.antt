-- `writing::effect_fits` meets its contract.
use native.Mathlib.Omega.{arith}
use Rattle.instruction_writing.proofs.Writes.{fits_with, fits_without}
use Rattle.instruction_writing.proofs.writing.effect_fits.Goals as goal

pub returns-then-limiter-eq1 : goal.returns-then-limiter-eq1
returns-then-limiter-eq1 c =
    fits_with c.args.d (omega arith) c.target_fits.ensures
    c.if-limiter-eq1.true (c.fits_all.ensures.of _ c.limiter_bytes.ensures)

pub returns-else-limiter-eq1 : goal.returns-else-limiter-eq1
returns-else-limiter-eq1 c =
    fits_without c.args.d (omega arith) c.target_fits-else-limiter-eq1.ensures c.if-limiter-eq1.false
