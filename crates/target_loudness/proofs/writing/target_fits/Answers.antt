-- `writing::target_fits` meets its contract.
use Rattle.target_loudness.specs.Rows.{target_cols}
use Rattle.target_loudness.proofs.Writes.{fits_with, fits_without, fits_none}
use Rattle.target_loudness.proofs.writing.target_fits.Goals as goal

pub returns-then-t-eq1-2 : goal.returns-then-t-eq1-2
returns-then-t-eq1-2 c =
    fits_with (target_cols c.args.t) c.if-t-eq1.true (c.fits_all.ensures.of _ c.upper_bytes.ensures)
    (c.fits_all-then-t-eq1.ensures.of _ c.depends_bytes.ensures) c.if-t-eq1-2.true
    (c.fits_all-then-t-eq1-2.ensures.of _ c.lower_bytes.ensures)

pub returns-else-t-eq1-2 : goal.returns-else-t-eq1-2
returns-else-t-eq1-2 c =
    fits_without (target_cols c.args.t)
    c.if-t-eq1.true (c.fits_all.ensures.of _ c.upper_bytes.ensures) (c.fits_all-then-t-eq1.ensures.of _
    c.depends_bytes.ensures) c.if-t-eq1-2.false

pub returns-else-t-eq1 : goal.returns-else-t-eq1
returns-else-t-eq1 c =
    fits_none (target_cols c.args.t) c.if-t-eq1.false
