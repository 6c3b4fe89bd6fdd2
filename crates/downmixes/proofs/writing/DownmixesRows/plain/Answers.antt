use Rattle.downmixes.proofs.Downmixes.{row_plain, row_odd}
use Rattle.downmixes.proofs.writing.DownmixesRows.plain.Goals as goal

pub returns-then-fits_all : goal.returns-then-fits_all
returns-then-fits_all c =
    row_plain c.args.self.now.downmixes.now c.args.i (rw c.requires.2 at c.of_columns-d.ensures) c.downmix_bytes.ensures c.fits_all.ensures c.if-fits_all.true

pub returns-else-fits_all : goal.returns-else-fits_all
returns-else-fits_all c =
    row_odd c.args.self.now.downmixes.now c.args.i (rw c.requires.2 at c.of_columns-d.ensures) c.downmix_bytes.ensures c.fits_all.ensures c.if-fits_all.false
