use Rattle.downmixes.proofs.Downmixes.{row_checked}
use Rattle.downmixes.proofs.writing.DownmixesRows.check.Goals as goal

pub returns : goal.returns
returns c = row_checked c.args.self.now.downmixes.now c.args.i c.of_columns-d.ensures c.downmix_bytes.ensures c.check_all.ensures
