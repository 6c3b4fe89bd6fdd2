use Rattle.downmixes.proofs.Downmixes.{row_ready, row_filled}
use Rattle.downmixes.proofs.writing.DownmixesRows.fill.Goals as goal

pub fill_all-requires : goal.fill_all-requires
fill_all-requires c = row_ready c.args.self.now.downmixes.now c.args.i (rw c.requires.3 at c.of_columns-d.ensures) c.downmix_bytes.ensures c.requires.2

pub returns : goal.returns
returns c = row_filled c.args.self.now.downmixes.now c.args.i (rw c.requires.3 at c.of_columns-d.ensures) c.downmix_bytes.ensures c.requires.2 c.fill_all.ensures
