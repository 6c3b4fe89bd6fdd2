use Rattle.labels.proofs.Written.{row_ready, row_filled}
use Rattle.labels.proofs.writing.LabelsRows.fill.Goals as goal

pub fill_entry-requires : goal.fill_entry-requires
fill_entry-requires c = let l = c.args.self.now in (row_ready l.w l.entries.now l.store.now c.args.i (rw c.requires.3 at c.of_columns-e.ensures) c.requires.2, c.requires.1)

pub returns : goal.returns
returns c = let l = c.args.self.now in row_filled l.w l.entries.now l.store.now c.args.i (rw c.requires.3 at c.of_columns-e.ensures) c.fill_entry.ensures
