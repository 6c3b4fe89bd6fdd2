use Rattle.loudness.proofs.Written.{row_acts_lem}
use Rattle.loudness.proofs.writing.LoudnessEntriesRows.fill.Goals as goal

pub fill_entry-requires : goal.fill_entry-requires
fill_entry-requires c = let t = c.args.self.now in rw (row_acts_lem t.entries.now t.store.now c.args.i (rw c.requires.3 at c.of_columns-e.ensures)) c.requires.2

pub returns : goal.returns
returns c = let t = c.args.self.now in rw (row_acts_lem t.entries.now t.store.now c.args.i (rw c.requires.3 at c.of_columns-e.ensures)) at c.fill_entry.ensures
