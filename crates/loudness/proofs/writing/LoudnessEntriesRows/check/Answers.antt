use Rattle.loudness.proofs.Written.{row_acts_lem}
use Rattle.loudness.proofs.writing.LoudnessEntriesRows.check.Goals as goal

pub returns : goal.returns
returns c = let t = c.args.self.now in rw (row_acts_lem t.entries.now t.store.now c.args.i c.of_columns-e.ensures) at c.check_entry.ensures
