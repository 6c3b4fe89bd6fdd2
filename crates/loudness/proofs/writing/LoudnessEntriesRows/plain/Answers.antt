use Rattle.loudness.proofs.Written.{row_acts_lem}
use Rattle.loudness.proofs.writing.LoudnessEntriesRows.plain.Goals as goal

pub returns : goal.returns
returns c = let t = c.args.self.now in rw (row_acts_lem t.entries.now t.store.now c.args.i (rw c.requires.2 at c.of_columns-e.ensures)) at c.plain_bytes.ensures
