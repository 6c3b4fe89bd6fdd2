use Rattle.labels.proofs.Written.{row_plain}
use Rattle.labels.proofs.writing.LabelsRows.plain.Goals as goal

pub returns : goal.returns
returns c = let l = c.args.self.now in row_plain l.w l.entries.now l.store.now c.args.i (rw c.requires.2 at c.of_columns-e.ensures) c.plain_bytes.ensures
