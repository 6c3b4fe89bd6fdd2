use Rattle.labels.proofs.Written.{row_checked}
use Rattle.labels.proofs.writing.LabelsRows.check.Goals as goal

pub returns : goal.returns
returns c = let l = c.args.self.now in row_checked l.w l.entries.now l.store.now c.args.i c.of_columns-e.ensures c.check_entry.ensures
