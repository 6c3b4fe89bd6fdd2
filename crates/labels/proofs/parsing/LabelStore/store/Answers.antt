use mathlib.Core.Path.{◌∙◌, ap}
use lib.Seq.{sets}
use Rattle.labels.proofs.Taken.{entry_stored}
use Rattle.labels.proofs.parsing.LabelStore.store.Goals as goal

pub returns : goal.returns
returns c = entry_stored c.args.self.now.w _ _ c.entry_at-p.ensures (c.put_row.ensures ∙ ap (sets c.args.table.now c.args.to) c.columns.ensures)
