-- An entry is measured: the two bytes before the label are one comparison, and then its bytes.
use Rattle.wire.proofs.Handed.{handed}
use Rattle.labels.proofs.Taken.{entry_lacks, behind_inside, length_there, entry_ends}
use borrow.Author.Rules.{rules}
use Rattle.labels.proofs.parsing.LabelMeasure.end.Goals as goal

pub returns-in_err-n : goal.returns-in_err-n
returns-in_err-n c = rw (handed c.from_residual.result c.from_residual.ensures.1) (entry_lacks c.args.self.now.w _ _ c.in_err-n.ensures)

pub bounds-body-at : goal.bounds-body-at
bounds-body-at c = length_there c.args.self.now.w _ _ c.in_ok-n.ensures c.requires

pub bytes_end-requires : goal.bytes_end-requires
bytes_end-requires c = search (rules, behind_inside c.args.self.now.w _ _ c.in_ok-n.ensures)

pub returns : goal.returns
returns c = entry_ends c.args.self.now.w _ _ c.in_ok-n.ensures _ c.wide.ensures c.bytes_end.ensures
