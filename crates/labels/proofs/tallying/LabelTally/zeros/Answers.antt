use Rattle.labels.proofs.Taken.{entry_zeros}
use Rattle.labels.proofs.tallying.LabelTally.zeros.Goals as goal

pub returns : goal.returns
returns c = entry_zeros c.args.self.now.w _ _ c.entry_at-p.ensures c.idle_bits.ensures
