use Rattle.pairs.proofs.Pairs.{pair_checked}
use Rattle.pairs.proofs.writing.PairsRows.check.Goals as goal

pub returns : goal.returns
returns c = pair_checked c.args.self.now.table.now c.args.i c.pair_byte.ensures c.check_all.ensures
