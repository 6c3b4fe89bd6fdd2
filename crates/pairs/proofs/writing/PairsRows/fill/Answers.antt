use Rattle.pairs.proofs.Pairs.{pair_ready, pair_filled}
use Rattle.pairs.proofs.writing.PairsRows.fill.Goals as goal

pub fill_all-requires : goal.fill_all-requires
fill_all-requires c = pair_ready c.args.self.now.table.now c.args.i c.pair_byte.ensures c.requires.2

pub returns : goal.returns
returns c = pair_filled c.args.self.now.table.now c.args.i c.pair_byte.ensures c.requires.2 c.fill_all.ensures
