use Rattle.pairs.proofs.Pairs.{pair_plain, pair_odd}
use Rattle.pairs.proofs.writing.PairsRows.plain.Goals as goal

pub returns-then-pair_fits : goal.returns-then-pair_fits
returns-then-pair_fits c = pair_plain c.args.self.now.table.now c.args.i c.pair_fits.ensures c.if-pair_fits.true

pub returns-else-pair_fits : goal.returns-else-pair_fits
returns-else-pair_fits c = pair_odd c.args.self.now.table.now c.args.i c.pair_fits.ensures c.if-pair_fits.false
