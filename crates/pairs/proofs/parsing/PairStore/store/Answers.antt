use mathlib.Core.Path.{refl, ap, ◌∙◌}
use lib.Seq.{sets}
use Rattle.pairs.proofs.Pairs.{pair_there, pair_run}
use Rattle.pairs.proofs.parsing.PairStore.store.Goals as goal

pub pair_at-requires : goal.pair_at-requires
pair_at-requires c = pair_there c.args.body.now c.args.at c.requires.0 c.requires.1

pub returns : goal.returns
returns c = record {
  value = _;
  reads = pair_run c.args.body.now c.args.at c.requires.0 c.requires.1;
  wide = refl;
  stored = c.put_row.ensures ∙ ap (sets c.args.table.now c.args.to) c.pair_at.ensures;
}
