-- `base::writing::fill` meets its contract: the fields, and the trailing run behind them.
use mathlib.Core.List.{[]}
use Rattle.frame.proofs.Passes.{fields_ready, run_ready, all_filled}
use Rattle.base.specs.Kind.{kind}
use Rattle.base.proofs.Mirrored.{written_so}
use Rattle.base.proofs.writing.fill.Goals as goal

pub fill_fields-n-requires : goal.fill_fields-n-requires
fill_fields-n-requires c = fields_ready kind (written_so c.args.m c.args.store.now []) c.requires

pub copy-requires : goal.copy-requires
unfolding kind
copy-requires c =
    run_ready kind (written_so c.args.m c.args.store.now []) c.requires c.fill_fields-n.auto.out c.fill_fields-n.ensures

pub returns : goal.returns
unfolding kind
returns c = search (all_filled, written_so)
