-- `multi_stream::writing::fill` meets its contract: the fields, and the trailing run behind them.
use Rattle.frame.proofs.Passes.{fields_ready, run_ready, all_filled}
use Rattle.multi_stream.specs.Kind.{kind}
use Rattle.multi_stream.proofs.Mirrored.{acts_are}
use Rattle.multi_stream.proofs.writing.fill.Goals as goal

pub fill_fields-n-requires : goal.fill_fields-n-requires
fill_fields-n-requires c = search (fields_ready, acts_are)

pub copy-requires : goal.copy-requires
unfolding kind
copy-requires c =
    run_ready kind (acts_are c.args.m c.args.groups.now c.args.store.now) c.requires c.fill_fields-n.auto.out c.fill_fields-n.ensures

pub returns : goal.returns
unfolding kind
returns c = search (all_filled, acts_are)
