-- `writing::fill` meets its contract: the fields, and the trailing run behind them.
use Rattle.frame.proofs.Passes.{fields_ready, run_ready, all_filled}
use Rattle.text_label.specs.Kind.{kind}
use Rattle.text_label.proofs.Mirrored.{acts_are}
use Rattle.text_label.proofs.writing.fill.Goals as goal

pub fill_fields-n-requires : goal.fill_fields-n-requires
fill_fields-n-requires c = fields_ready kind (acts_are c.args.m c.args.languages.now c.args.entries.now c.args.store.now) c.requires

pub copy-requires : goal.copy-requires
unfolding kind
copy-requires c =
    run_ready kind (acts_are c.args.m c.args.languages.now c.args.entries.now c.args.store.now) c.requires c.fill_fields-n.auto.out
    c.fill_fields-n.ensures

pub returns : goal.returns
unfolding kind
returns c =
    all_filled kind (acts_are c.args.m c.args.languages.now c.args.entries.now c.args.store.now) c.requires c.fill_fields-n.auto.out
    c.fill_fields-n.ensures c.copy.ensures
