-- `drc_writing::writing::fill` meets its contract: the fields, and the trailing run behind them.
use mathlib.Core.List.{[], ◌∷◌}
use Rattle.frame.specs.Kind.{Lent}
use Rattle.frame.proofs.Passes.{fields_ready, run_ready, all_filled}
use Rattle.drc_kind.specs.Kind.{kind}
use Rattle.drc_writing.proofs.Writes.{drc_acts_lem}
use Rattle.drc_writing.proofs.writing.fill.Goals as goal

pub fill_fields-n-requires : goal.fill_fields-n-requires
fill_fields-n-requires c =
    let lent : Lent = c.args.instructions.now ∷ c.args.additional.now ∷ c.args.loudness.now ∷ c.args.downmixes.now ∷ [] in
    fields_ready kind (drc_acts_lem c.args.m lent c.args.store.now) c.requires

pub copy_payload-requires : goal.copy_payload-requires
unfolding kind
copy_payload-requires c =
    let lent : Lent = c.args.instructions.now ∷ c.args.additional.now ∷ c.args.loudness.now ∷ c.args.downmixes.now ∷ [] in
    run_ready kind (drc_acts_lem c.args.m lent c.args.store.now) c.requires c.fill_fields-n.auto.out c.fill_fields-n.ensures

pub returns : goal.returns
unfolding kind
returns c =
    let lent : Lent = c.args.instructions.now ∷ c.args.additional.now ∷ c.args.loudness.now ∷ c.args.downmixes.now ∷ [] in
    all_filled kind (drc_acts_lem c.args.m lent c.args.store.now) c.requires c.fill_fields-n.auto.out c.fill_fields-n.ensures
    c.copy_payload.ensures
