-- `scene_writing::writing::fill` meets its contract: the fields, and the trailing run behind them.
use mathlib.Core.List.{[], ◌∷◌}
use Rattle.frame.specs.Kind.{Lent}
use Rattle.frame.proofs.Passes.{fields_ready, run_ready, all_filled}
use Rattle.scene_kind.specs.Kind.{kind}
use Rattle.scene_writing.proofs.Writes.{scene_acts_lem}
use Rattle.scene_writing.proofs.writing.fill.Goals as goal

pub fill_fields-n-requires : goal.fill_fields-n-requires
fill_fields-n-requires c =
    let lent : Lent = c.args.groups.now ∷ c.args.switch_groups.now ∷ c.args.members.now ∷ c.args.presets.now ∷ c.args.conditions.now ∷ [] in
    fields_ready kind (scene_acts_lem c.args.m lent c.args.store.now) c.requires

pub copy_payload-requires : goal.copy_payload-requires
unfolding kind
copy_payload-requires c =
    let lent : Lent = c.args.groups.now ∷ c.args.switch_groups.now ∷ c.args.members.now ∷ c.args.presets.now ∷ c.args.conditions.now ∷ [] in
    run_ready kind (scene_acts_lem c.args.m lent c.args.store.now) c.requires c.fill_fields-n.auto.out c.fill_fields-n.ensures

pub returns : goal.returns
unfolding kind
returns c =
    let lent : Lent = c.args.groups.now ∷ c.args.switch_groups.now ∷ c.args.members.now ∷ c.args.presets.now ∷ c.args.conditions.now ∷ [] in
    all_filled kind (scene_acts_lem c.args.m lent c.args.store.now) c.requires c.fill_fields-n.auto.out c.fill_fields-n.ensures
    c.copy_payload.ensures
