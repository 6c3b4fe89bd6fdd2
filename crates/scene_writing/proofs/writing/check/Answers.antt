-- `scene_writing::writing::check` meets its contract: the fields, and the trailing run behind them.
use mathlib.Core.List.{[], ◌∷◌}
use mathlib.Core.Path.{sym, ◌∙◌}
use native.Mathlib.Omega.{arith}
use Rattle.wire.proofs.Writing.Passes.{more}
use Rattle.frame.proofs.Passes.{run_outside, all_looked}
use Rattle.scene_kind.specs.Kind.{kind}
use Rattle.scene_writing.proofs.Writes.{scene_acts_lem}
use Rattle.scene_writing.proofs.writing.check.Goals as goal

pub returns-then-in_store : goal.returns-then-in_store
unfolding kind
returns-then-in_store c =
    let e = sym c.in_store.ensures ∙ c.if-in_store.true in
    more 71345
    (all_looked kind (scene_acts_lem c.args.m (c.args.groups.now ∷ c.args.switch_groups.now ∷ c.args.members.now ∷ c.args.presets.now ∷ c.args.conditions.now ∷ []) c.args.store.now) e c.check_fields-p.ensures c.payload_run.ensures.0)
    (omega (arith, c.payload_run.ensures.1))

pub returns-else-in_store : goal.returns-else-in_store
unfolding kind
returns-else-in_store c = run_outside kind c.args.m (c.args.groups.now ∷ c.args.switch_groups.now ∷ c.args.members.now ∷ c.args.presets.now ∷ c.args.conditions.now ∷ []) c.args.store.now (sym c.in_store.ensures ∙ c.if-in_store.false) _
