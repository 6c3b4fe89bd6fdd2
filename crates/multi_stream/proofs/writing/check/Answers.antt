-- `multi_stream::writing::check` meets its contract: the fields, and the trailing run behind them.
use mathlib.Core.List.{[], ◌∷◌}
use mathlib.Core.Path.{sym, ◌∙◌}
use native.Mathlib.Omega.{arith}
use Rattle.wire.proofs.Writing.Passes.{more}
use Rattle.frame.proofs.Passes.{run_outside, all_looked}
use Rattle.multi_stream.specs.Kind.{kind}
use Rattle.multi_stream.proofs.Mirrored.{acts_are}
use Rattle.multi_stream.proofs.writing.check.Goals as goal

pub returns-then-in_store : goal.returns-then-in_store
unfolding kind
returns-then-in_store c =
    let e = sym c.in_store.ensures ∙ c.if-in_store.true in more 196610
    (all_looked kind (acts_are c.args.m c.args.groups.now c.args.store.now) e c.check_fields.ensures c.run.ensures)
    (omega arith)

pub returns-else-in_store : goal.returns-else-in_store
unfolding kind
returns-else-in_store c = run_outside kind c.args.m (c.args.groups.now ∷ []) c.args.store.now (sym c.in_store.ensures ∙ c.if-in_store.false) _
