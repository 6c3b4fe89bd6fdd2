-- `parsing::settings_end` meets its contract: behind the type byte the ID and three bytes are one comparison.
use mathlib.Core.Path.{sym, ap, ◌∙◌}
use native.Mathlib.Omega.{arith}
use Prim.Native.Nat.{ℕ, ◌+◌}
use mathlib.Core.List.{List}
use Rattle.wire.specs.Bits.{part}
use Rattle.wire.specs.Straight.{ends}
use Rattle.wire.proofs.Handed.{handed}
use Rattle.wire.proofs.Layouts.Straight.{behind_one, one_cut, one_more}
use Rattle.scopes.specs.Rows.{id_bytes}
use Rattle.instructions.specs.Layout.{types}
use Rattle.instructions.proofs.Taken.{id_of, settings_spans}
use Rattle.instructions.proofs.parsing.settings_end.Goals as goal

pub returns-in_err-n : goal.returns-in_err-n
returns-in_err-n c =
    rw (handed c.from_residual.result c.from_residual.ensures.1)
    (one_cut (id_of c.args.body.now c.args.at + 3) _ _ c.in_err-n.ensures ∙ ap (λ (l : List ℕ). ends l c.args.body.now c.args.at) (sym (settings_spans c.args.body.now c.args.at)))

pub bounds-body-at : goal.bounds-body-at
bounds-body-at c = (behind_one _ _ c.requires c.in_ok-n.ensures).there

pub head-requires-2 : goal.head-requires-2
head-requires-2 c = ((behind_one _ _ c.requires c.in_ok-n.ensures).inside, omega (arith, c.id_bytes.ensures.1))

pub returns : goal.returns
returns c =
    one_more (behind_one _ _ c.requires c.in_ok-n.ensures) (ap (λ (k : ℕ). k + 3) (c.id_bytes.ensures.0 ∙ ap (id_bytes types)
    (c.part.ensures ∙ ap (part 0 2) c.wide.ensures))) c.head-2.ensures ∙ ap
    (λ (l : List ℕ). ends l c.args.body.now c.args.at) (sym (settings_spans c.args.body.now c.args.at))
