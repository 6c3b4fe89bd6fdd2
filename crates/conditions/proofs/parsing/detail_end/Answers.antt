-- `parsing::detail_end` meets its contract.
use mathlib.Core.Path.{ap, ◌∙◌}
use native.Mathlib.Omega.{arith}
use Rattle.wire.proofs.Handed.{handed}
use Rattle.wire.proofs.Layouts.Straight.{behind_one, one_cut, one_more}
use Rattle.conditions.specs.Rows.{behind}
use Rattle.conditions.proofs.parsing.detail_end.Goals as goal

pub returns-in_err-n : goal.returns-in_err-n
returns-in_err-n c = rw (handed c.from_residual.result c.from_residual.ensures.1) (one_cut _ _ _ c.in_err-n.ensures)

pub bounds-body-at : goal.bounds-body-at
bounds-body-at c = (behind_one _ _ c.requires c.in_ok-n.ensures).there

pub head-requires-2 : goal.head-requires-2
head-requires-2 c = ((behind_one _ _ c.requires c.in_ok-n.ensures).inside, omega (arith, c.behind.ensures.1))

pub returns : goal.returns
returns c = one_more (behind_one _ _ c.requires c.in_ok-n.ensures) (c.behind.ensures.0 ∙ ap behind c.wide.ensures) c.head-2.ensures
