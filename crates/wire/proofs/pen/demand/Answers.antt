-- `wire::pen::demand` meets its contract.
use mathlib.Core.Path.{sym, ◌∙◌}
use native.Mathlib.Omega.{arith}
use Rattle.wire.specs.Pen.{look}
use Rattle.wire.proofs.Handed.{handed}
use Rattle.wire.proofs.Writing.Passes.{one, stopped}
use Rattle.wire.proofs.pen.demand.Goals as goal

pub returns-in_err-n : goal.returns-in_err-n
returns-in_err-n c = rw (handed c.from_residual.result c.from_residual.ensures.1 ∙ sym c.in_err-n.was) (stopped _ _ c.in_err-n.was)

pub returns-then-ok : goal.returns-then-ok
unfolding look
returns-then-ok c = one _ _ _ c.in_ok-n.was (rw c.if-ok.true) (omega arith)

pub returns-else-ok : goal.returns-else-ok
unfolding look
returns-else-ok c = one _ _ _ c.in_ok-n.was (rw c.if-ok.false) (omega arith)
