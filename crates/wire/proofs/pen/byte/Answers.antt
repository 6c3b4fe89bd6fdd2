-- The promise is for any fields whose test is `ok`.
use mathlib.Core.Path.{sym, ◌∙◌}
use native.Mathlib.Omega.{arith}
use Rattle.wire.specs.Pen.{look}
use Rattle.wire.proofs.Handed.{handed}
use Rattle.wire.proofs.Writing.Passes.{one, stopped}
use Rattle.wire.proofs.pen.byte.Goals as goal

pub returns-in_err-n : goal.returns-in_err-n
returns-in_err-n c = rw (handed c.from_residual.result c.from_residual.ensures.1 ∙ sym c.in_err-n.was) (record { of = λ fs e. stopped _ _ c.in_err-n.was })

pub overflow_add-result : goal.overflow_add-result
overflow_add-result c = let r = rw c.in_ok-n.was at c.requires in omega arith

pub returns-then-ok : goal.returns-then-ok
unfolding look
returns-then-ok c = record { of = λ fs e. one _ _ _ c.in_ok-n.was (rw (sym e ∙ c.if-ok.true)) (omega arith) }

pub returns-else-ok : goal.returns-else-ok
unfolding look
returns-else-ok c = record { of = λ fs e. one _ _ _ c.in_ok-n.was (rw (sym e ∙ c.if-ok.false)) (omega arith) }
