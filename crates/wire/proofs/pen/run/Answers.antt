-- The promise is for any bytes of that length.
use mathlib.Core.Path.{sym, ◌∙◌}
use native.Mathlib.Omega.{arith}
use Rattle.wire.specs.Pen.{look}
use Rattle.wire.proofs.Handed.{handed}
use Rattle.wire.proofs.Writing.Passes.{one, stopped}
use Rattle.wire.proofs.pen.run.Goals as goal

pub returns-in_err-n : goal.returns-in_err-n
returns-in_err-n c = rw (handed c.from_residual.result c.from_residual.ensures.1 ∙ sym c.in_err-n.was) (record { of = λ l e. stopped _ _ c.in_err-n.was })

pub overflow_add-result : goal.overflow_add-result
overflow_add-result c = let r = rw c.in_ok-n.was at c.requires.1 in omega arith

pub returns : goal.returns
unfolding look
returns c = record { of = λ l e. one _ _ _ c.in_ok-n.was (rw e) (omega arith) }
