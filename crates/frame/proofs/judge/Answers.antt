-- `frame::judge` meets its contract: each end of the check pass, then each test.
use mathlib.Core.Path.{◌∙◌}
use native.Mathlib.Omega.{arith}
use Rattle.wire.proofs.Handed.{handed}
use Rattle.frame.proofs.Output.{verdict_wrong, verdict_long, verdict_short, verdict_done}
use Rattle.frame.proofs.judge.Goals as goal

pub returns-then-n-gt65535 : goal.returns-then-n-gt65535
returns-then-n-gt65535 c = verdict_long c.in_ok-n.was _ (omega arith)

pub returns-then-room-n : goal.returns-then-room-n
returns-then-room-n c = verdict_short c.in_ok-n.was _ (omega arith) (omega arith)

pub returns-in_err-n : goal.returns-in_err-n
returns-in_err-n c = handed c.from_residual.result c.from_residual.ensures.1 ∙ verdict_wrong c.in_err-n.was _

pub returns : goal.returns
returns c = verdict_done c.in_ok-n.was _ (omega arith) (omega arith)
