-- `wire::reads::run_at` meets its contract: the run ends within the body, or not.
use mathlib.Core.Path.{sym}
use native.Mathlib.Omega.{arith}
use Rattle.wire.proofs.Reading.Steps.{got_run, lacks_run}
use Rattle.wire.proofs.reads.run_at.Goals as goal

pub returns-then-count-body : goal.returns-then-count-body
returns-then-count-body c = sym (got_run _ _ _ (omega arith))

pub returns-else-count-body : goal.returns-else-count-body
returns-else-count-body c = sym (lacks_run _ _ _ (omega arith))
