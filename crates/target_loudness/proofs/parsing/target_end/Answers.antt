-- `parsing::target_end` meets its contract.
use mathlib.Core.Path.{ap}
use native.Mathlib.Omega.{arith}
use Rattle.wire.specs.Bits.{part}
use Rattle.wire.proofs.Handed.{handed}
use Rattle.wire.proofs.Layouts.Straight.{behind_one, one_cut, one_more}
use Rattle.wire.proofs.Fields.{part_below}
use Rattle.target_loudness.proofs.Taken.{there_ends, none_ends}
use Rattle.target_loudness.proofs.parsing.target_end.Goals as goal

pub returns-in_err-n : goal.returns-in_err-n
returns-in_err-n c = rw (handed c.from_residual.result c.from_residual.ensures.1) (there_ends _ _ c.if-present-eq1.true (one_cut _ _ _ c.in_err-n.ensures))

pub bounds-body-at : goal.bounds-body-at
bounds-body-at c = (behind_one _ _ c.requires.0 c.in_ok-n.ensures).there

pub head-requires-then-present-eq1 : goal.head-requires-then-present-eq1
head-requires-then-present-eq1 c =
    ((behind_one _ _ c.requires.0 c.in_ok-n.ensures).inside, omega (arith, c.part.ensures, part_below 0 1 c.wide.result))

pub returns-in_ok-n : goal.returns-in_ok-n
returns-in_ok-n c =
    there_ends _ _ c.if-present-eq1.true
    (one_more (behind_one _ _ c.requires.0 c.in_ok-n.ensures) (omega (arith, c.part.ensures, ap (part 0 1) c.wide.ensures)) c.head-then-present-eq1.ensures)

pub returns-else-present-eq1 : goal.returns-else-present-eq1
returns-else-present-eq1 c =
    none_ends _ _ c.if-present-eq1.false
