-- `base::parsing::end` meets its contract: the three bytes, and the sets behind them.
use mathlib.Core.Path.{ap, ◌∙◌}
use native.Mathlib.Omega.{arith}
use Rattle.wire.specs.Bits.{part}
use Rattle.wire.proofs.Handed.{handed}
use Rattle.base.proofs.Parsed.{three_cut, three_there, three_sets}
use Rattle.base.proofs.parsing.end.Goals as goal

pub returns-in_err-n : goal.returns-in_err-n
returns-in_err-n c = rw (handed c.from_residual.result c.from_residual.ensures.1) (three_cut _ c.in_err-n.ensures)

pub bounds-body-1 : goal.bounds-body-1
bounds-body-1 c = let h = (three_there _ c.in_ok-n.ensures).inside in omega (arith, h)

pub sets_end-requires : goal.sets_end-requires
sets_end-requires c = let h = three_there _ c.in_ok-n.ensures in omega (arith, h.is, h.inside)

pub returns : goal.returns
returns c = three_sets _ c.in_ok-n.ensures (c.part.ensures ∙ ap (part 6 1) c.wide.ensures) c.sets_end.ensures
