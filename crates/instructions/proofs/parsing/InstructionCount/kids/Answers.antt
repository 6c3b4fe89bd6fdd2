-- An instruction is measured: behind the settings the additional IDs, the effect and the limiter are one comparison, and the target loudness is left.
use native.Mathlib.Omega.{arith}
use Rattle.wire.proofs.Fields.{part_below}
use Rattle.wire.proofs.Handed.{handed}
use Rattle.instructions.proofs.Taken.{behind, settings_lack, singles_lack, loud_begun, loud_lack, loud_got}
use borrow.Author.Rules.{rules}
use Rattle.instructions.proofs.parsing.InstructionCount.kids.Goals as goal

pub returns-in_err-n : goal.returns-in_err-n
returns-in_err-n c = rw (handed c.from_residual.result c.from_residual.ensures.1) (settings_lack _ _ c.requires c.in_err-n.ensures)

pub overflow_sub-n : goal.overflow_sub-n
overflow_sub-n c = omega (arith, (behind _ _ c.requires c.in_ok-n.ensures).is)

pub bounds-body-n : goal.bounds-body-n
bounds-body-n c = let b = behind _ _ c.requires c.in_ok-n.ensures in omega (arith, b.is, b.inside)

pub head-requires : goal.head-requires
head-requires c =
    ((behind _ _ c.requires c.in_ok-n.ensures).inside, search (rules, part_below 2 3 c.wide-c.result, part_below 1 1 c.wide-c.result))

pub returns-in_err-m : goal.returns-in_err-m
returns-in_err-m c =
    rw (handed c.from_residual-in_err-m.result c.from_residual-in_err-m.ensures.1)
    (singles_lack (behind _ _ c.requires c.in_ok-n.ensures) c.wide-c.ensures c.part-count.ensures c.part.ensures c.in_err-m.ensures)

pub target_end-requires : goal.target_end-requires
target_end-requires c =
    loud_begun (behind _ _ c.requires c.in_ok-n.ensures) c.wide-c.ensures c.part-count.ensures c.part.ensures c.in_ok-m.ensures c.part-2.ensures

pub returns-in_err-next : goal.returns-in_err-next
returns-in_err-next c =
    rw (handed c.from_residual-in_err-next.result c.from_residual-in_err-next.ensures.1)
    (loud_lack (behind _ _ c.requires c.in_ok-n.ensures) c.wide-c.ensures c.part-count.ensures c.part.ensures c.in_ok-m.ensures c.part-2.ensures c.in_err-next.ensures)

pub returns : goal.returns
returns c =
    loud_got (behind _ _ c.requires c.in_ok-n.ensures) c.wide-c.ensures c.part-count.ensures c.part.ensures c.in_ok-m.ensures c.part-2.ensures c.in_ok-next.ensures
