-- `drc_loudness::parsing::head_end` meets its contract: the first byte, and the counts if its flag is set.
use native.Mathlib.Omega.{arith}
use Rattle.wire.proofs.Handed.{handed}
use Rattle.wire.proofs.Layouts.Straight.{ones_past}
use Rattle.drc_loudness.proofs.Walked.{flag_taken, flag_left, head_short, head_alone, head_whole}
use Rattle.drc_loudness.proofs.parsing.head_end.Goals as goal

pub returns-in_err-n : goal.returns-in_err-n
returns-in_err-n c = rw (handed c.from_residual.result c.from_residual.ensures.1) (head_short c.args.body.now c.in_err-n.ensures)

pub bounds-body-0 : goal.bounds-body-0
bounds-body-0 c =
    let h = (ones_past 1 c.args.body.now 0 (omega arith) c.in_ok-n.ensures).inside in omega arith

pub head-requires-then-part-eq1 : goal.head-requires-then-part-eq1
head-requires-then-part-eq1 c =
    let h = ones_past 1 c.args.body.now 0 (omega arith) c.in_ok-n.ensures in (omega (arith, h.is, h.inside), omega arith)

pub returns-then-part-eq1 : goal.returns-then-part-eq1
returns-then-part-eq1 c =
    head_whole c.args.body.now c.in_ok-n.ensures
    (flag_taken c.args.body.now c.wide.ensures c.part.ensures c.if-part-eq1.true) c.head-then-part-eq1.ensures

pub returns-else-part-eq1 : goal.returns-else-part-eq1
returns-else-part-eq1 c =
    head_alone c.args.body.now c.in_ok-n.ensures
    (flag_left c.args.body.now c.wide.ensures c.part.ensures c.if-part-eq1.false)
