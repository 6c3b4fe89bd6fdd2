-- `drc_loudness::parsing::info_at` meets its contract: the flag decides.
use native.Mathlib.Omega.{arith}
use Rattle.drc_loudness.proofs.Walked.{flag_taken, flag_left, rows_four, info_of_lem, info_none}
use Rattle.drc_loudness.proofs.parsing.info_at.Goals as goal

pub info_there-requires : goal.info_there-requires
info_there-requires c =
    omega
    (arith, c.requires.1, rows_four c.args.body.now (flag_taken c.args.body.now c.wide.ensures c.part.ensures c.if-part-eq1.true))

pub returns-then-part-eq1 : goal.returns-then-part-eq1
returns-then-part-eq1 c =
    info_of_lem _
    (flag_taken c.args.body.now c.wide.ensures c.part.ensures c.if-part-eq1.true)
    c.info_there.ensures c.of.ensures

pub returns-else-part-eq1 : goal.returns-else-part-eq1
returns-else-part-eq1 c =
    info_none _ (flag_left c.args.body.now c.wide.ensures c.part.ensures c.if-part-eq1.false)
    c.absent.ensures
