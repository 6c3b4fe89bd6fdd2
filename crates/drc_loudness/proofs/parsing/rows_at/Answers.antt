-- `drc_loudness::parsing::rows_at` meets its contract: the flag decides.
use mathlib.Core.Path.{sym}
use Rattle.drc_loudness.proofs.Walked.{flag_taken, flag_left, rows_four, rows_one}
use Rattle.drc_loudness.proofs.parsing.rows_at.Goals as goal

pub returns-then-part-eq1 : goal.returns-then-part-eq1
returns-then-part-eq1 c =
    sym
    (rows_four c.args.body.now (flag_taken c.args.body.now c.wide.ensures c.part.ensures c.if-part-eq1.true))

pub returns-else-part-eq1 : goal.returns-else-part-eq1
returns-else-part-eq1 c =
    sym (rows_one c.args.body.now (flag_left c.args.body.now c.wide.ensures c.part.ensures c.if-part-eq1.false))
