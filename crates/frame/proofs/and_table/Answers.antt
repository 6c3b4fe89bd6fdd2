-- `frame::and_table` meets its contract: a table that lacked before stands, else this one is judged.
use mathlib.Core.Path.{sym, ◌∙◌}
use Rattle.wire.proofs.Handed.{handed}
use Rattle.frame.proofs.Tables.{lacks_before, has_table, lacks_table}
use Rattle.frame.proofs.and_table.Goals as goal

pub returns-in_err-r : goal.returns-in_err-r
returns-in_err-r c = handed c.from_residual.result c.from_residual.ensures.1 ∙ lacks_before _ _ c.in_err-r.was

pub returns-then-has_rows : goal.returns-then-has_rows
returns-then-has_rows c =
    has_table _ _ c.in_ok-r.was (sym c.has_rows.ensures ∙ c.if-has_rows.true)

pub returns-else-has_rows : goal.returns-else-has_rows
returns-else-has_rows c =
    lacks_table _ _ c.in_ok-r.was (sym c.has_rows.ensures ∙ c.if-has_rows.false)
