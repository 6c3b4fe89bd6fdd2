use Rattle.conditions.proofs.Writes.{row_acts_lem}
use Rattle.conditions.proofs.writing.ConditionsRows.check.Goals as goal

pub returns : goal.returns
returns c = rw (c.of_columns.ensures, row_acts_lem) at c.check_condition.ensures
