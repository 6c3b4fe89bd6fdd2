use native.Mathlib.Omega.{arith}
use Rattle.conditions.proofs.Writes.{row_acts_lem}
use Rattle.conditions.proofs.writing.ConditionsRows.fill.Goals as goal

pub fill_condition-requires : goal.fill_condition-requires
fill_condition-requires c = (omega (arith, c.requires.0, c.requires.3), rw (c.requires.3, row_acts_lem) c.requires.2)

pub returns : goal.returns
returns c = rw (c.requires.3, row_acts_lem) at c.fill_condition.ensures
