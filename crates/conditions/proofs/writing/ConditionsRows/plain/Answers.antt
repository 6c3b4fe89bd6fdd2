use Rattle.conditions.proofs.Writes.{row_acts_lem}
use Rattle.conditions.proofs.writing.ConditionsRows.plain.Goals as goal

pub returns : goal.returns
returns c = rw (c.requires.2, row_acts_lem) at c.plain_bytes.ensures
