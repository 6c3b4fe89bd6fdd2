use Rattle.switch_groups.proofs.Writes.{row_acts_lem}
use Rattle.switch_groups.proofs.writing.SwitchesRows.plain.Goals as goal

pub returns : goal.returns
returns c = rw (c.of_columns-g.ensures, c.requires.2, row_acts_lem) at c.plain_bytes.ensures
