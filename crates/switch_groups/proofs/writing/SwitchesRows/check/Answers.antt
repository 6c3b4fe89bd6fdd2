use Rattle.switch_groups.proofs.Writes.{row_acts_lem}
use Rattle.switch_groups.proofs.writing.SwitchesRows.check.Goals as goal

pub returns : goal.returns
returns c = rw (c.of_columns-g.ensures, row_acts_lem) at c.check_switch_group.ensures
