use Rattle.switch_groups.proofs.Writes.{row_acts_lem}
use Rattle.switch_groups.proofs.writing.SwitchesRows.fill.Goals as goal

pub fill_switch_group-requires : goal.fill_switch_group-requires
fill_switch_group-requires c = rw (c.of_columns-g.ensures, c.requires.3, row_acts_lem) c.requires.2

pub returns : goal.returns
returns c = rw (c.of_columns-g.ensures, c.requires.3, row_acts_lem) at c.fill_switch_group.ensures
