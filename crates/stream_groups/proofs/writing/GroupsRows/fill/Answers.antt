use Rattle.stream_groups.proofs.Writes.{row_acts_lem}
use Rattle.stream_groups.proofs.writing.GroupsRows.fill.Goals as goal

pub fill_group-requires : goal.fill_group-requires
fill_group-requires c = rw (c.of_columns-g.ensures, c.requires.3, row_acts_lem) c.requires.2

pub returns : goal.returns
returns c = rw (c.of_columns-g.ensures, c.requires.3, row_acts_lem) at c.fill_group.ensures
