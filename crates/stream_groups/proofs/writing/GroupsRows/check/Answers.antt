use Rattle.stream_groups.proofs.Writes.{row_acts_lem}
use Rattle.stream_groups.proofs.writing.GroupsRows.check.Goals as goal

pub returns : goal.returns
returns c = rw (c.of_columns.ensures, row_acts_lem) at c.check_group.ensures
