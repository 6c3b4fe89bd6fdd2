use Rattle.scene_groups.proofs.Writes.{row_acts_lem}
use Rattle.scene_groups.proofs.writing.GroupsRows.check.Goals as goal

pub returns : goal.returns
returns c = rw row_acts_lem at c.check_group.ensures
