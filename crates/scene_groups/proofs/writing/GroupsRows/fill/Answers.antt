use native.Mathlib.Omega.{arith}
use Rattle.scene_groups.proofs.Writes.{row_acts_lem}
use Rattle.scene_groups.proofs.writing.GroupsRows.fill.Goals as goal

pub fill_group-requires : goal.fill_group-requires
fill_group-requires c = (omega (arith, c.requires.0, c.requires.3), rw (c.requires.3, row_acts_lem) c.requires.2)

pub returns : goal.returns
returns c = rw (c.requires.3, row_acts_lem) at c.fill_group.ensures
