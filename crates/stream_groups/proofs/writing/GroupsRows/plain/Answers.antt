use Rattle.stream_groups.proofs.Writes.{row_acts_lem}
use Rattle.stream_groups.proofs.writing.GroupsRows.plain.Goals as goal

pub returns : goal.returns
returns c = rw row_acts_lem at c.plain_bytes.ensures
