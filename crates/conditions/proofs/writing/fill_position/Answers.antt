-- `writing::fill_position` meets its contract.
use Rattle.conditions.proofs.Writes.{part_absent}
use Rattle.conditions.proofs.writing.fill_position.Goals as goal

pub returns-else-there : goal.returns-else-there
returns-else-there c = search part_absent
