-- `writing::fill_gain` meets its contract.
use Rattle.wire.specs.Spell.{none, more}
use Rattle.conditions.proofs.Writes.{part_ready, part_filled, part_absent}
use Rattle.conditions.proofs.writing.fill_gain.Goals as goal

pub fill_all-requires : goal.fill_all-requires
fill_all-requires c =
    search (part_ready, more (rw c.of_columns-c.ensures at c.one.ensures) none)

pub returns-then-there : goal.returns-then-there
returns-then-there c =
    search (part_filled, more (rw c.of_columns-c.ensures at c.one.ensures) none)

pub returns-else-there : goal.returns-else-there
returns-else-there c = search part_absent
