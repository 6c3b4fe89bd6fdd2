-- `drc_loudness::room` meets its contract: table after table.
use mathlib.Core.Path.{refl}
use Rattle.frame.specs.Entry.{first_table, other_tables}
use Rattle.frame.specs.Sight.{and_tables}
use Rattle.drc_loudness.proofs.room.Goals as goal

pub returns : goal.returns
unfolding and_tables first_table other_tables
returns c =
    rw (c.and_table.ensures, c.and_table-c.ensures, c.and_table-b.ensures, c.and_table-a.ensures) refl
