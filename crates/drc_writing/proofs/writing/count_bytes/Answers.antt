-- `drc_writing::writing::count_bytes` meets its contract.
use Rattle.wire.specs.Spell.{none, more}
use Rattle.drc_writing.proofs.writing.count_bytes.Goals as goal

pub returns : goal.returns
returns c =
    more (rw c.wide.ensures at c.two.ensures)
    (more (rw c.wide-2.ensures at c.two-2.ensures) (more (rw c.wide-3.ensures at c.two-3.ensures) none))
