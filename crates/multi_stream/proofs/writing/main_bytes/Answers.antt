-- `multi_stream::writing::main_bytes` meets its contract.
use Rattle.wire.specs.Spell.{none, more}
use Rattle.multi_stream.proofs.writing.main_bytes.Goals as goal

pub returns : goal.returns
returns c =
    more (rw (c.wide.ensures, c.wide-2.ensures) at c.two.ensures)
    (more (rw c.wide-3.ensures at c.two-2.ensures) none)
