-- `drc_writing::writing::head_bytes` meets its contract.
use Rattle.wire.specs.Spell.{none, more}
use Rattle.drc_writing.proofs.writing.head_bytes.Goals as goal

pub returns : goal.returns
returns c =
    more (rw (c.wide.ensures, c.flag.ensures) at c.two.ensures) none
