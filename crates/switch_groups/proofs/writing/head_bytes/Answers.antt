-- `writing::head_bytes` meets its contract.
use Rattle.wire.specs.Spell.{none, more}
use Rattle.switch_groups.proofs.writing.head_bytes.Goals as goal

pub returns : goal.returns
returns c =
    more c.id_byte.ensures (more (rw c.less_one.ensures at c.two.ensures) none)
