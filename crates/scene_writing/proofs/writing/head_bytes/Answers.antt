-- `scene_writing::writing::head_bytes` meets its contract.
use Rattle.wire.specs.Spell.{none, more}
use Rattle.scene_writing.proofs.writing.head_bytes.Goals as goal

pub returns : goal.returns
returns c =
    more c.flags_byte.ensures (more (rw c.wide.ensures at c.one.ensures) none)
