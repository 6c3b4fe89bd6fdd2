-- `head_bytes` spells the three bytes that are always there.
use Rattle.wire.specs.Spell.{none, more}
use Rattle.scene_groups.proofs.writing.head_bytes.Goals as goal

pub returns : goal.returns
returns c =
    more (rw c.column.ensures at c.two.ensures)
    (more c.flags_byte.ensures (more (rw (c.column-2.ensures, c.column-3.ensures) at c.two-2.ensures) none))
