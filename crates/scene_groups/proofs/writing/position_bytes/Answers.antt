-- `position_bytes` spells the five bytes of a position.
use Rattle.wire.specs.Spell.{none, more}
use Rattle.scene_groups.proofs.writing.position_bytes.Goals as goal

pub returns : goal.returns
returns c =
    more c.two.ensures (more c.two-2.ensures
    (more c.two-3.ensures (more c.two-4.ensures (more c.two-5.ensures none))))
