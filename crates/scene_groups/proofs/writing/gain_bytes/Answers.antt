-- `gain_bytes` spells the two bytes of a gain.
use Rattle.wire.specs.Spell.{none, more}
use Rattle.scene_groups.proofs.writing.gain_bytes.Goals as goal

pub returns : goal.returns
returns c = more c.two.ensures (more c.two-2.ensures none)
