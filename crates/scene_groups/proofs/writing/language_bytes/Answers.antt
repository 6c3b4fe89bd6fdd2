-- `language_bytes` spells the three bytes of a language.
use Rattle.wire.specs.Spell.{none, more}
use Rattle.scene_groups.proofs.writing.language_bytes.Goals as goal

pub returns : goal.returns
returns c = more c.one.ensures (more c.one-2.ensures (more c.one-3.ensures none))
