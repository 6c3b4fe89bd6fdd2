-- `writing::downmix_bytes` meets its contract.
use Rattle.wire.specs.Spell.{none, more}
use Rattle.downmixes.proofs.writing.downmix_bytes.Goals as goal

pub returns : goal.returns
returns c =
    more c.two.ensures (more c.two-2.ensures none)
