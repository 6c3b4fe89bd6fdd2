-- `writing::lower_bytes` meets its contract.
use Rattle.wire.specs.Spell.{none, more}
use Rattle.target_loudness.proofs.writing.lower_bytes.Goals as goal

pub returns : goal.returns
returns c =
    more c.two.ensures none
