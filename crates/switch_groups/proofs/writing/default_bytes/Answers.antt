-- `writing::default_bytes` meets its contract.
use Rattle.wire.specs.Spell.{none, more}
use Rattle.switch_groups.proofs.writing.default_bytes.Goals as goal

pub returns : goal.returns
returns c =
    more c.two.ensures none
