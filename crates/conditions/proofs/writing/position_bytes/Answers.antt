-- `writing::position_bytes` meets its contract.
use Rattle.wire.specs.Spell.{none, more}
use Rattle.conditions.proofs.writing.position_bytes.Goals as goal

pub returns : goal.returns
returns c =
    more c.one.ensures (more c.two.ensures (more c.two-2.ensures none))
