-- `writing::limiter_bytes` meets its contract.
use Rattle.wire.specs.Spell.{none, more}
use Rattle.instruction_writing.proofs.writing.limiter_bytes.Goals as goal

pub returns : goal.returns
returns c =
    more c.one.ensures none
