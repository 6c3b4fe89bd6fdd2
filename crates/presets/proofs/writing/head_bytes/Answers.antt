-- `writing::head_bytes` meets its contract.
use Rattle.wire.specs.Spell.{none, more}
use Rattle.presets.proofs.writing.head_bytes.Goals as goal

pub returns : goal.returns
returns c =
    more c.two.ensures (more c.two-2.ensures (more (rw c.requires at c.two-3.ensures) none))
