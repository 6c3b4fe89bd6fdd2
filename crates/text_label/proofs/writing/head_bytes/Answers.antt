-- `writing::head_bytes` meets its contract.
use Rattle.wire.specs.Spell.{none, more}
use Rattle.text_label.proofs.writing.head_bytes.Goals as goal

pub returns : goal.returns
returns c =
    more (rw c.wide.ensures at c.one.ensures) (more (rw c.wide-2.ensures at c.two.ensures) none)
