-- `writing::letter_bytes` meets its contract.
use Rattle.wire.specs.Spell.{none, more}
use Rattle.text_label.proofs.writing.letter_bytes.Goals as goal

pub returns : goal.returns
returns c = more c.one.ensures (more c.one-2.ensures (more c.one-3.ensures none))
