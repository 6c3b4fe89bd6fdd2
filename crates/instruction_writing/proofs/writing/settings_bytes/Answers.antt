-- `writing::settings_bytes` meets its contract.
use native.Mathlib.Omega.{arith}
use Rattle.wire.specs.Bits.{total, widths}
use Rattle.wire.specs.Spell.{none, more}
use Rattle.instruction_writing.proofs.writing.settings_bytes.Goals as goal

pub returns : goal.returns
unfolding total widths
returns c =
    more c.two.ensures (more c.two-2.ensures
    (more (c.spelt.ensures.of _ (omega arith) (c.field.ensures.of _ (omega arith) (c.field-c.ensures.of _ (omega arith)
    (c.field-b.ensures.of _ (omega arith) (c.field-a.ensures.of _ (omega arith)
    c.none.ensures))))) none))
