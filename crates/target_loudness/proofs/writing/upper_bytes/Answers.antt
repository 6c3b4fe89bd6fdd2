-- `writing::upper_bytes` meets its contract.
use native.Mathlib.Omega.{arith}
use Rattle.wire.specs.Bits.{total, widths}
use Rattle.wire.specs.Spell.{none, more}
use Rattle.target_loudness.proofs.writing.upper_bytes.Goals as goal

pub returns : goal.returns
unfolding total widths
returns c =
    more (c.spelt.ensures.of _ (omega arith) (c.field-2.ensures.of _ (omega arith)
    (c.field.ensures.of _ (omega arith) (c.field-a.ensures.of _ (omega arith) c.none.ensures)))) none
