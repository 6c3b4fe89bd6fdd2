-- `writing::id_byte` meets its contract.
use native.Mathlib.Omega.{arith}
use Rattle.wire.specs.Bits.{total, widths}
use Rattle.switch_groups.proofs.writing.id_byte.Goals as goal

pub returns : goal.returns
unfolding total widths
returns c =
    c.spelt.ensures.of _ (omega arith) (c.field-2.ensures.of _ (omega arith)
    (c.field.ensures.of _ (omega arith) (c.field-b.ensures.of _ (omega arith) (c.field-a.ensures.of _ (omega arith)
    c.none.ensures))))
