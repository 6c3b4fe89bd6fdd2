-- `scene_writing::writing::flags_byte` meets its contract.
use native.Mathlib.Omega.{arith}
use Rattle.wire.specs.Bits.{total, widths}
use Rattle.scene_writing.proofs.writing.flags_byte.Goals as goal

pub returns : goal.returns
unfolding total widths
returns c =
    rw (← c.flag.ensures, ← c.flag-2.ensures, ← c.flag-3.ensures, ← c.wide.ensures)
    (c.spelt.ensures.of _ (omega arith) (c.field-2.ensures.of _ (omega arith) (c.field.ensures.of _ (omega arith) (c.field-b.ensures.of _ (omega arith) (c.field-a.ensures.of _ (omega arith) c.none.ensures)))))
