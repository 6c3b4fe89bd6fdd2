-- `spell::two` meets its contract.
use native.Mathlib.Omega.{arith}
use Rattle.wire.specs.Bits.{total, widths}
use Rattle.wire.proofs.spell.two.Goals as goal

pub returns : goal.returns
unfolding total widths
returns c =
    c.spelt.ensures.of _ (omega arith)
    (c.field-2.ensures.of _ (omega arith) (c.field.ensures.of _ (omega arith) c.none.ensures))
