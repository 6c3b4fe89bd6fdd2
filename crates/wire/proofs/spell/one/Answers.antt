-- `spell::one` meets its contract.
use native.Mathlib.Omega.{arith}
use Rattle.wire.specs.Bits.{total, widths}
use Rattle.wire.proofs.spell.one.Goals as goal

pub returns : goal.returns
unfolding total widths
returns c = c.spelt.ensures.of _ (omega arith) (c.field.ensures.of _ (omega arith) c.none.ensures)
