-- `base::writing::flags_byte` meets its contract.
use mathlib.Core.List.{List, [], ◌∷◌}
use mathlib.Core.Path.{subst}
use native.Mathlib.Omega.{arith}
use Rattle.wire.specs.Bits.{Field, field, total, widths}
use Rattle.wire.specs.Spell.{Spells}
use Rattle.base.proofs.writing.flags_byte.Goals as goal

pub returns : goal.returns
unfolding total widths
returns c =
    subst (λ (fs : List Field). Spells fs c.spelt.result)
    (λ i. field 1 (c.flag.ensures i) ∷ field 1 (c.flag-2.ensures i) ∷ field 6 (c.wide.ensures i) ∷ [])
    (c.spelt.ensures.of _ (omega arith) (c.field-3.ensures.of _ (omega arith) (c.field-2.ensures.of _ (omega arith) (c.field.ensures.of _ (omega arith) c.none.ensures))))
