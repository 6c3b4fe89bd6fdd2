-- `flags_byte` spells the byte of flags.
use mathlib.Core.List.{List, [], ◌∷◌}
use mathlib.Core.Path.{subst}
use native.Mathlib.Omega.{arith}
use Rattle.wire.specs.Bits.{Field, field, total, widths}
use Rattle.wire.specs.Spell.{Spells}
use Rattle.scene_groups.proofs.writing.flags_byte.Goals as goal

pub returns : goal.returns
unfolding total widths
returns c =
    subst (λ (fs : List Field). Spells fs c.spelt.result)
    (λ i. field 3 (c.column.ensures i) ∷ field 1 (c.column-2.ensures i) ∷ field 1 (c.column-3.ensures i)
    ∷ field 1 (c.column-4.ensures i) ∷ field 1 (c.column-5.ensures i) ∷ field 1 (c.column-6.ensures i) ∷ [])
    (c.spelt.ensures.of _ (omega arith) (c.field-4.ensures.of _ (omega arith) (c.field-3.ensures.of _ (omega arith)
    (c.field-2.ensures.of _ (omega arith) (c.field-on_off.ensures.of _ (omega arith) (c.field.ensures.of _ (omega arith)
    (c.field-reserved.ensures.of _ (omega arith) c.none.ensures)))))))
