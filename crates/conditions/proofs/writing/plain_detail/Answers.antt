-- `writing::plain_detail` meets its contract.
use mathlib.Core.Path.{refl, sym, ◌∙◌}
use Rattle.wire.proofs.Fields.{some_so, none_so}
use Rattle.conditions.specs.Write.{cols_at}
use Rattle.conditions.proofs.Writes.{fit_line, long_so}
use Rattle.conditions.proofs.writing.plain_detail.Goals as goal

pub returns-in_default : goal.returns-in_default
returns-in_default c = long_so (cols_at c.args.conditions.now c.args.b) (sym (fit_line _) ∙ none_so _ _ c.in_default.ensures) refl refl

pub returns-then-plain_position : goal.returns-then-plain_position
returns-then-plain_position c =
    let (p, q) = some_so _ _ c.in-Some.ensures in
    (rw q at c.detail_bytes.ensures)
    ∙ long_so (cols_at c.args.conditions.now c.args.b) (sym (fit_line _) ∙ p) (sym (rw q at c.plain_gain.ensures) ∙ c.if-plain_gain.true)
    (sym c.plain_position.ensures ∙ c.if-plain_position.true)
