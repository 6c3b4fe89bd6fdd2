-- `writing::plain_bytes` meets its contract.
use mathlib.Core.Path.{sym, ◌∙◌}
use Rattle.conditions.proofs.Writes.{fit_line, odd_id, with_detail, no_detail_lem}
use Rattle.conditions.proofs.writing.plain_bytes.Goals as goal

pub returns-then-not-two_fit : goal.returns-then-not-two_fit
returns-then-not-two_fit c =
    odd_id _ (sym (fit_line _) ∙ sym (rw c.of_columns-c.ensures at c.two_fit.ensures) ∙ c.if-not-two_fit.true)

pub returns-then-c-eq1 : goal.returns-then-c-eq1
returns-then-c-eq1 c =
    let o = c.of_columns-c.ensures in
    with_detail _ (sym (fit_line _) ∙ sym (rw o at c.two_fit.ensures) ∙ c.if-not-two_fit.false) (rw o at c.if-c-eq1.true) c.plain_detail.ensures

pub returns-else-c-eq1 : goal.returns-else-c-eq1
returns-else-c-eq1 c =
    let o = c.of_columns-c.ensures in
    no_detail_lem _ (sym (fit_line _) ∙ sym (rw o at c.two_fit.ensures) ∙ c.if-not-two_fit.false) (rw o at c.if-c-eq1.false)
