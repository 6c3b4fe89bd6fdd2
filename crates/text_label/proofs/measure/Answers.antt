-- `text_label::measure` meets its contract: what the walk along the body sums up.
use Rattle.wire.proofs.Handed.{handed}
use Rattle.frame.proofs.Entries.{measures_long}
use Rattle.text_label.specs.Kind.{kind}
use Rattle.text_label.proofs.Sighted.{head_there, rows_few, measured_so, measured_short}
use borrow.Author.Rules.{rules}
use Rattle.text_label.proofs.measure.Goals as goal

pub returns-then-body-gt65535 : goal.returns-then-body-gt65535
returns-then-body-gt65535 c = measures_long kind _ c.if-body-gt65535.true

pub count_at-requires : goal.count_at-requires
count_at-requires c = head_there _ c.if-body-gt65535.false c.in_ok-entries.ensures

pub overflow_cast-result : goal.overflow_cast-result
overflow_cast-result c = search (rules, rows_few _ c.if-body-gt65535.false c.in_ok-entries.ensures)

pub returns : goal.returns
returns c = measured_so _ c.if-body-gt65535.false c.in_ok-entries.ensures c.count_at.ensures

pub returns-in_err-entries : goal.returns-in_err-entries
returns-in_err-entries c =
    rw (handed c.from_residual.result c.from_residual.ensures.1) (measured_short _ c.if-body-gt65535.false c.in_err-entries.ensures)
