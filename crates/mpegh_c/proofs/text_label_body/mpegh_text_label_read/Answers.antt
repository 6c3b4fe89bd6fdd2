-- `mpegh_c::text_label_body::mpegh_text_label_read` meets its contract.
use mathlib.Core.Path.{refl}
use Rattle.text_label.specs.Rows.{top_row}
use Rattle.text_label.specs.Kind.{kind}
use Rattle.text_label.proofs.Parsed.{headless}
use Rattle.mpegh_c.proofs.Hosted.{reads_neither, reads_unroomed, reads_refused, reads_done}
use Rattle.mpegh_c.proofs.text_label_body.mpegh_text_label_read.Goals as goal

pub returns-in-Err : goal.returns-in-Err
returns-in-Err c = reads_neither kind _ top_row (headless _ c.in-Err.ensures) c.refusal_code.ensures

pub returns-then-top-lt-TOP_COLUMNS : goal.returns-then-top-lt-TOP_COLUMNS
returns-then-top-lt-TOP_COLUMNS c = reads_unroomed kind _ top_row c.if-top-lt-TOP_COLUMNS.true c.unread.ensures

pub returns-in-Ok : goal.returns-in-Ok
returns-in-Ok c =
    reads_done kind _ top_row c.if-top-lt-TOP_COLUMNS.false c.in-Ok.ensures refl
    (rw c.columns.ensures at c.put_row.ensures)

pub returns-in-Err-read : goal.returns-in-Err-read
returns-in-Err-read c =
    reads_refused kind _ top_row c.if-top-lt-TOP_COLUMNS.false
    c.in-Err-read.ensures c.refusal_code-in-Err-read.ensures
