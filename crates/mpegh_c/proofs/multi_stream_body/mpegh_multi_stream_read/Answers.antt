-- `mpegh_c::multi_stream_body::mpegh_multi_stream_read` meets its contract.
use mathlib.Core.Path.{refl}
use Rattle.multi_stream.specs.Rows.{top_row}
use Rattle.multi_stream.specs.Kind.{kind}
use Rattle.multi_stream.specs.Contract.{sized}
use Rattle.mpegh_c.proofs.Hosted.{reads_unroomed, unread_measured, reads_refused, reads_done}
use Rattle.mpegh_c.proofs.multi_stream_body.mpegh_multi_stream_read.Goals as goal

pub returns-then-top-lt-TOP_COLUMNS : goal.returns-then-top-lt-TOP_COLUMNS
returns-then-top-lt-TOP_COLUMNS c =
    reads_unroomed kind _ top_row c.if-top-lt-TOP_COLUMNS.true (unread_measured kind (λ s. sized s.groups s.k) c.measure.result c.measure.ensures c.unread.ensures)

pub returns-in-Ok : goal.returns-in-Ok
returns-in-Ok c =
    reads_done kind _ top_row c.if-top-lt-TOP_COLUMNS.false c.in-Ok.ensures refl
    (rw c.columns.ensures at c.put_row.ensures)

pub returns-in-Err : goal.returns-in-Err
returns-in-Err c =
    reads_refused kind _ top_row c.if-top-lt-TOP_COLUMNS.false
    c.in-Err.ensures c.refusal_code.ensures
