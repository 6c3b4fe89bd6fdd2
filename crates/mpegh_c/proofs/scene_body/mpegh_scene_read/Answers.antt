-- `mpegh_c::scene_body::mpegh_scene_read` meets its contract.
use mathlib.Core.Path.{refl}
use Rattle.scene_kind.specs.Rows.{top_row}
use Rattle.scene_kind.specs.Kind.{kind}
use Rattle.scene.proofs.Bare.{headless}
use Rattle.scene.specs.Contract.{sized}
use Rattle.mpegh_c.proofs.Hosted.{reads_neither, reads_unroomed, unread_measured, reads_refused, reads_done}
use Rattle.mpegh_c.proofs.scene_body.mpegh_scene_read.Goals as goal

pub returns-in-Err : goal.returns-in-Err
returns-in-Err c = reads_neither kind _ top_row (headless _ c.in-Err.ensures) c.refusal_code.ensures

pub returns-then-top-lt-TOP_COLUMNS : goal.returns-then-top-lt-TOP_COLUMNS
returns-then-top-lt-TOP_COLUMNS c =
    reads_unroomed kind _ top_row c.if-top-lt-TOP_COLUMNS.true (unread_measured kind sized c.measure.result c.measure.ensures c.unread.ensures)

pub record_at-requires : goal.record_at-requires
record_at-requires c =
    (c.in-Ok.ensures.gives.found, c.in-Ok.ensures.gives.few)

pub put_row-requires : goal.put_row-requires
put_row-requires c =
    rw c.columns.ensures c.if-top-lt-TOP_COLUMNS.false

pub returns-in-Ok : goal.returns-in-Ok
returns-in-Ok c =
    reads_done kind _ top_row c.if-top-lt-TOP_COLUMNS.false
    (c.in-Ok.ensures.gives.reads c.record_at.ensures) refl
    (rw c.columns.ensures at c.put_row.ensures)

pub returns-in-Err-opened : goal.returns-in-Err-opened
returns-in-Err-opened c =
    reads_refused kind _ top_row c.if-top-lt-TOP_COLUMNS.false c.in-Err-opened.ensures.gives c.refusal_code-in-Err-opened.ensures
