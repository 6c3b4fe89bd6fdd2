-- `mpegh_c::multi_stream_body::mpegh_multi_stream_measure` meets its contract.
use Rattle.multi_stream.specs.Kind.{kind}
use Rattle.mpegh_c.proofs.Hosted.{measures_refused, measures_unroomed, measures_sized}
use Rattle.mpegh_c.proofs.multi_stream_body.mpegh_multi_stream_measure.Goals as goal

pub returns-then-rows-lt1 : goal.returns-then-rows-lt1
returns-then-rows-lt1 c =
    measures_unroomed kind c.in-Ok.ensures c.if-rows-lt1.true c.room_code.ensures

pub returns-else-rows-lt1 : goal.returns-else-rows-lt1
returns-else-rows-lt1 c =
    measures_sized kind c.in-Ok.ensures
    c.if-rows-lt1.false c.put_row.ensures c.code.ensures

pub returns-in-Err : goal.returns-in-Err
returns-in-Err c =
    measures_refused kind c.in-Err.ensures c.refusal_code.ensures
