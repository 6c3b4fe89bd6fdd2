-- `mpegh_c::drc_loudness_body::mpegh_drc_loudness_measure` meets its contract.
use Rattle.drc_kind.specs.Kind.{kind}
use Rattle.mpegh_c.proofs.Hosted.{measures_refused, measures_unroomed, measures_sized}
use Rattle.mpegh_c.proofs.drc_loudness_body.mpegh_drc_loudness_measure.Goals as goal

pub returns-then-rows-lt4 : goal.returns-then-rows-lt4
returns-then-rows-lt4 c =
    measures_unroomed kind c.in-Ok.ensures c.if-rows-lt4.true c.room_code.ensures

pub returns-else-rows-lt4 : goal.returns-else-rows-lt4
returns-else-rows-lt4 c =
    measures_sized kind c.in-Ok.ensures
    c.if-rows-lt4.false c.put_row.ensures c.code.ensures

pub returns-in-Err : goal.returns-in-Err
returns-in-Err c =
    measures_refused kind c.in-Err.ensures c.refusal_code.ensures
