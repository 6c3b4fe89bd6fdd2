-- `mpegh_c::scene_body::mpegh_scene_measure` meets its contract.
use Rattle.scene_kind.specs.Kind.{kind}
use Rattle.mpegh_c.proofs.Hosted.{measures_refused, measures_unroomed, measures_sized}
use Rattle.mpegh_c.proofs.scene_body.mpegh_scene_measure.Goals as goal

pub returns-then-rows-lt5 : goal.returns-then-rows-lt5
returns-then-rows-lt5 c =
    measures_unroomed kind c.in-Ok.ensures c.if-rows-lt5.true c.room_code.ensures

pub returns-else-rows-lt5 : goal.returns-else-rows-lt5
returns-else-rows-lt5 c =
    measures_sized kind c.in-Ok.ensures
    c.if-rows-lt5.false c.put_row.ensures c.code.ensures

pub returns-in-Err : goal.returns-in-Err
returns-in-Err c =
    measures_refused kind c.in-Err.ensures c.refusal_code.ensures
