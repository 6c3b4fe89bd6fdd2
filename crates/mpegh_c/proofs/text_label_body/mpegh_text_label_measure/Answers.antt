-- `mpegh_c::text_label_body::mpegh_text_label_measure` meets its contract.
use Rattle.text_label.specs.Kind.{kind}
use Rattle.mpegh_c.proofs.Hosted.{measures_refused, measures_unroomed, measures_sized}
use Rattle.mpegh_c.proofs.text_label_body.mpegh_text_label_measure.Goals as goal

pub returns-then-rows-lt2 : goal.returns-then-rows-lt2
returns-then-rows-lt2 c =
    measures_unroomed kind c.in-Ok.ensures c.if-rows-lt2.true c.room_code.ensures

pub returns-else-rows-lt2 : goal.returns-else-rows-lt2
returns-else-rows-lt2 c =
    measures_sized kind c.in-Ok.ensures
    c.if-rows-lt2.false c.put_row.ensures c.code.ensures

pub returns-in-Err : goal.returns-in-Err
returns-in-Err c =
    measures_refused kind c.in-Err.ensures c.refusal_code.ensures
