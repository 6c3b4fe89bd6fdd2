-- A body without languages is seen at its second byte.
use Rattle.text_label.proofs.Parsed.{second_there}
use Rattle.text_label.proofs.Sighted.{long_not_bare, cut_not_bare, bare_so}
use Rattle.text_label.proofs.parsing.is_bare.Goals as goal

pub returns-then-body-gt65535 : goal.returns-then-body-gt65535
returns-then-body-gt65535 c = search long_not_bare

pub returns-in-Err : goal.returns-in-Err
returns-in-Err c = cut_not_bare _ c.if-body-gt65535.false c.in-Err.ensures

pub count_at-requires : goal.count_at-requires
count_at-requires c = second_there _ c.in-Ok.ensures

pub returns-in-Ok : goal.returns-in-Ok
returns-in-Ok c = bare_so _ c.if-body-gt65535.false c.in-Ok.ensures c.count_at.ensures
