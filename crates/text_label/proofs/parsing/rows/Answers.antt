-- Measuring: the first two bytes of a body, then its languages.
use native.Mathlib.Omega.{arith}
use Rattle.wire.proofs.Handed.{handed}
use Rattle.wire.proofs.Reading.Loops.{summed_as}
use Rattle.text_label.proofs.Parsed.{entries_summed, head_lacks, head_got, second_there, count_four, body_counted}
use Rattle.text_label.proofs.parsing.rows.Goals as goal

pub returns-in_err-n : goal.returns-in_err-n
returns-in_err-n c = rw (handed c.from_residual.result c.from_residual.ensures.1) (head_lacks _ c.in_err-n.ensures)

pub bounds-body-1 : goal.bounds-body-1
bounds-body-1 c = second_there _ c.in_ok-n.ensures

pub rows_kids-requires : goal.rows_kids-requires
rows_kids-requires c = (head_got _ c.in_ok-n.ensures, omega (arith, count_four _ c.part-count.ensures))

pub returns : goal.returns
returns c = body_counted _ c.in_ok-n.ensures c.wide.ensures c.part-count.ensures (summed_as entries_summed c.rows_kids.ensures)
