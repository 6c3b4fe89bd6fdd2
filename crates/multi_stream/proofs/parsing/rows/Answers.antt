-- `multi_stream::parsing::rows` meets its contract: the first byte, and the main part that it steers.
use Rattle.wire.proofs.Handed.{handed}
use Rattle.wire.proofs.Reading.Loops.{summed_short}
use Rattle.multi_stream.proofs.Parsed.{first_there, first_cut, body_summed}
use Rattle.multi_stream.proofs.parsing.rows.Goals as goal

pub returns-in_err-b0 : goal.returns-in_err-b0
returns-in_err-b0 c = rw (handed c.from_residual.result c.from_residual.ensures.1) (summed_short (first_cut _ c.in_err-b0.ensures.is))

pub main_rows-requires : goal.main_rows-requires
main_rows-requires c = (first_there _ c.in_ok-b0.ensures.is).inside

pub returns : goal.returns
returns c = body_summed _ (first_there _ c.in_ok-b0.ensures.is) (rw c.part.ensures at c.main_rows.ensures)
