-- `writing::check_list` meets its contract: the count, and the rows if it fits.
use Rattle.wire.proofs.Handed.{handed}
use Rattle.labels.proofs.Written.{count_stops, count_fits, count_reach, list_checked}
use borrow.Author.Rules.{rules}
use Rattle.labels.proofs.writing.check_list.Goals as goal

pub returns-in_err-n : goal.returns-in_err-n
returns-in_err-n c = rw (handed c.from_residual.result c.from_residual.ensures.1) (count_stops _ _ _ _ c.count_byte.ensures c.check_all.ensures c.in_err-n.was)

pub check_rows-requires : goal.check_rows-requires
check_rows-requires c = search (rules, count_fits, count_reach, c.in_ok-n.was)

pub returns : goal.returns
returns c = list_checked _ _ _ _ c.count_byte.ensures c.check_all.ensures c.in_ok-n.was c.check_rows.ensures
