-- `writing::fill_list` meets its contract: the count, and the rows.
use native.Mathlib.Omega.{arith}
use Rattle.labels.proofs.Written.{rows_inside, count_ready, entries_ready, list_filled}
use Rattle.labels.proofs.writing.fill_list.Goals as goal

pub fill_all-n1-requires : goal.fill_all-n1-requires
fill_all-n1-requires c = search count_ready

pub fill_rows-requires : goal.fill_rows-requires
fill_rows-requires c = (rows_inside _ _ c.requires.0, c.requires.2, omega arith, entries_ready _ _ _ _ c.count_byte.ensures c.requires.1 c.fill_all-n1.ensures)

pub returns : goal.returns
returns c = search list_filled
