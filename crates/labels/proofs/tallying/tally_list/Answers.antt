-- `tallying::tally_list` meets its contract: the bits before the count, and those of so many entries.
use Rattle.labels.proofs.Taken.{count_there, entries_begin, entries_done, count_few, list_tally, list_few}
use borrow.Author.Rules.{rules}
use Rattle.labels.proofs.tallying.tally_list.Goals as goal

pub bounds-body-at : goal.bounds-body-at
bounds-body-at c = search count_there

pub rows_zeros-t-requires : goal.rows_zeros-t-requires
rows_zeros-t-requires c = search (rules, entries_begin, entries_done, count_few)

pub returns : goal.returns
returns c = search (list_tally, list_few)
