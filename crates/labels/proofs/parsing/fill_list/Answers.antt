-- `parsing::fill_list` meets its contract: the count, and so many entries.
use Rattle.labels.proofs.Taken.{count_there, entries_begin, entries_done, list_done, list_room, list_taken}
use borrow.Author.Rules.{rules}
use Rattle.labels.proofs.parsing.fill_list.Goals as goal

pub bounds-body-at : goal.bounds-body-at
bounds-body-at c = search (count_there, list_done)

pub store_rows-next-requires : goal.store_rows-next-requires
store_rows-next-requires c = search (rules, entries_begin, entries_done, list_done, list_room)

pub returns : goal.returns
returns c = search list_taken
