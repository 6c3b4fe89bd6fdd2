-- `writing::check_entry` meets its contract: the range, the ID, the length and the bytes.
use Rattle.labels.proofs.Written.{id_reach, length_reach, entry_checked}
use borrow.Author.Rules.{rules}
use Rattle.labels.proofs.writing.check_entry.Goals as goal

pub byte-p2-requires : goal.byte-p2-requires
byte-p2-requires c = search id_reach

pub run-requires : goal.run-requires
run-requires c = search (rules, length_reach)

pub returns : goal.returns
returns c = search entry_checked
