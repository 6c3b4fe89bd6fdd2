-- `tallying::zero_bits` meets its contract: the bits of the second byte, and those of the languages.
use Rattle.text_label.proofs.Sighted.{two_measured, languages_done, count_few, whole_body, tallies_are}
use borrow.Author.Rules.{rules}
use Rattle.text_label.proofs.tallying.zero_bits.Goals as goal

pub bounds-body-1 : goal.bounds-body-1
bounds-body-1 c = search (rules, two_measured)

pub rows_zeros-t-requires : goal.rows_zeros-t-requires
rows_zeros-t-requires c = search (rules, two_measured, whole_body, languages_done, count_few)

pub returns : goal.returns
returns c = search tallies_are
