-- The bits of a language: those of its three lists, one after the other.
use Rattle.text_label.proofs.Tallied.{groups_begin, groups_done, switch_groups_begin, switch_groups_done, presets_begin, presets_done, language_tallied}
use native.Mathlib.Omega.{arith}
use borrow.Author.Rules.{rules}
use Rattle.text_label.proofs.tallying.LanguageTally.zeros.Goals as goal

pub tally_list-g-requires : goal.tally_list-g-requires
tally_list-g-requires c = search (rules, groups_begin, groups_done)

pub tally_list-s-requires : goal.tally_list-s-requires
tally_list-s-requires c = search (rules, switch_groups_begin, switch_groups_done)

pub tally_list-p-requires : goal.tally_list-p-requires
tally_list-p-requires c = search (rules, presets_begin, presets_done)

pub returns : goal.returns
returns c =
    let begun = c.requires in
    (language_tallied _ _ begun.1 c.tally_list-g.ensures.0 c.tally_list-s.ensures.0 c.tally_list-p.ensures.0 (omega arith), search rules)
