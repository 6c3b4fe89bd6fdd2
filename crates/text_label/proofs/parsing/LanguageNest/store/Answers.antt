-- A language is stored: its three bytes, its three lists one after the other, and its row.
use native.Mathlib.Omega.{arith}
use Rattle.text_label.proofs.Filled.{groups_ask, switch_groups_ask, presets_ask, language_filled, letters_there, language_nested}
use borrow.Author.Rules.{rules}
use Rattle.text_label.proofs.parsing.LanguageNest.store.Goals as goal

pub letters_at-language-requires : goal.letters_at-language-requires
letters_at-language-requires c = search letters_there

pub fill_list-g-requires : goal.fill_list-g-requires
fill_list-g-requires c = search (rules, groups_ask)

pub fill_list-s-requires : goal.fill_list-s-requires
fill_list-s-requires c = search (rules, switch_groups_ask)

pub fill_list-p-requires : goal.fill_list-p-requires
fill_list-p-requires c =
    (presets_ask _ _ _ _ c.requires.0 c.fill_list-g.ensures c.row_after.ensures c.fill_list-s.ensures c.row_after-2.ensures, omega arith)

pub returns : goal.returns
returns c =
    language_nested _ _ _ _
    (language_filled _ _ _ _ c.requires.0 c.fill_list-g.ensures c.row_after.ensures c.fill_list-s.ensures c.row_after-2.ensures
    c.fill_list-p.ensures c.letters_at-language.ensures)
    c.row_after-3.ensures c.columns.ensures c.put_row.ensures
