-- The entries of a language: the rows of its three lists, one after the other.
use native.Mathlib.Omega.{arith}
use Rattle.wire.proofs.Handed.{handed}
use Rattle.text_label.proofs.Parsed.{letters_lack, letters_got, groups_lack, groups_got, switch_groups_lack, switch_groups_got, presets_lack, language_counted}
use Rattle.text_label.proofs.parsing.LanguageCount.kids.Goals as goal

pub returns-in_err-n1 : goal.returns-in_err-n1
returns-in_err-n1 c = rw (handed c.from_residual.result c.from_residual.ensures.1) (letters_lack _ _ c.requires c.in_err-n1.ensures)

pub list_rows-requires : goal.list_rows-requires
list_rows-requires c = (letters_got _ _ c.requires c.in_ok-n1.ensures, omega arith)

pub returns-in_err-groups : goal.returns-in_err-groups
returns-in_err-groups c =
    rw (handed c.from_residual-in_err-groups.result c.from_residual-in_err-groups.ensures.1)
    (groups_lack _ _ c.requires c.in_ok-n1.ensures c.in_err-groups.ensures)

pub list_rows-requires-2 : goal.list_rows-requires-2
list_rows-requires-2 c = (groups_got _ _ c.requires c.in_ok-n1.ensures c.in_ok-groups.ensures, omega arith)

pub returns-in_err-switch_groups : goal.returns-in_err-switch_groups
returns-in_err-switch_groups c =
    rw (handed c.from_residual-in_err-switch_groups.result c.from_residual-in_err-switch_groups.ensures.1)
    (switch_groups_lack _ _ c.requires c.in_ok-n1.ensures c.in_ok-groups.ensures c.in_err-switch_groups.ensures)

pub list_rows-requires-3 : goal.list_rows-requires-3
list_rows-requires-3 c = (switch_groups_got _ _ c.requires c.in_ok-n1.ensures c.in_ok-groups.ensures c.in_ok-switch_groups.ensures, omega arith)

pub returns-in_err-presets : goal.returns-in_err-presets
returns-in_err-presets c =
    rw (handed c.from_residual-in_err-presets.result c.from_residual-in_err-presets.ensures.1)
    (presets_lack _ _ c.requires c.in_ok-n1.ensures c.in_ok-groups.ensures c.in_ok-switch_groups.ensures c.in_err-presets.ensures)

pub returns : goal.returns
returns c = language_counted _ _ c.requires c.in_ok-n1.ensures c.in_ok-groups.ensures c.in_ok-switch_groups.ensures c.in_ok-presets.ensures
