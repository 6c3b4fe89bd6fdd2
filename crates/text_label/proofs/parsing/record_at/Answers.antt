-- `parsing::record_at` meets its contract: the fields of the two bytes, and what was measured.
use native.Mathlib.Omega.{arith}
use Rattle.frame.proofs.Entries.{within_measured}
use Rattle.text_label.specs.Kind.{kind}
use Rattle.text_label.proofs.Sighted.{two_measured, top_of_two}
use borrow.Author.Rules.{rules}
use Rattle.text_label.proofs.parsing.record_at.Goals as goal

pub bounds-body-1 : goal.bounds-body-1
bounds-body-1 c = search (rules, two_measured)

pub bounds-body-0 : goal.bounds-body-0
bounds-body-0 c =
    omega (arith, two_measured _ c.requires)

pub trailing_run-requires : goal.trailing_run-requires
trailing_run-requires c =
    let w = within_measured kind _ c.requires in (w.before, w.all)

pub returns : goal.returns
returns c = search top_of_two
