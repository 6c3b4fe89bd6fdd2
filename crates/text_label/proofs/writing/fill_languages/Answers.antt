use native.Mathlib.Omega.{arith}
use native.Mathlib.Nat.{sub-zero}
use Rattle.wire.proofs.Writing.Passes.{rows_turn, rows_end, fill_start, fill_row_lem, fill_turn, fill_end}
use Rattle.text_label.proofs.writing.fill_languages.Goals as goal

pub loop-i-init : goal.loop-i-init
loop-i-init c = rw sub-zero (fill_start c.requires.2)

pub fill_language-at-requires : goal.fill_language-at-requires
fill_language-at-requires c = rw c.of_columns-l.ensures (fill_row_lem _ _ c.loop-i.invariant (rows_turn _ _ _ (omega arith)))

pub loop-i-preserved : goal.loop-i-preserved
loop-i-preserved c =
    let w = rw c.of_columns-l.ensures at c.fill_language-at.ensures in
    fill_turn c.loop-i.invariant (rows_turn _ _ _ (omega arith)) c.fill_language-at.auto.out w

pub returns : goal.returns
returns c = fill_end c.loop-i.invariant (rows_end _ _ _ (omega arith))
