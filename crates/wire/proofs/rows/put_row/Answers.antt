use Prim.Native.Nat.{◌+◌}
use mathlib.Core.Path.{refl, sym, ◌∙◌}
use native.Mathlib.Nat.{add-zero}
use borrow.Author.Rules.{rules}
use lib.ListN.{length-set}
use Rattle.wire.proofs.Reading.Steps.{sets_turn, sets_end}
use Rattle.wire.proofs.rows.put_row.Goals as goal

pub loop-i-init : goal.loop-i-init
loop-i-init c = (search rules, refl, rw add-zero)

pub loop-i-preserved : goal.loop-i-preserved
loop-i-preserved c =
    let l = c.loop-i in
    let a = c.args in
    (search rules, simp length-set l.invariant.1, sym (sets_turn l.table a.row.now a.at l.i (search rules)) ∙ l.invariant.2)

pub returns : goal.returns
returns c =
    let l = c.loop-i in
    let a = c.args in
    sym (sets_end l.table a.row.now (a.at + l.i) l.i (search rules)) ∙ l.invariant.2
