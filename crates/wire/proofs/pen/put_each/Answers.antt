use mathlib.Core.Path.{refl, ◌∙◌}
use native.Mathlib.Nat.{add-zero}
use native.Mathlib.Omega.{arith}
use lib.ListN.{length-set}
use Rattle.wire.proofs.Writing.Passes.{copy_turn, copy_end, run_good}
use Rattle.wire.proofs.pen.put_each.Goals as goal

pub loop-i-init : goal.loop-i-init
loop-i-init c = (omega arith, refl, rw add-zero)

pub loop-i-preserved : goal.loop-i-preserved
loop-i-preserved c =
    let l = c.loop-i in
    let a = c.args in
    let e = copy_turn a.from a.count a.store.now c.requires.0 l.out a.n l.i (omega arith) in
    (omega arith, simp length-set l.invariant.1, l.invariant.2 ∙ e)

pub shape_of-out : goal.shape_of-out
shape_of-out c = c.loop-i.invariant.1

pub returns : goal.returns
returns c =
    let l = c.loop-i in
    let a = c.args in
    let e = copy_end a.from a.count a.store.now c.requires.0 l.out a.n l.i (omega arith) in
    run_good a.from a.count a.store.now c.requires.0 (l.invariant.2 ∙ e)
