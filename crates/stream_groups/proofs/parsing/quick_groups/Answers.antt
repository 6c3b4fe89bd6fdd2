use Prim.Native.Nat.{◌-◌}
use mathlib.Core.Path.{◌≡◌}
use native.Mathlib.Omega.{arith}
use Rattle.stream_groups.proofs.Taken.{sparing_start, spare_turn}
use Rattle.stream_groups.proofs.parsing.quick_groups.Goals as goal
use Rattle.stream_groups.proofs.parsing.quick_groups.Goals.{then-part-eq0+else-spare-eq0, else-part-eq0}

pub loop-i-init : goal.loop-i-init
loop-i-init c = sparing_start c.args.body.now c.args.at c.args.count c.requires

pub returns-then-spare-eq0 : goal.returns-then-spare-eq0
returns-then-spare-eq0 c =
    let i = c.loop-i.invariant in
    (i.measures.same, i.measures.inside)

-- the next turn, behind the second byte or without one
pub loop-i-preserved : goal.loop-i-preserved
loop-i-preserved c =
    let i = c.loop-i.invariant in
    let e = c.wide.ensures in
    let q = c.part.ensures in
    elim c.if-part-eq0.branch [
      | then-part-eq0+else-spare-eq0 w ↦ spare_turn i (omega arith) e q 1 (omega arith) (omega arith) w.spare-is w.pos-is
      | else-part-eq0 w ↦ spare_turn i (omega arith) e q 0 (omega arith) (omega arith) (omega arith) (omega arith)
    ]

pub returns : goal.returns
returns c =
    let i = c.loop-i.invariant in
    let z : c.args.count - c.loop-i.i ≡ 0 = omega arith in
    (rw z at i.measures.same, i.measures.inside)
