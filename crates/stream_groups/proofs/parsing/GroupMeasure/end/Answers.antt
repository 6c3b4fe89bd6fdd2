-- Where the reads of a group end: its first byte, and a second one outside the main stream.
use native.Mathlib.Omega.{arith}
use Rattle.wire.proofs.Handed.{handed}
use Rattle.stream_groups.proofs.Taken.{group_cut, group_behind, group_main, group_outside}
use Rattle.stream_groups.proofs.parsing.GroupMeasure.end.Goals as goal

pub returns-in_err-e : goal.returns-in_err-e
returns-in_err-e c = rw (handed c.from_residual.result c.from_residual.ensures.1) (group_cut _ _ c.in_err-e.ensures.is)

pub head-requires : goal.head-requires
head-requires c = ((group_behind _ _ c.requires c.in_ok-e.ensures.is).inside, omega arith)

pub returns-then-part-eq0 : goal.returns-then-part-eq0
returns-then-part-eq0 c = group_outside _ _ c.requires c.in_ok-e.ensures.is c.part.ensures c.if-part-eq0.true c.head.ensures

pub returns : goal.returns
returns c = group_main _ _ c.requires c.in_ok-e.ensures.is c.part.ensures c.if-part-eq0.false
