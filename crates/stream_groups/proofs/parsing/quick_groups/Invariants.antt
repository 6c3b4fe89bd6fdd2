-- `quick_groups` passes groups: those that are left end where all end, and the body has a byte for each of them.
use Rattle.stream_groups.proofs.Taken.{Sparing}
use Rattle.stream_groups.proofs.parsing.quick_groups.Given as goal

abbrev pub invariant-loop-i : goal.invariant-loop-i
invariant-loop-i l = Sparing l.body l.at l.count l.spare l.pos l.i
