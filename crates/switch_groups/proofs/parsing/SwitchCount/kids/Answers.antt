-- The members of a switch group: behind the first two bytes the members and the default are one comparison.
use native.Mathlib.Omega.{arith}
use Rattle.wire.proofs.Handed.{handed}
use Rattle.switch_groups.proofs.Switches.{two, two_lack, all_lack, all_got}
use Rattle.switch_groups.proofs.parsing.SwitchCount.kids.Goals as goal

pub returns-in_err-n : goal.returns-in_err-n
returns-in_err-n c = rw (handed c.from_residual.result c.from_residual.ensures.1) (two_lack _ _ c.requires c.in_err-n.ensures)

pub bounds-body-at : goal.bounds-body-at
bounds-body-at c = let w = (two _ _ c.requires c.in_ok-n.ensures).there in omega arith

pub head-requires-2 : goal.head-requires-2
head-requires-2 c = ((two _ _ c.requires c.in_ok-n.ensures).inside, omega (arith, c.members_of-count.ensures.1))

pub returns-in_err-next : goal.returns-in_err-next
returns-in_err-next c =
    rw (handed c.from_residual-in_err-next.result c.from_residual-in_err-next.ensures.1)
    (all_lack (two _ _ c.requires c.in_ok-n.ensures) c.wide.ensures c.members_of-count.ensures c.in_err-next.ensures)

pub returns : goal.returns
returns c = all_got (two _ _ c.requires c.in_ok-n.ensures) c.wide.ensures c.members_of-count.ensures c.in_ok-next.ensures
