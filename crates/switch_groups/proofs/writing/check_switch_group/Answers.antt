-- `writing::check_switch_group` meets its contract: what stands before the members, and behind that the members and the default.
use mathlib.Core.Bool.{◌&&◌}
use native.Mathlib.Omega.{arith}
use Rattle.wire.proofs.Handed.{handed}
use Rattle.switch_groups.proofs.Writes.{front, front_behind, front_near, front_stopped, row_checked}
use Rattle.switch_groups.proofs.writing.check_switch_group.Goals as goal

pub returns-in_err-m : goal.returns-in_err-m
returns-in_err-m c =
    let w = front c.args.members.now c.args.g c.in_table-inside.ensures (λ i. c.is_flag.ensures i && c.is_flag-2.ensures i) c.demand-p0.ensures c.demand-p1.ensures c.demand-p2.ensures c.head_bytes.ensures c.check_all-p3.ensures in
    rw (handed c.from_residual.result c.from_residual.ensures.1) (front_stopped c.args.members.now c.args.g (rw c.in_err-m.was at w))

pub check_pairs-p4-requires : goal.check_pairs-p4-requires
check_pairs-p4-requires c =
    let w = front c.args.members.now c.args.g c.in_table-inside.ensures (λ i. c.is_flag.ensures i && c.is_flag-2.ensures i) c.demand-p0.ensures c.demand-p1.ensures c.demand-p2.ensures c.head_bytes.ensures c.check_all-p3.ensures in
    let v = rw c.in_ok-m.was at w in
    ((front_behind c.args.members.now c.args.g v).inside, omega (arith, front_near c.args.members.now c.args.g v))

pub returns : goal.returns
returns c =
    let w = front c.args.members.now c.args.g c.in_table-inside.ensures (λ i. c.is_flag.ensures i && c.is_flag-2.ensures i) c.demand-p0.ensures c.demand-p1.ensures c.demand-p2.ensures c.head_bytes.ensures c.check_all-p3.ensures in
    row_checked c.args.members.now c.args.g (rw c.in_ok-m.was at w) c.check_pairs-p4.ensures c.default_bytes.ensures c.check_all.ensures
