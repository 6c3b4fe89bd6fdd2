-- `multi_stream::writing::check_main` meets its contract: two bytes, then the groups.
use native.Mathlib.Nat.{zero-add}
use native.Mathlib.Omega.{arith}
use Rattle.wire.proofs.Handed.{handed}
use Rattle.wire.proofs.Writing.Plain.{all_checked}
use Rattle.wire.proofs.Writing.Parts.{part_stops, part_goes, part_absent, rows_there}
use Rattle.multi_stream.specs.Write.{main_acts}
use Rattle.multi_stream.proofs.writing.check_main.Goals as goal

pub returns-in_err-n : goal.returns-in_err-n
unfolding main_acts
returns-in_err-n c =
    rw (handed c.from_residual.result c.from_residual.ensures.1, ← c.in_err-n.was)
    (part_stops _ _ _ 131074 c.if-main.true (all_checked c.main_bytes.ensures c.check_all.ensures) c.in_err-n.was (omega arith))

pub check_rows-requires : goal.check_rows-requires
check_rows-requires c =
    let w = all_checked c.main_bytes.ensures c.check_all.ensures in
    let n = rw c.in_ok-n.was at w.near in
    (rw zero-add (rows_there _ _ 5 _ (omega arith) c.requires.0 c.if-main.true), tt, omega arith, omega (arith, n, c.requires.1))

pub returns-in_ok-n : goal.returns-in_ok-n
unfolding main_acts
returns-in_ok-n c =
    part_goes _ _ _ 131074 c.if-main.true
    (all_checked c.main_bytes.ensures c.check_all.ensures)
    c.in_ok-n.was c.check_rows.ensures (omega arith)

pub returns-else-main : goal.returns-else-main
unfolding main_acts
returns-else-main c =
    part_absent _ _ 131074 _ c.if-main.false
