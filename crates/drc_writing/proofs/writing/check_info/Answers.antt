-- `drc_writing::writing::check_info` meets its contract: the bytes of the counts, then the lists, whose counts are small since their bytes fit.
use mathlib.Core.Path.{refl}
use native.Mathlib.Omega.{arith}
use Rattle.wire.proofs.Handed.{handed}
use Rattle.wire.proofs.Writing.Passes.{passed_clean}
use Rattle.wire.proofs.Writing.Plain.{all_checked}
use Rattle.wire.proofs.Writing.Parts.{part_stops, part_goes, part_absent}
use Rattle.drc_writing.specs.Write.{info_acts}
use Rattle.drc_writing.proofs.Writes.{listed}
use Rattle.drc_writing.proofs.writing.check_info.Goals as goal

pub returns-in_err-n : goal.returns-in_err-n
unfolding info_acts
returns-in_err-n c =
    rw (handed c.from_residual.result c.from_residual.ensures.1)
    (part_stops _ _ _ 17453 {n = c.in_err-n.field-0.0.1} {f = c.in_err-n.field-0.0.0} c.if-i.true (all_checked c.count_bytes.ensures c.in_err-n.ensures) refl (omega arith))

pub check_lists-requires : goal.check_lists-requires
check_lists-requires c =
    let w = all_checked c.count_bytes.ensures c.in_ok-n.ensures in
    (listed _ _ _ _ c.if-i.true c.requires.0 (passed_clean _ _ w refl), omega (arith, w.near, c.requires.1))

pub returns-in_ok-n : goal.returns-in_ok-n
unfolding info_acts
returns-in_ok-n c =
    part_goes _ _ _ 17453 c.if-i.true (all_checked c.count_bytes.ensures c.in_ok-n.ensures) refl c.check_lists.ensures (omega arith)

pub returns-else-i : goal.returns-else-i
unfolding info_acts
returns-else-i c =
    part_absent _ _ 17453 _ c.if-i.false
