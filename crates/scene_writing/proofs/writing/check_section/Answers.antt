-- A section in the check pass: its byte, then its rows.
use mathlib.Core.Path.{refl}
use Prim.Native.Nat.{◌-◌}
use native.Mathlib.Omega.{arith}
use native.Mathlib.Nat.{zero-add}
use Rattle.wire.proofs.Handed.{handed}
use Rattle.wire.proofs.Writing.Plain.{all_checked}
use Rattle.wire.proofs.Writing.Parts.{part_stops, part_goes, part_absent, rows_there}
use Rattle.scene_writing.specs.Write.{section_acts}
use Rattle.scene_writing.proofs.Writes.{count_most}
use Rattle.scene_writing.proofs.writing.check_section.Goals as goal

pub returns-in_err-n : goal.returns-in_err-n
unfolding section_acts
returns-in_err-n g c =
    rw (handed c.from_residual.result c.from_residual.ensures.1)
    (part_stops _ _ _ _ c.if-s.true (all_checked c.count_byte.ensures c.in_err-n.ensures) refl (omega arith))

pub check_rows-requires : goal.check_rows-requires
check_rows-requires g c =
    let w = all_checked c.count_byte.ensures c.in_ok-n.ensures in
    let s = c.args.s in
    (rw zero-add (rows_there _ _ _ _ c.requires.2 c.requires.0 c.if-s.true), c.requires.1, omega (arith, c.well_formed), omega (arith, w.near, count_most (8 - c.args.w) c.args.w c.args.reserved s g.R.Rows.most w, c.requires.4))

pub returns-in_ok-n : goal.returns-in_ok-n
unfolding section_acts
returns-in_ok-n g c =
    let w = all_checked c.count_byte.ensures c.in_ok-n.ensures in
    part_goes _ _ _ _ c.if-s.true w refl c.check_rows.ensures (omega (arith, count_most (8 - c.args.w) c.args.w c.args.reserved c.args.s g.R.Rows.most w))

pub returns-else-s : goal.returns-else-s
unfolding section_acts
returns-else-s g c = part_absent _ _ _ _ c.if-s.false
