-- A section in the fill pass: its byte, then its rows.
use native.Mathlib.Omega.{arith}
use native.Mathlib.Nat.{zero-add}
use Rattle.wire.proofs.Writing.Passes.{fill_last}
use Rattle.wire.proofs.Writing.Plain.{ready_part, fill_part_lem}
use Rattle.wire.proofs.Writing.Parts.{part_empty, rows_there}
use Rattle.scene_writing.specs.Write.{section_acts}
use Rattle.scene_writing.proofs.Writes.{section_begins}
use Rattle.scene_writing.proofs.writing.fill_section.Goals as goal

pub fill_all-n1-requires : goal.fill_all-n1-requires
fill_all-n1-requires g c = ready_part _ c.count_byte.ensures (section_begins _ _ _ c.if-s.true c.requires.4)

pub fill_rows-requires : goal.fill_rows-requires
fill_rows-requires g c =
    let behind = fill_part_lem _ c.count_byte.ensures (section_begins _ _ _ c.if-s.true c.requires.4) c.fill_all-n1.ensures in
    (rw zero-add (rows_there _ _ _ _ c.requires.2 c.requires.0 c.if-s.true), c.requires.1, omega (arith, c.well_formed), behind.ready)

pub returns-then-s : goal.returns-then-s
returns-then-s g c = fill_last (fill_part_lem _ c.count_byte.ensures (section_begins _ _ _ c.if-s.true c.requires.4) c.fill_all-n1.ensures) c.fill_rows.ensures

pub returns-else-s : goal.returns-else-s
unfolding section_acts
returns-else-s g c = part_empty _ _ c.if-s.false
