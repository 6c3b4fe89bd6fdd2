-- An instruction is stored: its row is taken by one function, and its additional IDs by the loop for all rows.
use mathlib.Core.Path.{refl, ap, ◌∙◌}
use lib.Seq.{sets}
use Rattle.wire.specs.Reads.{is_done}
use Rattle.wire.proofs.Layouts.Families.{family_nested}
use Rattle.instructions.specs.Layout.{additional, instruction}
use Rattle.instructions.proofs.Taken.{fills, ids_there, ids_room, instruction_filled}
use Rattle.instructions.proofs.parsing.InstructionNest.store.Goals as goal

pub store_rows-requires : goal.store_rows-requires
store_rows-requires c =
    let a = c.args in
    let p = c.instruction_at-p in
    let f = c.requires.0 in
    let (x, y) = ids_there a.body.now a.at a.first p.result.instruction f.begun p.ensures.0 p.ensures.1 (ap is_done f.reads) in
    (x, y, tt, ids_room a.body.now a.at a.first p.result.instruction f.begun p.ensures.0 p.ensures.1 f)

pub returns : goal.returns
returns c =
    let a = c.args in
    let p = c.instruction_at-p in
    let f = c.requires.0 in
    family_nested instruction 2 additional a.body.now a.at a.first f.begun fills
    (instruction_filled a.body.now a.at a.first p.result.instruction f.begun p.ensures.0 p.ensures.1 c.store_rows.ensures.1)
    refl (c.put_row.ensures ∙ ap (sets a.outer.now a.to) c.columns.ensures)
