-- `writing::fill_detail` meets its contract.
use mathlib.Core.Path.{refl}
use Rattle.wire.specs.Spell.{none, more}
use Rattle.wire.proofs.Writing.Passes.{fill_start, fill_row_lem}
use Rattle.wire.proofs.Writing.Plain.{ready_part}
use Rattle.conditions.specs.Write.{cols_at}
use Rattle.conditions.proofs.Writes.{flags_filled, gain_filled, position_filled}
use Rattle.conditions.proofs.writing.fill_detail.Goals as goal

pub fill_all-n1-requires : goal.fill_all-n1-requires
fill_all-n1-requires c =
    search (ready_part, fill_start, more (rw c.of_columns-c.ensures at c.flags_of.ensures) none)

pub fill_gain-n2-requires : goal.fill_gain-n2-requires
fill_gain-n2-requires c =
    (c.requires.0, rw c.of_columns-c.ensures (fill_row_lem _ _ (flags_filled (cols_at c.args.conditions.now c.args.b) (rw c.of_columns-c.ensures at c.flags_of.ensures) c.requires.1 c.fill_all-n1.ensures) refl))

pub fill_position-requires : goal.fill_position-requires
fill_position-requires c =
    (c.requires.0, rw c.of_columns-c.ensures (fill_row_lem _ _ (gain_filled (cols_at c.args.conditions.now c.args.b) (flags_filled (cols_at c.args.conditions.now c.args.b) (rw c.of_columns-c.ensures at c.flags_of.ensures) c.requires.1 c.fill_all-n1.ensures) (rw c.of_columns-c.ensures at c.fill_gain-n2.ensures)) refl))

pub returns : goal.returns
returns c =
    position_filled (cols_at c.args.conditions.now c.args.b) (gain_filled (cols_at c.args.conditions.now c.args.b)
    (flags_filled (cols_at c.args.conditions.now c.args.b)
    (rw c.of_columns-c.ensures at c.flags_of.ensures) c.requires.1
    c.fill_all-n1.ensures) (rw c.of_columns-c.ensures at c.fill_gain-n2.ensures))
    (rw c.of_columns-c.ensures at c.fill_position.ensures)
