-- `writing::fill_condition` meets its contract.
use Rattle.wire.specs.Spell.{none, more}
use Rattle.wire.proofs.Writing.Passes.{fill_last, fill_end}
use Rattle.wire.proofs.Writing.Plain.{ready_part}
use Rattle.conditions.specs.Write.{cols_at}
use Rattle.conditions.proofs.Writes.{condition_acts_lem, row_begun, id_filled, fill_there, when_absent}
use Rattle.conditions.proofs.writing.fill_condition.Goals as goal

pub fill_all-n1-requires : goal.fill_all-n1-requires
fill_all-n1-requires c =
    search (ready_part, row_begun, more (rw c.of_columns-c.ensures at c.two.ensures) none)

pub fill_detail-requires : goal.fill_detail-requires
fill_detail-requires c =
    (c.requires.0, (fill_there _ (rw c.of_columns-c.ensures at c.if-there-eq1.true) (id_filled (cols_at c.args.conditions.now c.args.b) (rw c.of_columns-c.ensures at c.two.ensures) c.requires.1 c.fill_all-n1.ensures)).ready)

pub returns-then-there-eq1 : goal.returns-then-there-eq1
returns-then-there-eq1 c =
    rw (condition_acts_lem (cols_at c.args.conditions.now c.args.b))
    (fill_last (fill_there _ (rw c.of_columns-c.ensures at c.if-there-eq1.true) (id_filled (cols_at c.args.conditions.now c.args.b)
    (rw c.of_columns-c.ensures at c.two.ensures) c.requires.1 c.fill_all-n1.ensures))
    c.fill_detail.ensures)

pub returns-else-there-eq1 : goal.returns-else-there-eq1
returns-else-there-eq1 c =
    rw (condition_acts_lem (cols_at c.args.conditions.now c.args.b)) (fill_end (id_filled (cols_at c.args.conditions.now c.args.b)
    (rw c.of_columns-c.ensures at c.two.ensures) c.requires.1 c.fill_all-n1.ensures)
    (when_absent _ _ (rw c.of_columns-c.ensures at c.if-there-eq1.false)))
