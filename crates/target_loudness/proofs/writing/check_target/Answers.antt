-- `writing::check_target` meets its contract.
use mathlib.Core.List.{map}
use lib.Dec.{eqb}
use native.Mathlib.Omega.{arith}
use Rattle.wire.specs.Act.{byte, when}
use Rattle.wire.specs.Pen.{Checked}
use Rattle.wire.specs.Spell.{fields_of}
use Rattle.wire.proofs.Writing.Plain.{all_checked}
use Rattle.target_loudness.specs.Rows.{target_cols, upper_cells, lower_cells}
use Rattle.target_loudness.proofs.Writes.{target_checked, none_checked}
use borrow.Author.Rules.{rules}
use Rattle.target_loudness.proofs.writing.check_target.Goals as goal

pub check_all-p2-requires : goal.check_all-p2-requires
check_all-p2-requires c =
    let step-1 : Checked (map byte (fields_of (target_cols c.args.t) upper_cells)) 1 c.args.p c.check_all-p1.result = all_checked c.upper_bytes.ensures c.check_all-p1.ensures in
    (omega (arith, step-1.near, c.requires), search rules)

pub check_all-requires : goal.check_all-requires
check_all-requires c =
    let step-1 : Checked (map byte (fields_of (target_cols c.args.t) upper_cells)) 1 c.args.p c.check_all-p1.result = all_checked c.upper_bytes.ensures c.check_all-p1.ensures in
    let step-2 : Checked (when (eqb c.args.t.lower.present 1) (map byte (fields_of (target_cols c.args.t) lower_cells))) 1 c.check_all-p1.result c.check_all-p2.result = all_checked c.lower_bytes.ensures c.check_all-p2.ensures in
    (search (rules, step-1, step-2), search rules)

pub returns-then-t-eq1 : goal.returns-then-t-eq1
returns-then-t-eq1 c =
    let step-1 : Checked (map byte (fields_of (target_cols c.args.t) upper_cells)) 1 c.args.p c.check_all-p1.result = all_checked c.upper_bytes.ensures c.check_all-p1.ensures in
    let step-2 : Checked (when (eqb c.args.t.lower.present 1) (map byte (fields_of (target_cols c.args.t) lower_cells))) 1 c.check_all-p1.result c.check_all-p2.result = all_checked c.lower_bytes.ensures c.check_all-p2.ensures in
    target_checked (target_cols c.args.t)
    c.if-t-eq1.true step-1 step-2 (all_checked c.depends_bytes.ensures
    c.check_all.ensures)

pub returns-else-t-eq1 : goal.returns-else-t-eq1
returns-else-t-eq1 c =
    none_checked (target_cols c.args.t) c.if-t-eq1.false
