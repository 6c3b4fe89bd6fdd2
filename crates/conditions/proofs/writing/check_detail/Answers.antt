-- `writing::check_detail` meets its contract.
use mathlib.Core.List.{[], ◌∷◌, map}
use lib.Dec.{eqb}
use native.Mathlib.Omega.{arith}
use Rattle.wire.specs.Act.{byte, when}
use Rattle.wire.specs.Pen.{Checked}
use Rattle.wire.specs.Spell.{none, more, fields_of}
use Rattle.wire.proofs.Writing.Passes.{then, nothing}
use Rattle.wire.proofs.Writing.Plain.{all_checked}
use Rattle.conditions.specs.Rows.{flag_cells, gain_cells}
use Rattle.conditions.specs.Write.{detail_cols}
use borrow.Author.Rules.{rules}
use Rattle.conditions.proofs.writing.check_detail.Goals as goal

pub check_all-p2-requires : goal.check_all-p2-requires
check_all-p2-requires c =
    let step-1 : Checked (map byte (fields_of (detail_cols c.args.d) (flag_cells ∷ []))) 1 c.args.p c.check_all-p1.result = all_checked (more c.flags_of.ensures none) c.check_all-p1.ensures in
    (omega (arith, step-1.near, c.requires), search rules)

pub check_all-requires : goal.check_all-requires
check_all-requires c =
    let step-1 : Checked (map byte (fields_of (detail_cols c.args.d) (flag_cells ∷ []))) 1 c.args.p c.check_all-p1.result = all_checked (more c.flags_of.ensures none) c.check_all-p1.ensures in
    let step-2 : Checked (when (eqb c.args.d.gain.present 1) (map byte (fields_of (detail_cols c.args.d) gain_cells))) 1 c.check_all-p1.result c.check_all-p2.result = all_checked (more c.one.ensures none) c.check_all-p2.ensures in
    (search (rules, step-1, step-2), search rules)

pub returns : goal.returns
returns c =
    let step-1 : Checked (map byte (fields_of (detail_cols c.args.d) (flag_cells ∷ []))) 1 c.args.p c.check_all-p1.result = all_checked (more c.flags_of.ensures none) c.check_all-p1.ensures in
    let step-2 : Checked (when (eqb c.args.d.gain.present 1) (map byte (fields_of (detail_cols c.args.d) gain_cells))) 1 c.check_all-p1.result c.check_all-p2.result = all_checked (more c.one.ensures none) c.check_all-p2.ensures in
    then step-1 (then step-2
    (then (all_checked c.position_bytes.ensures c.check_all.ensures) (nothing 0 _)))
