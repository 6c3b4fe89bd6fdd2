-- `base::writing::check_fields` meets its contract: the range of the sets, the three bytes, and the sets.
use mathlib.Core.Path.{sym, ◌∙◌}
use native.Mathlib.Omega.{arith}
use Rattle.wire.proofs.Writing.Passes.{then, more, passed, refused}
use Rattle.wire.proofs.Writing.Plain.{all_checked}
use Rattle.base.specs.Write.{base_acts}
use Rattle.base.proofs.Stored.{listed_long}
use Rattle.base.proofs.writing.check_fields.Goals as goal

pub check_sets-requires : goal.check_sets-requires
check_sets-requires c = omega (arith, (all_checked c.head_bytes.ensures c.check_all-p.ensures).near)

pub returns-then-sets_inside : goal.returns-then-sets_inside
unfolding base_acts
returns-then-sets_inside c =
    let e = sym c.sets_inside.ensures ∙ c.if-sets_inside.true in rw e (passed _ 0 (passed _ 0 (passed _ 0
    (more 65539 (then (all_checked c.head_bytes.ensures c.check_all-p.ensures) (c.check_sets.ensures.of _
    (listed_long c.args.m.compatible_sets c.args.store.now e))) (omega arith)))))

pub returns-else-sets_inside : goal.returns-else-sets_inside
unfolding base_acts
returns-else-sets_inside c = rw (sym c.sets_inside.ensures ∙ c.if-sets_inside.false) (refused _ 0 _ _)
