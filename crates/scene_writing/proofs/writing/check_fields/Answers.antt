-- `scene_writing::writing::check_fields` meets its contract: the ranges, the two bytes, and section after section.
use mathlib.Core.Path.{sym, ◌∙◌}
use native.Mathlib.Omega.{arith}
use Rattle.wire.proofs.Writing.Passes.{then, more, passed, refused}
use Rattle.wire.proofs.Writing.Plain.{all_checked}
use Rattle.frame.specs.Entry.{first_table, other_tables}
use Rattle.scene_writing.specs.Write.{scene_acts}
use Rattle.scene_writing.proofs.Writes.{insides}
use Rattle.scene_writing.proofs.writing.check_fields.Goals as goal

pub check_section-p2-requires : goal.check_section-p2-requires
check_section-p2-requires c =
    ((insides c.args.m _ _ _ (sym c.all_within.ensures ∙ c.if-all_within.true)).groups, tt, omega arith, omega arith, omega (arith, (all_checked c.head_bytes.ensures c.check_all-p1.ensures).near))

pub check_section-p3-requires : goal.check_section-p3-requires
check_section-p3-requires c =
    ((insides c.args.m _ _ _ (sym c.all_within.ensures ∙ c.if-all_within.true)).switches, tt, omega arith, omega arith, omega (arith, (all_checked c.head_bytes.ensures c.check_all-p1.ensures).near, c.check_section-p2.ensures.near))

pub check_section-requires : goal.check_section-requires
check_section-requires c =
    ((insides c.args.m _ _ _ (sym c.all_within.ensures ∙ c.if-all_within.true)).presets, tt, omega arith, omega arith, omega (arith, (all_checked c.head_bytes.ensures c.check_all-p1.ensures).near, c.check_section-p2.ensures.near, c.check_section-p3.ensures.near))

pub returns-then-all_within : goal.returns-then-all_within
unfolding scene_acts first_table other_tables
returns-then-all_within c =
    rw (sym c.all_within.ensures ∙ c.if-all_within.true)
    (passed _ 0 (passed _ 0 (passed _ 0 (more 5810 (then (all_checked c.head_bytes.ensures c.check_all-p1.ensures) (then c.check_section-p2.ensures (then c.check_section-p3.ensures c.check_section.ensures))) (omega arith)))))

pub returns-else-all_within : goal.returns-else-all_within
unfolding scene_acts first_table other_tables
returns-else-all_within c =
    rw (sym c.all_within.ensures ∙ c.if-all_within.false) (refused _ 0 _ _)
