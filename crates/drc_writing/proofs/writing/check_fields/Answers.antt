-- `drc_writing::writing::check_fields` meets its contract: the ranges, the byte of the record, and the info.
use mathlib.Core.Path.{sym, ◌∙◌}
use native.Mathlib.Omega.{arith}
use Rattle.wire.proofs.Writing.Passes.{then, more, passed, refused}
use Rattle.wire.proofs.Writing.Plain.{all_checked}
use Rattle.frame.specs.Entry.{first_table, other_tables}
use Rattle.drc_writing.specs.Write.{drc_acts}
use Rattle.drc_writing.proofs.writing.check_fields.Goals as goal

pub returns-then-all_within : goal.returns-then-all_within
unfolding drc_acts first_table other_tables
returns-then-all_within c =
    rw (sym c.all_within.ensures ∙ c.if-all_within.true)
    (passed _ 0 (passed _ 0 (passed _ 0 (more 17454 (then (all_checked c.head_bytes.ensures c.check_all-p.ensures) c.check_info.ensures) (omega arith)))))

pub returns-else-all_within : goal.returns-else-all_within
unfolding drc_acts first_table other_tables
returns-else-all_within c =
    rw (sym c.all_within.ensures ∙ c.if-all_within.false) (refused _ 0 _ _)
