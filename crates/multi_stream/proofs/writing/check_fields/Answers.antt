-- `multi_stream::writing::check_fields` meets its contract: the range, the byte of the record, and the main part.
use mathlib.Core.Path.{sym, ◌∙◌}
use native.Mathlib.Omega.{arith}
use Rattle.wire.proofs.Writing.Passes.{then, more, passed, refused}
use Rattle.wire.proofs.Writing.Plain.{all_checked}
use Rattle.multi_stream.specs.Write.{multi_stream_acts}
use Rattle.multi_stream.proofs.writing.check_fields.Goals as goal

pub check_main-requires : goal.check_main-requires
check_main-requires c =
    (sym c.groups_within.ensures ∙ c.if-groups_within.true, omega (arith, (all_checked c.head_bytes.ensures c.check_all-p.ensures).near))

pub returns-then-groups_within : goal.returns-then-groups_within
unfolding multi_stream_acts
returns-then-groups_within c =
    rw (sym c.groups_within.ensures ∙ c.if-groups_within.true)
    (passed _ 0 (passed _ 0 (passed _ 0 (more 131075 (then (all_checked c.head_bytes.ensures c.check_all-p.ensures) c.check_main.ensures)
    (omega arith)))))

pub returns-else-groups_within : goal.returns-else-groups_within
unfolding multi_stream_acts
returns-else-groups_within c =
    rw (sym c.groups_within.ensures ∙ c.if-groups_within.false) (refused _ 0 _ _)
