-- `writing::flags_hold` meets its contract.
use mathlib.Core.Path.{sym, ◌∙◌}
use Rattle.wire.proofs.Writing.Plain.{flags_there, flags_absent}
use Rattle.target_loudness.proofs.writing.flags_hold.Goals as goal

pub returns-then-t-eq1 : goal.returns-then-t-eq1
returns-then-t-eq1 c =
    c.is_flag.ensures ∙ sym (flags_there _ _ c.if-t-eq1.true)

pub returns-else-t-eq1 : goal.returns-else-t-eq1
returns-else-t-eq1 c =
    c.is_flag-else-t-eq1.ensures ∙ sym (flags_absent _ _ c.if-t-eq1.false)
