-- `scopes::parsing::case_of` meets its contract.
use native.Mathlib.Omega.{arith}
use Rattle.scopes.proofs.Taken.{case_past, case_group, case_preset, case_plain}
use Rattle.scopes.proofs.parsing.case_of.Goals as goal

pub returns-then-kind-gt3 : goal.returns-then-kind-gt3
returns-then-kind-gt3 c =
    case_past _ _ c.if-kind-gt3.true

pub returns-then-contains : goal.returns-then-contains
returns-then-contains c =
    case_group _ _ (omega (arith, c.if-kind-gt3.false)) c.contains.ensures.value c.if-contains.true

pub returns-then-kind-eq3 : goal.returns-then-kind-eq3
returns-then-kind-eq3 c =
    case_preset _ _ (omega (arith, c.if-kind-gt3.false)) c.contains.ensures.value c.if-contains.false c.if-kind-eq3.true

pub returns-else-kind-eq3 : goal.returns-else-kind-eq3
returns-else-kind-eq3 c =
    case_plain _ _ (omega (arith, c.if-kind-gt3.false)) c.contains.ensures.value c.if-contains.false c.if-kind-eq3.false
