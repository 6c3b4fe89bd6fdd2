-- `scopes::parsing::id_bytes` meets its contract.
use native.Mathlib.Omega.{arith}
use Rattle.scopes.proofs.Taken.{id_there, id_absent}
use Rattle.scopes.proofs.parsing.id_bytes.Goals as goal

pub returns-then-case_of-eq0 : goal.returns-then-case_of-eq0
returns-then-case_of-eq0 c =
    (id_absent _ _ c.case_of.ensures c.if-case_of-eq0.true, omega arith)

pub returns-else-case_of-eq0 : goal.returns-else-case_of-eq0
returns-else-case_of-eq0 c =
    (id_there _ _ c.case_of.ensures c.if-case_of-eq0.false, omega arith)
