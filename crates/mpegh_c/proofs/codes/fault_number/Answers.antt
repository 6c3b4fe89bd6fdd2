-- `mpegh_c::codes::fault_number` meets its contract.
use mathlib.Core.Path.{refl}
use borrow.Author.Rules.{rules}
use Rattle.mpegh_c.proofs.codes.fault_number.Goals as goal

pub returns-in-Field : goal.returns-in-Field
returns-in-Field c =
    rw c.in-Field.is (refl, search rules)

pub returns-in-Range : goal.returns-in-Range
returns-in-Range c =
    rw c.in-Range.is (refl, search rules)

pub returns-in-Empty : goal.returns-in-Empty
returns-in-Empty c =
    rw c.in-Empty.is (refl, search rules)

pub returns-in-Scope : goal.returns-in-Scope
returns-in-Scope c =
    rw c.in-Scope.is (refl, search rules)

pub returns-in-Auxiliary : goal.returns-in-Auxiliary
returns-in-Auxiliary c =
    rw c.in-Auxiliary.is (refl, search rules)
