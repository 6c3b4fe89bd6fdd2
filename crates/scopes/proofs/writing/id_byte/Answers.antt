-- `scopes::writing::id_byte` meets its contract.
use mathlib.Core.List.{[]}
use native.Mathlib.Omega.{arith}
use Rattle.wire.specs.Bits.{total, widths}
use Rattle.scopes.proofs.writing.id_byte.Goals as goal

pub returns-in-Plain : goal.returns-in-Plain
unfolding total widths
returns-in-Plain c =
    rw c.in-Plain.is (c.spelt.ensures.of [] (omega arith) c.none.ensures)

pub returns-in-Unknown : goal.returns-in-Unknown
unfolding total widths
returns-in-Unknown c =
    rw c.in-Unknown.is (c.spelt-in-Unknown.ensures.of [] (omega arith) c.none-in-Unknown.ensures)
