-- `writing::plain_bytes` meets its contract: a range, a scope and a length without a fault, and what they make.
use native.Mathlib.Omega.{arith}
use Rattle.wire.proofs.Writing.Plain.{quick_few}
use Rattle.loudness.proofs.Written.{entry_plain, entry_odd}
use Rattle.loudness.proofs.writing.plain_bytes.Goals as goal

pub overflow_add-result-then-in_store-k : goal.overflow_add-result-then-in_store-k
overflow_add-result-then-in_store-k c =
    omega (arith, quick_few c.plain_scope-k.ensures)

pub returns-then-in_store-k : goal.returns-then-in_store-k
returns-then-in_store-k c =
    search (entry_plain, rw c.id_types.ensures at c.plain_scope-k.ensures)

pub returns-else-in_store-k : goal.returns-else-in_store-k
returns-else-in_store-k c =
    search (entry_odd, rw c.id_types.ensures at c.plain_scope-k.ensures)
