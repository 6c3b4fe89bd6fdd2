-- `writing::bare_bytes` meets its contract: its six bytes, or 0 if a field is over its width or its range is outside of its table.
use Rattle.instruction_writing.proofs.Writes.{bare_plain, bare_odd}
use Rattle.instruction_writing.proofs.writing.bare_bytes.Goals as goal

pub returns-then-inside-typed : goal.returns-then-inside-typed
returns-then-inside-typed c = search bare_plain

pub returns-else-inside-typed : goal.returns-else-inside-typed
returns-else-inside-typed c = search bare_odd
