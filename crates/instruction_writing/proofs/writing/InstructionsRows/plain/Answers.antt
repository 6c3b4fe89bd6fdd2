-- A row is bare, or any.
use mathlib.Core.Path.{ap}
use Rattle.instructions.specs.Rows.{instruction_of}
use Rattle.instruction_writing.proofs.Writes.{row_quick}
use Rattle.instruction_writing.proofs.writing.InstructionsRows.plain.Goals as goal

pub returns-then-is_bare : goal.returns-then-is_bare
returns-then-is_bare c = let t = c.args.self.now in row_quick t.instructions.now t.additional.now c.args.i (ap (instruction_of t.instructions.now) c.requires.2) c.bare_bytes.ensures

pub returns : goal.returns
returns c = let t = c.args.self.now in row_quick t.instructions.now t.additional.now c.args.i (rw c.requires.2 at c.of_columns-d.ensures) c.plain_bytes.ensures
