use Rattle.instruction_writing.proofs.Writes.{row_looked}
use Rattle.instruction_writing.proofs.writing.InstructionsRows.check.Goals as goal

pub returns : goal.returns
returns c = let t = c.args.self.now in row_looked t.instructions.now t.additional.now c.args.i c.of_columns-d.ensures c.check_instruction.ensures
