-- `writing::check_front` meets its contract.
use Rattle.instruction_writing.proofs.Writes.{front}
use Rattle.instruction_writing.proofs.writing.check_front.Goals as goal

pub returns : goal.returns
returns c = search front
