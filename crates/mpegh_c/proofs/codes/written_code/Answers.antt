-- `mpegh_c::codes::written_code` meets its contract.
use Rattle.mpegh_c.proofs.codes.written_code.Goals as goal

pub returns-in-Ok : goal.returns-in-Ok
returns-in-Ok c = rw c.in-Ok.is c.code.ensures

pub returns-in-Err : goal.returns-in-Err
returns-in-Err c = rw c.in-Err.is c.unwritten_code.ensures
