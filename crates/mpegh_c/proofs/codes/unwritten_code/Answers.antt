-- `mpegh_c::codes::unwritten_code` meets its contract.
use Rattle.mpegh_c.proofs.codes.unwritten_code.Goals as goal

pub returns-in-NoRoom : goal.returns-in-NoRoom
returns-in-NoRoom c = rw c.in-NoRoom.is c.code.ensures

pub returns-in-Wrong : goal.returns-in-Wrong
returns-in-Wrong c = rw (c.in-Wrong.is, ← c.fault_number.ensures.0) c.code-in-Wrong.ensures

pub returns-in-TooLong : goal.returns-in-TooLong
returns-in-TooLong c = rw c.in-TooLong.is c.code-in-TooLong.ensures
