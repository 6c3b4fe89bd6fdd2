-- `mpegh_c::codes::refusal_code` meets its contract.
use Rattle.mpegh_c.proofs.codes.refusal_code.Goals as goal

pub returns-in-Short : goal.returns-in-Short
returns-in-Short c =
    rw c.in-Short.is c.code.ensures

pub returns-in-TooLong : goal.returns-in-TooLong
returns-in-TooLong c =
    rw c.in-TooLong.is c.code-in-TooLong.ensures

pub returns-in-NoRoom : goal.returns-in-NoRoom
returns-in-NoRoom c =
    rw c.in-NoRoom.is c.room_code.ensures
