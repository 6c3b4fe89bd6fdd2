-- `spell::fill_all` meets its contract.
use Rattle.wire.proofs.Writing.Spelling.{fills_there, fills_none, room_there}
use Rattle.wire.proofs.spell.fill_all.Goals as goal

pub put_all-requires : goal.put_all-requires
put_all-requires c = room_there c.if-there.true c.requires

pub returns-then-there : goal.returns-then-there
returns-then-there c = fills_there c.if-there.true c.put_all.ensures

pub returns-else-there : goal.returns-else-there
returns-else-there c = fills_none c.if-there.false
