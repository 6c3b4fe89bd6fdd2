-- `spell::Joined::none` meets its contract.
use Rattle.wire.proofs.Writing.Spelling.{nothing}
use Rattle.wire.proofs.spell.Joined.none.Goals as goal

pub returns : goal.returns
returns c = nothing
