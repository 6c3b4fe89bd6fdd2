-- `spell::Joined::spelt` meets its contract.
use native.Mathlib.Omega.{arith}
use Rattle.wire.proofs.Writing.Spelling.{spelled}
use Rattle.wire.proofs.spell.Joined.spelt.Goals as goal

pub returns : goal.returns
returns c = spelled _ _ _ (omega arith) c.pair.ensures
