-- `spell::Joined::field` meets its contract.
use mathlib.Core.Path.{refl}
use Rattle.wire.proofs.Writing.Spelling.{appended}
use Rattle.wire.proofs.spell.Joined.field.Goals as goal

pub returns : goal.returns
returns c = appended _ _ refl refl
