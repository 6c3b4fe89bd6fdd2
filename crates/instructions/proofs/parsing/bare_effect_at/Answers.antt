-- `parsing::bare_effect_at` meets its contract.
use mathlib.Core.Path.{refl}
use Rattle.instructions.proofs.Taken.{bare_taken}
use Rattle.instructions.proofs.parsing.bare_effect_at.Goals as goal

pub returns : goal.returns
returns c =
    (rw (c.absent.ensures, c.absent-2.ensures) (bare_taken _ _ c.word_at.ensures), refl)
