-- `parsing::effect_at` meets its contract: the word, then each part whatever was read before it.
use mathlib.Core.Path.{refl}
use native.Mathlib.Omega.{arith}
use Rattle.instructions.proofs.Taken.{effect_taken}
use Rattle.instructions.proofs.parsing.effect_at.Goals as goal

pub returns : goal.returns
returns c =
    (effect_taken _ _ c.requires.1 refl c.word_at.ensures c.limiter_at.ensures c.target_at.ensures, omega (arith, c.target_size.ensures.0))
