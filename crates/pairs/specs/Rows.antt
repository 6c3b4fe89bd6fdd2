-- The columns of a pair, from its byte.
use Rattle.std.specs.Prelude.{ℕ, List, [], ◌∷◌}
use Rattle.wire.specs.Bits.{part}

abbrev pub pair_from : ℕ → List ℕ
pair_from b = part 7 1 b ∷ part 0 7 b ∷ []
