-- What the functions that write pairs promise: the fields of the byte, and the actions of a row.
use Rattle.std.specs.Prelude.{ℕ, List, [], ◌∷◌, map}
use Rattle.wire.specs.Bits.{Field}
use Rattle.wire.specs.Act.{Act}
use Rattle.wire.specs.Layout.{num, reserved, at, field_of, flat_acts}
use Rattle.pairs.specs.Layout.{pair}

-- row j of the table
abbrev pub pair_fields : List ℕ → ℕ → List Field
pair_fields u j = map (field_of (at 2 u j)) (reserved 1 0 ∷ num 7 1 ∷ [])

abbrev pub pair_acts : List ℕ → ℕ → List Act
pair_acts u j = flat_acts pair (at 2 u j)
