-- The code's answers as the specification's: document 01's numbers and values; and the reserved bits at 0 of a record.
use Rattle.std.specs.Prelude.{ℕ, ◌+◌, List, [], ◌∷◌, Result}
use Rattle.wire.specs.Bits.{zeros}
use Rattle.wire.specs.Act.{pick}
use Rattle.frame.specs.Numbers.{Answer, answer_as}
use Rattle.frame.specs.Entry as E
use Rattle.frame.specs.Entry.{Need}
use Rattle.frame.specs.declared.Refusal.{Refusal}
use Rattle.multi_stream.specs.declared.rows.MpegH3dAudioMultiStream.{MpegH3dAudioMultiStream}
use Rattle.multi_stream.specs.declared.Sizes.{Sizes}

-- table 8 needs so many rows
abbrev pub needed : ℕ → List Need
needed rows = record { number = 8; columns = 5; rows = rows } ∷ []

abbrev pub sized : ℕ → ℕ → E.Sizes
sized rows k = record { tables = needed rows; before = k }

abbrev pub measured : Result Sizes Refusal → Answer E.Sizes
measured r = answer_as (λ s. sized s.groups s.k) r

-- one before each count of the main part, where that part stands in the body
abbrev pub zeros_of : MpegH3dAudioMultiStream → ℕ
zeros_of m = pick m.main.present (zeros 1 m.main.part.reserved_aux + zeros 1 m.main.part.reserved_groups) 0
