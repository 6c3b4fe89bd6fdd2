-- The code's answers as the specification's: document 01's numbers and values.
use Rattle.std.specs.Prelude.{ℕ, [], Result}
use Rattle.frame.specs.Numbers.{Answer, answer_as}
use Rattle.frame.specs.Entry as E
use Rattle.frame.specs.declared.Refusal.{Refusal}
use Rattle.base.specs.declared.Sizes.{Sizes}

-- the base has no tables
abbrev pub sized : ℕ → E.Sizes
sized k = record { tables = []; before = k }

abbrev pub measured : Result Sizes Refusal → Answer E.Sizes
measured r = answer_as (λ s. sized s.k) r
