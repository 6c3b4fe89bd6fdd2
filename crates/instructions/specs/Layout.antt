-- A DRC instruction (row of table 9) and its additional downmix IDs (rows of table 10) as syntax tables (H.222.0 2.6.116, Table 2-126).
use Rattle.std.specs.Prelude.{ℕ, List, [], ◌∷◌}
use Rattle.wire.specs.Prog.{Prog}
use Rattle.wire.specs.Layout.{Layout, end, one, word, optional, judged, ◌▹◌, num, reserved, flag, Broken, broken, flat, Family}
use Rattle.pairs.specs.Layout.{pair}
use Rattle.scopes.specs.Layout.{scope}
use Rattle.target_loudness.specs.Layout.{target}

-- the types of a scope that carry a group ID here
abbrev pub types : List ℕ
types = 2 ∷ []

abbrev pub additional : Layout
additional = pair

-- the byte that counts the additional IDs says too whether a limiter and a target loudness follow them
abbrev pub settings : Layout
settings =
    judged (scope types)
    ▹ one (reserved 2 5 ∷ num 6 6 ∷ [])
    ▹ one (reserved 1 7 ∷ num 7 8 ∷ [])
    ▹ one (reserved 3 9 ∷ num 3 11 ∷ flag 13 ∷ flag 15 ∷ [])
    ▹ end

abbrev pub limiter : Layout
limiter = one (num 8 14 ∷ []) ▹ end

-- what stands behind the additional IDs
abbrev pub effect : Layout
effect = word 12 ▹ optional 13 limiter ▹ optional 15 target ▹ end

abbrev pub instruction : Broken
instruction = record { width = 24; head = settings; first = 10; count = 11; tail = effect }

abbrev pub instructions : Prog Family
instructions = broken instruction (flat 2 additional)
