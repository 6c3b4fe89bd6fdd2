-- The target loudness of a DRC instruction as a syntax table (H.222.0 2.6.116, Table 2-126): columns 15 to 23 of a row of table 9, the first of which is its flag.
use Rattle.std.specs.Prelude.{[], ◌∷◌}
use Rattle.wire.specs.Layout.{Layout, end, one, optional, ◌▹◌, num, reserved, flag}

abbrev pub lower : Layout
lower = one (reserved 2 19 ∷ num 6 20 ∷ []) ▹ end

-- the lower value stands between the upper one, whose byte has its flag, and the DRC set that this one depends on
abbrev pub target : Layout
target =
    one (reserved 1 16 ∷ num 6 17 ∷ flag 18 ∷ [])
    ▹ optional 18 lower
    ▹ one (reserved 1 21 ∷ num 6 22 ∷ num 1 23 ∷ [])
    ▹ end
