-- A condition of a preset of the scene body, a row of table 5, as a syntax table (H.222.0 Table 2-123).
use Rattle.std.specs.Prelude.{[], ◌∷◌}
use Rattle.wire.specs.Layout.{Layout, end, one, optional, ◌▹◌, num, reserved, flag}

-- a condition may have a detail (column 1), and that a gain (column 5) and a position (column 7)
abbrev pub position : Layout
position = one (num 8 8 ∷ []) ▹ one (reserved 2 9 ∷ num 6 10 ∷ []) ▹ one (reserved 4 11 ∷ num 4 12 ∷ []) ▹ end

abbrev pub detail : Layout
detail =
    one (reserved 4 2 ∷ flag 3 ∷ flag 5 ∷ flag 4 ∷ flag 7 ∷ [])
    ▹ optional 5 (one (num 8 6 ∷ []) ▹ end)
    ▹ optional 7 position
    ▹ end

unfoldable pub condition : Layout
condition = one (num 7 0 ∷ flag 1 ∷ []) ▹ optional 1 detail ▹ end
