-- A group of the scene body, a row of table 1, as a syntax table (H.222.0 Table 2-123): each byte with its fields from the highest down, each field with its width and its column.
use Rattle.std.specs.Prelude.{[], ◌∷◌}
use Rattle.wire.specs.Layout.{Layout, end, line, one, optional, ◌▹◌, num, reserved, flag}

-- table 1: the optional parts are steered by columns 7, 18 and 23
abbrev pub position : Layout
position =
    one (reserved 1 8 ∷ num 7 9 ∷ [])
    ▹ one (reserved 1 10 ∷ num 7 11 ∷ [])
    ▹ one (reserved 3 12 ∷ num 5 13 ∷ [])
    ▹ one (reserved 3 14 ∷ num 5 15 ∷ [])
    ▹ one (num 4 16 ∷ num 4 17 ∷ [])
    ▹ end

abbrev pub gain : Layout
gain =
    one (reserved 2 19 ∷ num 6 20 ∷ [])
    ▹ one (reserved 3 21 ∷ num 5 22 ∷ [])
    ▹ end

-- three bytes as one read
abbrev pub language : Layout
language = line ((num 8 24 ∷ []) ∷ (num 8 25 ∷ []) ∷ (num 8 26 ∷ []) ∷ []) ▹ end

unfoldable pub group : Layout
group =
    one (reserved 1 0 ∷ num 7 1 ∷ [])
    ▹ one (reserved 3 2 ∷ flag 3 ∷ flag 4 ∷ flag 7 ∷ flag 18 ∷ flag 23 ∷ [])
    ▹ one (reserved 4 5 ∷ num 4 6 ∷ [])
    ▹ optional 7 position
    ▹ optional 18 gain
    ▹ optional 23 language
    ▹ end
