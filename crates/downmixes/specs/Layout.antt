-- A downmix definition of the DRC and loudness body, a row of table 12, as a syntax table (H.222.0 2.6.116, Table 2-126).
use Rattle.std.specs.Prelude.{[], ◌∷◌}
use Rattle.wire.specs.Layout.{Layout, end, one, ◌▹◌, num, reserved}

unfoldable pub downmix : Layout
downmix =
    one (reserved 1 0 ∷ num 7 1 ∷ [])
    ▹ one (num 2 2 ∷ num 6 3 ∷ [])
    ▹ end
