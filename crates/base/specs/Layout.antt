-- The top record of the base body as a syntax table (H.222.0 2.6.106, Table 2-121); its compatible sets stand behind it.
use Rattle.std.specs.Prelude.{[], ◌∷◌}
use Rattle.wire.specs.Layout.{Layout, end, one, ◌▹◌, num, reserved, flag, unset}

-- the flag of the compatible sets stands upside down: set where there are none
unfoldable pub head : Layout
head =
    one (num 8 0 ∷ [])
    ▹ one (flag 1 ∷ unset 2 ∷ reserved 6 5 ∷ [])
    ▹ one (reserved 2 6 ∷ num 6 7 ∷ [])
    ▹ end
