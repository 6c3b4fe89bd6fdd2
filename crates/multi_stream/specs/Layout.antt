-- The top record of the multi_stream body as a syntax table (H.222.0 2.6.114, Table 2-125): all of its bytes stand before the groups.
use Rattle.std.specs.Prelude.{[], ◌∷◌}
use Rattle.wire.specs.Layout.{Layout, end, one, optional, ◌▹◌, num, reserved, flag}

-- the main-stream part has the count of the groups; it is 0 where there is none
unfoldable pub head : Layout
head =
    one (flag 1 ∷ num 7 0 ∷ [])
    ▹ optional 1 (one (reserved 1 2 ∷ num 7 3 ∷ []) ▹ one (reserved 1 4 ∷ num 7 5 ∷ []) ▹ end)
    ▹ end
