-- A group of the multi_stream body, a row of table 8, as a syntax table (H.222.0 2.6.114, Table 2-125).
use Rattle.std.specs.Prelude.{[], ◌∷◌}
use Rattle.wire.specs.Layout.{Layout, end, one, optional, follows, ◌▹◌, num, flag}
use Rattle.wire.specs.declared.pen.Fault.TheVariants as F

-- the auxiliary location is there (1) exactly if the group is not in the main stream (0); 9 if it is not so
unfoldable pub group : Layout
group =
    one (num 7 0 ∷ flag 1 ∷ [])
    ▹ follows (flag 2) 1 (1 ∷ 0 ∷ []) F.Auxiliary
    ▹ optional 2 (one (flag 3 ∷ num 7 4 ∷ []) ▹ end)
    ▹ end
