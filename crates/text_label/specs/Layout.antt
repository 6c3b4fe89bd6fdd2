-- The text label body as syntax tables (H.222.0 2.6.112, Table 2-124): the top record, and the pieces of a language before its three lists of labels.
use Rattle.std.specs.Prelude.{[], ◌∷◌}
use Rattle.wire.specs.Layout.{Layout, end, line, one, ◌▹◌, num, reserved}

unfoldable pub head : Layout
head =
    one (num 8 0 ∷ [])
    ▹ one (reserved 4 1 ∷ num 4 2 ∷ [])
    ▹ end

-- the three bytes of a language are one read; the columns 4, 7 and 10 have the first rows of its lists
unfoldable pub groups : Layout
groups =
    line ((num 8 0 ∷ []) ∷ (num 8 1 ∷ []) ∷ (num 8 2 ∷ []) ∷ [])
    ▹ one (reserved 1 3 ∷ num 7 5 ∷ [])
    ▹ end

unfoldable pub switch_group_list : Layout
switch_group_list =
    one (reserved 3 6 ∷ num 5 8 ∷ [])
    ▹ end

unfoldable pub presets : Layout
presets =
    one (reserved 3 9 ∷ num 5 11 ∷ [])
    ▹ end
