-- The top record of the scene body as a syntax table (H.222.0 Table 2-123): its bytes stand before the groups, the switch groups and the presets.
use Rattle.std.specs.Prelude.{ℕ, List, [], ◌∷◌}
use Rattle.wire.specs.Layout.{Layout, end, one, optional, ◌▹◌, num, reserved, flag}

-- each section has a byte for its count, if it is there; the count is 0 where it is not
unfoldable pub groups : Layout
groups =
    one (flag 2 ∷ flag 5 ∷ flag 8 ∷ reserved 5 0 ∷ [])
    ▹ one (num 8 1 ∷ [])
    ▹ optional 2 (one (reserved 1 10 ∷ num 7 3 ∷ []) ▹ end)
    ▹ end

unfoldable pub switch_group_list : Layout
switch_group_list = optional 5 (one (reserved 3 4 ∷ num 5 6 ∷ []) ▹ end) ▹ end

unfoldable pub presets : Layout
presets = optional 8 (one (reserved 3 7 ∷ num 5 9 ∷ []) ▹ end) ▹ end

abbrev pub layouts : List Layout
layouts = groups ∷ switch_group_list ∷ presets ∷ end ∷ []

-- the reserved bits of an absent section read as 1, 7, 7; column 10 is that of the groups
abbrev pub absent : List ℕ
absent = 0 ∷ 0 ∷ 0 ∷ 0 ∷ 7 ∷ 0 ∷ 0 ∷ 7 ∷ 0 ∷ 0 ∷ 1 ∷ []
