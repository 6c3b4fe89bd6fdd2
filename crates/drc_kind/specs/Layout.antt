-- The top record of the DRC and loudness body as a syntax table (H.222.0 2.6.116, Table 2-126): all of its bytes stand before the instructions, the loudness entries and the downmix definitions.
use Rattle.std.specs.Prelude.{List, [], ◌∷◌}
use Rattle.wire.specs.Layout.{Layout, end, one, optional, ◌▹◌, num, reserved, flag}

-- the three counts stand together; each is 0 where they are not there
abbrev pub counts : Layout
counts =
    one (reserved 2 2 ∷ num 6 5 ∷ [])
    ▹ one (reserved 2 3 ∷ num 6 6 ∷ [])
    ▹ one (reserved 3 4 ∷ num 5 7 ∷ [])
    ▹ end

unfoldable pub head : Layout
head = one (reserved 7 0 ∷ flag 1 ∷ []) ▹ optional 1 counts ▹ end

-- nothing of it stands between the lists or behind them
abbrev pub layouts : List Layout
layouts = head ∷ end ∷ end ∷ end ∷ []
