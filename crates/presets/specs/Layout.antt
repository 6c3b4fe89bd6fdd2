-- A preset of the scene body (row of table 4), whose conditions are rows of table 5, as a syntax table (H.222.0 Table 2-123).
use Rattle.std.specs.Prelude.{[], ◌∷◌}
use Rattle.wire.specs.Prog.{Prog}
use Rattle.wire.specs.Layout.{end, one, ◌▹◌, num, reserved, less_one, Broken, broken, flat, Family}
use Rattle.conditions.specs.Layout.{condition}

-- the conditions stand behind the count, and nothing behind them
abbrev pub preset : Broken
preset = record {
  width = 7;
  head = one (reserved 3 0 ∷ num 5 1 ∷ []) ▹ one (reserved 3 2 ∷ num 5 3 ∷ []) ▹ one (reserved 4 4 ∷ less_one 4 6 ∷ []) ▹ end;
  first = 5;
  count = 6;
  tail = end;
}

abbrev pub presets : Prog Family
presets = broken preset (flat 13 condition)
