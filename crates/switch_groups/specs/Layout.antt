-- A switch group of the scene body (row of table 2) and its members (rows of table 3) as syntax tables (H.222.0 Table 2-123).
use Rattle.std.specs.Prelude.{[], ◌∷◌}
use Rattle.wire.specs.Prog.{Prog}
use Rattle.wire.specs.Layout.{Layout, end, one, ◌▹◌, num, reserved, flag, less_one, Broken, broken, flat, Family}
use Rattle.pairs.specs.Layout.{pair}

abbrev pub member : Layout
member = pair

-- the members stand between the count and the default
abbrev pub switch_group : Broken
switch_group = record {
  width = 9;
  head = one (reserved 1 0 ∷ num 5 1 ∷ flag 2 ∷ flag 3 ∷ []) ▹ one (reserved 3 4 ∷ less_one 5 6 ∷ []) ▹ end;
  first = 5;
  count = 6;
  tail = one (reserved 1 7 ∷ num 7 8 ∷ []) ▹ end;
}

abbrev pub switch_group_list : Prog Family
switch_group_list = broken switch_group (flat 2 member)
