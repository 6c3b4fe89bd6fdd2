-- A label of the text label body, a row of table 7, as a syntax table (H.222.0 2.6.112, Table 2-124): an ID of w bits, and a payload with its length before it.
use Rattle.std.specs.Prelude.{ℕ, ◌-◌, [], ◌∷◌}
use Rattle.wire.specs.Layout.{end, one, ◌▹◌, num, reserved, Bearing}

-- the other bits of the byte with the ID are reserved
abbrev pub label : ℕ → Bearing
label w = record {
  width = 4;
  head = one (reserved (8 - w) 0 ∷ num w 1 ∷ []) ▹ end;
  offset = 2;
  size = 3;
}
