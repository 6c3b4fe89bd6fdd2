-- A loudness entry of the DRC and loudness body, a row of table 11, as a syntax table (H.222.0 2.6.116, Table 2-126): a scope, and a payload with its length before it.
use Rattle.std.specs.Prelude.{ℕ, List, [], ◌∷◌}
use Rattle.wire.specs.Prog.{Prog}
use Rattle.wire.specs.Layout.{end, judged, ◌▹◌, Bearing, Borne, bearing}
use Rattle.scopes.specs.Layout.{scope}

-- the types that carry a group ID here
abbrev pub types : List ℕ
types = 1 ∷ 2 ∷ []

abbrev pub entry : Bearing
entry = record {
  width = 7;
  head = judged (scope types) ▹ end;
  offset = 5;
  size = 6;
}

abbrev pub entries : Prog Borne
entries = bearing entry
