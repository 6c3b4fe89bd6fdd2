-- The declared row of table 8 as columns and from its table, the rows that its constructors make, and the bytes of its layout.
use Rattle.std.specs.Prelude.{ℕ, ◌+◌, List, [], ◌∷◌, get_or}
use Rattle.wire.specs.Layout.{Cell, num, flag, Columns, of}
use Rattle.wire.specs.declared.ids.GroupId.{GroupId}
use Rattle.stream_groups.specs.declared.rows.AuxiliaryLocation.{AuxiliaryLocation}
use Rattle.stream_groups.specs.declared.rows.Auxiliary.{Auxiliary}
use Rattle.stream_groups.specs.declared.rows.MultiStreamGroup.{MultiStreamGroup}

abbrev pub located : ℕ → ℕ → AuxiliaryLocation
located ts id = record { is_in_ts = ts; auxiliary_stream_id = id }

abbrev pub absent_auxiliary : Auxiliary
absent_auxiliary = record { present = 0; location = located 0 0 }

abbrev pub present_auxiliary : AuxiliaryLocation → Auxiliary
present_auxiliary l = record { present = 1; location = l }

abbrev pub group_id : ℕ → GroupId
group_id n = record { 0 = n }

abbrev pub in_main : GroupId → MultiStreamGroup
in_main id = record { group_id = id; is_in_main_stream = 1; auxiliary = absent_auxiliary }

abbrev pub in_auxiliary : GroupId → AuxiliaryLocation → MultiStreamGroup
in_auxiliary id l = record { group_id = id; is_in_main_stream = 0; auxiliary = present_auxiliary l }

-- columns 2 to 4
abbrev pub auxiliary_row : Auxiliary → List ℕ
auxiliary_row a = a.present ∷ a.location.is_in_ts ∷ a.location.auxiliary_stream_id ∷ []

abbrev pub group_row : MultiStreamGroup → List ℕ
group_row g = g.group_id.0 ∷ g.is_in_main_stream ∷ auxiliary_row g.auxiliary

abbrev pub group_cols : MultiStreamGroup → Columns
group_cols g = of (group_row g)

-- the row whose first column is b
abbrev pub group_of : List ℕ → ℕ → MultiStreamGroup
group_of t b = record {
  group_id = group_id (get_or t b 0);
  is_in_main_stream = get_or t (b + 1) 0;
  auxiliary = record { present = get_or t (b + 2) 0; location = located (get_or t (b + 3) 0) (get_or t (b + 4) 0) };
}

abbrev pub group_cells : List Cell
group_cells = num 7 0 ∷ flag 1 ∷ []

abbrev pub location_cells : List Cell
location_cells = flag 3 ∷ num 7 4 ∷ []
