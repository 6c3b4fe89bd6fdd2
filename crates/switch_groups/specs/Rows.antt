-- The declared rows of tables 2 and 3 as columns and from their tables, a switch group from its bytes, and the bytes of its layout.
use Rattle.std.specs.Prelude.{ℕ, ◌+◌, List, [], ◌∷◌, get_or}
use Rattle.wire.specs.Bits.{part}
use Rattle.wire.specs.Layout.{Cell, num, reserved, flag, less_one, Columns, of}
use Rattle.wire.specs.declared.rows.Range.{Range}
use Rattle.switch_groups.specs.declared.rows.SwitchGroupMember.{SwitchGroupMember}
use Rattle.switch_groups.specs.declared.rows.SwitchGroup.{SwitchGroup}

-- ---- a row of table 3

abbrev pub member_row : SwitchGroupMember → List ℕ
member_row m = m.reserved ∷ m.member_id.0 ∷ []

abbrev pub member_of : List ℕ → ℕ → SwitchGroupMember
member_of t b = record { reserved = get_or t b 0; member_id = record { 0 = get_or t (b + 1) 0 } }

-- ---- a row of table 2

abbrev pub switch_group_row : SwitchGroup → List ℕ
switch_group_row g =
    g.reserved_id ∷ g.switch_group_id.0 ∷ g.allow_on_off ∷ g.default_on_off ∷ g.reserved_members ∷ g.members.first ∷ g.members.count ∷ g.reserved_default ∷ g.default_group_id.0 ∷ []

abbrev pub switch_group_cols : SwitchGroup → Columns
switch_group_cols g = of (switch_group_row g)

abbrev pub switch_group_of : List ℕ → ℕ → SwitchGroup
switch_group_of t b = record {
  reserved_id = get_or t b 0;
  switch_group_id = record { 0 = get_or t (b + 1) 0 };
  allow_on_off = get_or t (b + 2) 0;
  default_on_off = get_or t (b + 3) 0;
  reserved_members = get_or t (b + 4) 0;
  members = record { first = get_or t (b + 5) 0; count = get_or t (b + 6) 0 };
  reserved_default = get_or t (b + 7) 0;
  default_group_id = record { 0 = get_or t (b + 8) 0 };
}

abbrev pub switch_group_from : ℕ → ℕ → ℕ → Range → SwitchGroup
switch_group_from id b default members = record {
  reserved_id = part 7 1 id;
  switch_group_id = record { 0 = part 2 5 id };
  allow_on_off = part 1 1 id;
  default_on_off = part 0 1 id;
  reserved_members = part 5 3 b;
  members = members;
  reserved_default = part 7 1 default;
  default_group_id = record { 0 = part 0 7 default };
}

-- ---- the bytes of its layout

abbrev pub id_cells : List Cell
id_cells = reserved 1 0 ∷ num 5 1 ∷ flag 2 ∷ flag 3 ∷ []

abbrev pub count_cells : List Cell
count_cells = reserved 3 4 ∷ less_one 5 6 ∷ []

abbrev pub default_cells : List Cell
default_cells = reserved 1 7 ∷ num 7 8 ∷ []
