-- The declared rows of table 1 as columns, the layout of a group in its parts, and what the functions of a part promise.
use Rattle.std.specs.Prelude.{ℕ, ◌+◌, Bool, ◌≡◌, length, get_or, eqb}
use mathlib.Core.List.{List, [], ◌∷◌, ◌++◌, flatten}
use Rattle.std.proofs.lemmas.List.Edits.{sets}
use Rattle.wire.specs.Bits.{part}
use Rattle.wire.specs.Act.{pick}
use Rattle.wire.specs.Layout.{Cell, Layout, end, optional, ◌▹◌, num, reserved, flag, Columns, of}
use Rattle.wire.specs.Straight.{PartTaken}
use Rattle.scene_groups.specs.Layout.{position, gain, language}
use Rattle.scene_groups.specs.declared.rows.PositionInteractivity.{PositionInteractivity}
use Rattle.scene_groups.specs.declared.rows.GainInteractivity.{GainInteractivity}
use Rattle.scene_groups.specs.declared.rows.ContentLanguage.{ContentLanguage}
use Rattle.scene_groups.specs.declared.rows.SceneGroup.{SceneGroup}

abbrev pub position_row : PositionInteractivity → List ℕ
position_row p =
    p.present ∷ p.reserved_min_az ∷ p.min_az_offset ∷ p.reserved_max_az ∷ p.max_az_offset ∷ p.reserved_min_el ∷ p.min_el_offset ∷ p.reserved_max_el ∷ p.max_el_offset ∷ p.min_dist_offset ∷ p.max_dist_offset ∷ []

abbrev pub gain_row : GainInteractivity → List ℕ
gain_row g = g.present ∷ g.reserved_min ∷ g.min_gain ∷ g.reserved_max ∷ g.max_gain ∷ []

abbrev pub language_row : ContentLanguage → List ℕ
language_row l = l.present ∷ l.first ∷ l.second ∷ l.third ∷ []

abbrev pub head_row : SceneGroup → List ℕ
head_row g = g.reserved_id ∷ g.group_id.0 ∷ g.reserved_flags ∷ g.allow_on_off ∷ g.default_on_off ∷ g.reserved_kind ∷ g.content_kind ∷ []

-- the 27 columns
abbrev pub group_row : SceneGroup → List ℕ
group_row g = head_row g ++ (position_row g.position ++ (gain_row g.gain ++ language_row g.content_language))

abbrev pub group_cols : SceneGroup → Columns
group_cols g = of (group_row g)

-- parts that are not there
abbrev pub no_position : PositionInteractivity
no_position = record { present = 0; reserved_min_az = 0; min_az_offset = 0; reserved_max_az = 0; max_az_offset = 0; reserved_min_el = 0; min_el_offset = 0; reserved_max_el = 0; max_el_offset = 0; min_dist_offset = 0; max_dist_offset = 0 }

abbrev pub no_gain : GainInteractivity
no_gain = record { present = 0; reserved_min = 0; min_gain = 0; reserved_max = 0; max_gain = 0 }

abbrev pub no_language : ContentLanguage
no_language = record { present = 0; first = 0; second = 0; third = 0 }

-- the row that begins at column b of a table, and its parts
abbrev pub position_of : List ℕ → ℕ → PositionInteractivity
position_of t b = record {
  present = get_or t (b + 7) 0;
  reserved_min_az = get_or t (b + 8) 0;
  min_az_offset = get_or t (b + 9) 0;
  reserved_max_az = get_or t (b + 10) 0;
  max_az_offset = get_or t (b + 11) 0;
  reserved_min_el = get_or t (b + 12) 0;
  min_el_offset = get_or t (b + 13) 0;
  reserved_max_el = get_or t (b + 14) 0;
  max_el_offset = get_or t (b + 15) 0;
  min_dist_offset = get_or t (b + 16) 0;
  max_dist_offset = get_or t (b + 17) 0;
}

abbrev pub gain_of : List ℕ → ℕ → GainInteractivity
gain_of t b = record {
  present = get_or t (b + 18) 0;
  reserved_min = get_or t (b + 19) 0;
  min_gain = get_or t (b + 20) 0;
  reserved_max = get_or t (b + 21) 0;
  max_gain = get_or t (b + 22) 0;
}

abbrev pub language_of : List ℕ → ℕ → ContentLanguage
language_of t b = record {
  present = get_or t (b + 23) 0;
  first = get_or t (b + 24) 0;
  second = get_or t (b + 25) 0;
  third = get_or t (b + 26) 0;
}

abbrev pub group_of : List ℕ → ℕ → SceneGroup
group_of t b = record {
  reserved_id = get_or t b 0;
  group_id = record { 0 = get_or t (b + 1) 0 };
  reserved_flags = get_or t (b + 2) 0;
  allow_on_off = get_or t (b + 3) 0;
  default_on_off = get_or t (b + 4) 0;
  reserved_kind = get_or t (b + 5) 0;
  content_kind = get_or t (b + 6) 0;
  position = position_of t b;
  gain = gain_of t b;
  content_language = language_of t b;
}

-- parts that are there, from their bytes
abbrev pub position_from : List ℕ → ℕ → PositionInteractivity
position_from s at = record {
  present = 1;
  reserved_min_az = part 7 1 (get_or s at 0);
  min_az_offset = part 0 7 (get_or s at 0);
  reserved_max_az = part 7 1 (get_or s (at + 1) 0);
  max_az_offset = part 0 7 (get_or s (at + 1) 0);
  reserved_min_el = part 5 3 (get_or s (at + 2) 0);
  min_el_offset = part 0 5 (get_or s (at + 2) 0);
  reserved_max_el = part 5 3 (get_or s (at + 3) 0);
  max_el_offset = part 0 5 (get_or s (at + 3) 0);
  min_dist_offset = part 4 4 (get_or s (at + 4) 0);
  max_dist_offset = part 0 4 (get_or s (at + 4) 0);
}

abbrev pub gain_from : List ℕ → ℕ → GainInteractivity
gain_from s at = record { present = 1; reserved_min = part 6 2 (get_or s at 0); min_gain = part 0 6 (get_or s at 0); reserved_max = part 5 3 (get_or s (at + 1) 0); max_gain = part 0 5 (get_or s (at + 1) 0) }

abbrev pub language_from : List ℕ → ℕ → ContentLanguage
language_from s at = record { present = 1; first = part 0 8 (get_or s at 0); second = part 0 8 (get_or s (at + 1) 0); third = part 0 8 (get_or s (at + 2) 0) }

-- the seven columns of the three bytes that are always there
abbrev pub head_of : ℕ → ℕ → ℕ → List ℕ
head_of a b c = part 7 1 a ∷ part 0 7 a ∷ part 5 3 b ∷ part 4 1 b ∷ part 3 1 b ∷ part 4 4 c ∷ part 0 4 c ∷ []

-- ---- stored in a table: t became u, from the column `to` on

-- the n columns of the part p, whose first is its flag v; the part has m bytes if it is there
pub record PartPut (k n : ℕ) (p : Layout) (v : ℕ) (zeros : List ℕ) (m : ℕ) (s : List ℕ) (at : ℕ) (t : List ℕ) (to next : ℕ) (u : List ℕ) : Type 0 where
  pub row : List ℕ
  pub long : length row ≡ n
  pub takes : PartTaken k n p v zeros s at row
  pub stored : u ≡ sets t to row
  pub on : next ≡ at + pick (eqb v 1) m 0

-- ---- the layout of a group in its parts: the bytes that are always there, and three parts

abbrev pub id_cells : List Cell
id_cells = reserved 1 0 ∷ num 7 1 ∷ []

abbrev pub flag_cells : List Cell
flag_cells = reserved 3 2 ∷ flag 3 ∷ flag 4 ∷ flag 7 ∷ flag 18 ∷ flag 23 ∷ []

abbrev pub content_cells : List Cell
content_cells = reserved 4 5 ∷ num 4 6 ∷ []

abbrev pub position_cells : List (List Cell)
position_cells =
    (reserved 1 8 ∷ num 7 9 ∷ []) ∷ (reserved 1 10 ∷ num 7 11 ∷ []) ∷ (reserved 3 12 ∷ num 5 13 ∷ []) ∷ (reserved 3 14 ∷ num 5 15 ∷ []) ∷ (num 4 16 ∷ num 4 17 ∷ []) ∷ []

abbrev pub gain_cells : List (List Cell)
gain_cells = (reserved 2 19 ∷ num 6 20 ∷ []) ∷ (reserved 3 21 ∷ num 5 22 ∷ []) ∷ []

abbrev pub language_cells : List (List Cell)
language_cells = (num 8 24 ∷ []) ∷ (num 8 25 ∷ []) ∷ (num 8 26 ∷ []) ∷ []

-- the cells of the parts that are there
abbrev pub part_cells : Bool → Bool → Bool → List Cell
part_cells x y z = pick x (flatten position_cells) [] ++ (pick y (flatten gain_cells) [] ++ (pick z (flatten language_cells) [] ++ []))

abbrev pub parts : Layout
parts = optional 7 position ▹ optional 18 gain ▹ optional 23 language ▹ end
