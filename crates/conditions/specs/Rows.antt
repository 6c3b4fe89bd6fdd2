-- The declared rows of table 5 as columns, the layout of a condition in its parts, and what a detail's flags say of its bytes.
use Rattle.std.specs.Prelude.{ℕ, ◌+◌, ◌*◌, List, [], ◌∷◌, ◌++◌, get_or}
use Rattle.wire.specs.Bits.{part}
use Rattle.wire.specs.Layout.{Cell, Layout, end, one, ◌▹◌, num, reserved, flag, Columns, of}
use Rattle.conditions.specs.declared.rows.PresetPosition.{PresetPosition}
use Rattle.conditions.specs.declared.rows.PresetGain.{PresetGain}
use Rattle.conditions.specs.declared.rows.PresetConditionDetail.{PresetConditionDetail}
use Rattle.conditions.specs.declared.rows.PresetCondition.{PresetCondition}

abbrev pub position_row : PresetPosition → List ℕ
position_row p = p.present ∷ p.az_offset ∷ p.reserved_el ∷ p.el_offset ∷ p.reserved_dist ∷ p.dist_factor ∷ []

abbrev pub gain_row : PresetGain → List ℕ
gain_row g = g.present ∷ g.gain ∷ []

abbrev pub detail_row : PresetConditionDetail → List ℕ
detail_row d = d.present ∷ d.reserved ∷ d.disable_gain_interactivity ∷ d.disable_position_interactivity ∷ (gain_row d.gain ++ position_row d.position)

-- the 13 columns
abbrev pub condition_row : PresetCondition → List ℕ
condition_row c = c.group_id.0 ∷ detail_row c.detail

abbrev pub condition_cols : PresetCondition → Columns
condition_cols c = of (condition_row c)

-- parts that are not there
abbrev pub no_gain : PresetGain
no_gain = record { present = 0; gain = 0 }

abbrev pub no_position : PresetPosition
no_position = record { present = 0; az_offset = 0; reserved_el = 0; el_offset = 0; reserved_dist = 0; dist_factor = 0 }

abbrev pub no_detail : PresetConditionDetail
no_detail = record { present = 0; reserved = 0; disable_gain_interactivity = 0; disable_position_interactivity = 0; gain = no_gain; position = no_position }

-- the row that begins at column b of a table
abbrev pub condition_of : List ℕ → ℕ → PresetCondition
condition_of t b = record {
  group_id = record { 0 = get_or t b 0 };
  detail = record {
    present = get_or t (b + 1) 0;
    reserved = get_or t (b + 2) 0;
    disable_gain_interactivity = get_or t (b + 3) 0;
    disable_position_interactivity = get_or t (b + 4) 0;
    gain = record { present = get_or t (b + 5) 0; gain = get_or t (b + 6) 0 };
    position = record {
      present = get_or t (b + 7) 0;
      az_offset = get_or t (b + 8) 0;
      reserved_el = get_or t (b + 9) 0;
      el_offset = get_or t (b + 10) 0;
      reserved_dist = get_or t (b + 11) 0;
      dist_factor = get_or t (b + 12) 0;
    };
  };
}

-- a position that is there, from its bytes
abbrev pub position_from : List ℕ → ℕ → PresetPosition
position_from s at = record {
  present = 1;
  az_offset = part 0 8 (get_or s at 0);
  reserved_el = part 6 2 (get_or s (at + 1) 0);
  el_offset = part 0 6 (get_or s (at + 1) 0);
  reserved_dist = part 4 4 (get_or s (at + 2) 0);
  dist_factor = part 0 4 (get_or s (at + 2) 0);
}

-- ---- the layout of a condition in its parts

abbrev pub gain : Layout
gain = one (num 8 6 ∷ []) ▹ end

abbrev pub id_cells : List Cell
id_cells = num 7 0 ∷ flag 1 ∷ []

abbrev pub flag_cells : List Cell
flag_cells = reserved 4 2 ∷ flag 3 ∷ flag 5 ∷ flag 4 ∷ flag 7 ∷ []

abbrev pub gain_cells : List (List Cell)
gain_cells = (num 8 6 ∷ []) ∷ []

abbrev pub position_cells : List (List Cell)
position_cells = (num 8 8 ∷ []) ∷ (reserved 2 9 ∷ num 6 10 ∷ []) ∷ (reserved 4 11 ∷ num 4 12 ∷ []) ∷ []

-- the bytes behind the flags b of a detail
abbrev pub behind : ℕ → ℕ
behind b = part 2 1 b + part 0 1 b * 3
