-- The top record of the scene body as columns, and what was read of a body: rows as their columns.
use Rattle.std.specs.Prelude.{ℕ, List, [], ◌∷◌, ◌++◌, get_or, eqb}
use Rattle.wire.specs.Bits.{bit}
use Rattle.wire.specs.declared.rows.Payload.{Payload}
use Rattle.wire.specs.Layout.{Family}
use Rattle.frame.specs.Kind.{Bound, bounded}
use Rattle.frame.specs.Entry.{Need}
use Rattle.scene_kind.specs.declared.rows.Section.{Section}
use Rattle.scene_kind.specs.declared.rows.MpegH3dAudioScene.{MpegH3dAudioScene}

-- ---- the record

-- its columns in the Rust's order, the trailing run apart
abbrev pub fields : MpegH3dAudioScene → List ℕ
fields m =
    m.reserved_flags ∷ m.scene_info_id ∷ bit m.groups.present ∷ m.groups.count
    ∷ m.reserved_switch_groups ∷ bit m.switch_groups.present ∷ m.switch_groups.count
    ∷ m.reserved_presets ∷ bit m.presets.present ∷ m.presets.count
    ∷ m.reserved_groups ∷ []

abbrev pub section : ℕ → ℕ → Section
section present count = record { present = eqb present 1; count = count }

abbrev pub scene_of : List ℕ → Payload → MpegH3dAudioScene
scene_of r run = record {
  reserved_flags = get_or r 0 0;
  scene_info_id = get_or r 1 0;
  groups = section (get_or r 2 0) (get_or r 3 0);
  reserved_switch_groups = get_or r 4 0;
  switch_groups = section (get_or r 5 0) (get_or r 6 0);
  reserved_presets = get_or r 7 0;
  presets = section (get_or r 8 0) (get_or r 9 0);
  reserved_groups = get_or r 10 0;
  trailing = run;
}

abbrev pub top_columns : ℕ
top_columns = 13

abbrev pub top_row : MpegH3dAudioScene → List ℕ
top_row m = fields m ++ (m.trailing.offset ∷ m.trailing.length ∷ [])

abbrev pub retrail : MpegH3dAudioScene → Payload → MpegH3dAudioScene
retrail m run = record {
  reserved_flags = m.reserved_flags;
  scene_info_id = m.scene_info_id;
  groups = m.groups;
  reserved_switch_groups = m.reserved_switch_groups;
  switch_groups = m.switch_groups;
  reserved_presets = m.reserved_presets;
  presets = m.presets;
  reserved_groups = m.reserved_groups;
  trailing = run;
}

unfoldable pub bounds : MpegH3dAudioScene → List Bound
bounds m =
    bounded 256 m.reserved_flags ∷ bounded 256 m.scene_info_id ∷ bounded 65536 m.groups.count
    ∷ bounded 256 m.reserved_switch_groups ∷ bounded 65536 m.switch_groups.count
    ∷ bounded 256 m.reserved_presets ∷ bounded 65536 m.presets.count
    ∷ bounded 256 m.reserved_groups ∷ bounded 65536 m.trailing.offset ∷ bounded 65536 m.trailing.length ∷ []

-- ---- what is read: the groups, the switch groups and the presets, the last two each with its own rows; and the 11 columns with them

abbrev pub Lists : Type 0
Lists = List (List ℕ) × (List Family × (List Family × Unit {0}))

abbrev pub Scene : Type 0
Scene = List ℕ × Lists

abbrev pub scene_is : List ℕ → List (List ℕ) → List Family → List Family → Scene
scene_is top groups switches presets = (top, (groups, (switches, (presets, tt))))

-- the five tables by their numbers and columns (document 01, "Row tables"), and the rows that each needs
abbrev pub needed : (groups switches members presets conditions : ℕ) → List Need
needed g s m p c =
    record { number = 1; columns = 27; rows = g }
    ∷ record { number = 2; columns = 9; rows = s }
    ∷ record { number = 3; columns = 2; rows = m }
    ∷ record { number = 4; columns = 7; rows = p }
    ∷ record { number = 5; columns = 13; rows = c }
    ∷ []
