-- Writing the scene body section after section, as `MpegH3dAudioScene::write` has it: what the functions of both passes promise. It is what the layouts write (proofs/Writes).
use Rattle.std.specs.Prelude.{ℕ, List, [], ◌∷◌, ◌++◌, map, Bool, true, ◌&&◌}
use Rattle.wire.specs.Bits.{Field, field, bit}
use Rattle.wire.specs.Act as A
use Rattle.wire.specs.Act.{Act, demand, byte, when, rows}
use Rattle.wire.specs.declared.pen.Fault.TheVariants as F
use Rattle.wire.specs.Layout.{at, flat_acts, family_acts}
use Rattle.frame.specs.Kind.{Lent}
use Rattle.frame.specs.Body.{table}
use Rattle.scene_groups.specs.Layout.{group}
use Rattle.switch_groups.specs.Layout.{member, switch_group}
use Rattle.conditions.specs.Layout.{condition}
use Rattle.presets.specs.Layout.{preset}
use Rattle.scene_kind.specs.declared.rows.Section.{Section}
use Rattle.scene_kind.specs.declared.rows.MpegH3dAudioScene.{MpegH3dAudioScene}

-- ---- the bytes of the top record

abbrev pub flags_byte : MpegH3dAudioScene → List Field
flags_byte m = field 1 (bit m.groups.present) ∷ field 1 (bit m.switch_groups.present) ∷ field 1 (bit m.presets.present) ∷ field 5 m.reserved_flags ∷ []

abbrev pub head_bytes : MpegH3dAudioScene → List (List Field)
head_bytes m = flags_byte m ∷ (field 8 m.scene_info_id ∷ []) ∷ []

-- r reserved bits above a count of w bits
abbrev pub count_byte : (r w : ℕ) → ℕ → Section → List Field
count_byte r w reserved s = field r reserved ∷ field w s.count ∷ []

-- ---- the rows of the tables

abbrev pub group_acts : Lent → ℕ → List Act
group_acts lent i = flat_acts group (at 27 (table 0 lent) i)

abbrev pub switch_acts : Lent → ℕ → List Act
switch_acts lent = family_acts switch_group 2 member (table 1 lent) (table 2 lent)

abbrev pub preset_acts : Lent → ℕ → List Act
preset_acts lent = family_acts preset 13 condition (table 3 lent) (table 4 lent)

-- ---- the sections

unfoldable pub section_acts : Section → List Field → (ℕ → List Act) → List Act
section_acts s fs row = when s.present (byte fs ∷ rows row 0 s.count)

abbrev pub groups_acts : MpegH3dAudioScene → (ℕ → List Act) → List Act
groups_acts m row = section_acts m.groups (count_byte 1 7 m.reserved_groups m.groups) row

abbrev pub switch_groups_acts : MpegH3dAudioScene → (ℕ → List Act) → List Act
switch_groups_acts m row = section_acts m.switch_groups (count_byte 3 5 m.reserved_switch_groups m.switch_groups) row

abbrev pub presets_acts : MpegH3dAudioScene → (ℕ → List Act) → List Act
presets_acts m row = section_acts m.presets (count_byte 3 5 m.reserved_presets m.presets) row

-- the rows of a section that is there stand in its table
abbrev pub within : Section → ℕ → List ℕ → Bool
within s columns t = A.within s.present s.count columns t

abbrev pub all_within : MpegH3dAudioScene → (groups switches presets : List ℕ) → Bool
all_within m g s p = within m.groups 27 g && (within m.switch_groups 9 s && within m.presets 7 p)

-- the flags of the record are no numbers, and no list of it must have rows: nothing is wrong with them
unfoldable pub scene_acts : MpegH3dAudioScene → Lent → List Act
scene_acts m lent =
    demand F.Range (all_within m (table 0 lent) (table 1 lent) (table 3 lent))
    ∷ demand F.Field true
    ∷ demand F.Empty true
    ∷ map byte (head_bytes m)
    ++ (groups_acts m (group_acts lent)
    ++ (switch_groups_acts m (switch_acts lent)
    ++ presets_acts m (preset_acts lent)))
