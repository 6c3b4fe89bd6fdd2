-- Writing the DRC and loudness body list after list, as `MpegH3dAudioDrcLoudness::write` has it: what the functions of both passes promise. It is what the layouts write (proofs/Writes).
use Rattle.std.specs.Prelude.{ℕ, ◌/◌, ◌<◌, List, [], ◌∷◌, ◌++◌, map, Bool, true, ◌&&◌, ◌≡◌, length, leb}
use Rattle.wire.specs.Bits.{Field, field, bit}
use Rattle.wire.specs.Act.{Act, demand, byte, when, within, rows}
use Rattle.wire.specs.declared.pen.Fault.TheVariants as F
use Rattle.wire.specs.Layout.{at, flat_acts, family_acts_of, bearing_acts}
use Rattle.frame.specs.Kind.{Lent}
use Rattle.frame.specs.Body.{table}
use Rattle.scopes.specs.Rows.{scoped}
use Rattle.instructions.specs.Layout.{additional, instruction}
use Rattle.loudness.specs.Layout.{entry}
use Rattle.downmixes.specs.Layout.{downmix}
use Rattle.drc_kind.specs.declared.rows.DrcLoudnessInfo.{DrcLoudnessInfo}
use Rattle.drc_kind.specs.declared.rows.Info.{Info}
use Rattle.drc_kind.specs.declared.rows.MpegH3dAudioDrcLoudness.{MpegH3dAudioDrcLoudness}
use Rattle.drc_writing.specs.declared.writing.Lists.{Lists}

-- the four tables, and the store
abbrev pub lent : Lists → Lent
lent t = t.instructions.instructions.now ∷ t.instructions.additional.now ∷ t.entries.entries.now ∷ t.downmixes.downmixes.now ∷ []

abbrev pub store_of : Lists → List ℕ
store_of t = t.entries.store.now

-- ---- the bytes of the top record

abbrev pub head_fields : MpegH3dAudioDrcLoudness → List (List Field)
head_fields m = (field 7 m.reserved ∷ field 1 (bit m.info.present) ∷ []) ∷ []

abbrev pub count_fields : DrcLoudnessInfo → List (List Field)
count_fields i =
    (field 2 i.reserved_drc ∷ field 6 i.drc_instructions ∷ [])
    ∷ (field 2 i.reserved_loudness ∷ field 6 i.loudness_infos ∷ [])
    ∷ (field 3 i.reserved_downmix ∷ field 5 i.downmix_definitions ∷ [])
    ∷ []

-- ---- the rows of the tables; one that has a scope is seen through it (`scoped`)

abbrev pub instruction_acts : Lent → ℕ → List Act
instruction_acts lent i = family_acts_of instruction 2 additional (table 1 lent) (scoped (at 24 (table 0 lent) i))

abbrev pub entry_acts : Lent → List ℕ → ℕ → List Act
entry_acts lent store i = bearing_acts entry store (scoped (at 7 (table 2 lent) i))

abbrev pub downmix_acts : Lent → ℕ → List Act
downmix_acts lent i = flat_acts downmix (at 4 (table 3 lent) i)

-- ---- the lists

unfoldable pub all_within : Info → (instructions loudness downmixes : List ℕ) → Bool
all_within i a b c =
    within i.present i.part.drc_instructions 24 a
    && (within i.present i.part.loudness_infos 7 b && within i.present i.part.downmix_definitions 4 c)

abbrev pub lists_acts : DrcLoudnessInfo → Lent → List ℕ → List Act
lists_acts i lent store =
    rows (instruction_acts lent) 0 i.drc_instructions ++ (rows (entry_acts lent store) 0 i.loudness_infos ++ rows (downmix_acts lent) 0 i.downmix_definitions)

unfoldable pub info_acts : Info → Lent → List ℕ → List Act
info_acts i lent store = when i.present (map byte (count_fields i.part) ++ lists_acts i.part lent store)

-- the flag of the record is no number, and no list of it must have rows: nothing is wrong with them
unfoldable pub drc_acts : MpegH3dAudioDrcLoudness → Lent → List ℕ → List Act
drc_acts m lent store =
    demand F.Range (all_within m.info (table 0 lent) (table 2 lent) (table 3 lent))
    ∷ demand F.Field true
    ∷ demand F.Empty true
    ∷ map byte (head_fields m)
    ++ info_acts m.info lent store

-- counts that their tables have rows for, and that fit their bytes
pub record Listed (i : DrcLoudnessInfo) (instructions loudness downmixes : List ℕ) : Type 0 where
  pub instructions_within : leb i.drc_instructions (length instructions / 24) ≡ true
  pub entries_within : leb i.loudness_infos (length loudness / 7) ≡ true
  pub downmixes_within : leb i.downmix_definitions (length downmixes / 4) ≡ true
  pub instructions_few : i.drc_instructions < 64
  pub entries_few : i.loudness_infos < 64
  pub downmixes_few : i.downmix_definitions < 32
