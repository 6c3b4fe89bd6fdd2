-- Writing the base body as `MpegH3dAudio::write` has it: what the functions of both passes promise. The actions of the kind are these (proofs/Mirrored).
use Rattle.std.specs.Prelude.{ℕ, ◌+◌, List, [], ◌∷◌, ◌++◌, map, Bool, true, not, ◌≡◌, length, leb}
use Rattle.std.proofs.Math.Seq.{slice}
use Rattle.wire.specs.Bits.{bit, Field, field}
use Rattle.wire.specs.Act.{Act, demand, byte, copy, when, pick}
use Rattle.wire.specs.Pen.{Checked}
use Rattle.wire.specs.declared.pen.Fault.TheVariants as F
use Rattle.wire.specs.Pen.{Pen}
use Rattle.base.specs.declared.rows.CompatibleSets.{CompatibleSets}
use Rattle.base.specs.declared.rows.MpegH3dAudio.{MpegH3dAudio}

abbrev pub flags_byte : MpegH3dAudio → List Field
flags_byte m = field 1 (bit m.interactivity_enabled) ∷ field 1 (bit (not m.compatible_sets.present)) ∷ field 6 m.reserved_flags ∷ []

abbrev pub head_fields : MpegH3dAudio → List (List Field)
head_fields m = (field 8 m.profile_level_indication ∷ []) ∷ flags_byte m ∷ (field 2 m.reserved_layout ∷ field 6 m.reference_channel_layout ∷ []) ∷ []

-- whether the sets, if there are any, stand in the store; their bytes there
abbrev pub inside : CompatibleSets → List ℕ → Bool
inside s store = pick s.present (leb (s.indications.offset + s.indications.length) (length store)) true

abbrev pub listed : CompatibleSets → List ℕ → List ℕ
listed s store = slice s.indications.offset (s.indications.offset + s.indications.length) store

-- l are the bytes of the sets
unfoldable pub sets_acts : CompatibleSets → List ℕ → List Act
sets_acts s l = when s.present (byte (field 8 s.indications.length ∷ []) ∷ copy l ∷ [])

-- the flags of the record are no numbers: nothing is wrong with them
unfoldable pub base_acts : MpegH3dAudio → List ℕ → List Act
base_acts m store =
    demand F.Range (inside m.compatible_sets store)
    ∷ demand F.Field true
    ∷ demand F.Empty true
    ∷ map byte (head_fields m)
    ++ sets_acts m.compatible_sets (listed m.compatible_sets store)

-- what checking the sets promises, whatever their bytes are
pub record CheckedSets (s : CompatibleSets) (p r : Pen) : Type 0 where
  pub of : (l : List ℕ) → pick s.present (length l) s.indications.length ≡ s.indications.length → Checked (sets_acts s l) 65536 p r
