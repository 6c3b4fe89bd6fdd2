-- Writing the multi_stream body as `MpegH3dAudioMultiStream::write` has it: what the functions of both passes promise. The actions of the kind are these (proofs/Mirrored).
use Rattle.std.specs.Prelude.{ℕ, List, [], ◌∷◌, ◌++◌, map, Bool, true}
use Rattle.wire.specs.Bits.{Field, field, bit}
use Rattle.wire.specs.Act as A
use Rattle.wire.specs.Act.{Act, demand, byte, when, rows}
use Rattle.wire.specs.declared.pen.Fault.TheVariants as F
use Rattle.stream_groups.specs.Write.{row_acts}
use Rattle.multi_stream.specs.declared.rows.MultiStreamMain.{MultiStreamMain}
use Rattle.multi_stream.specs.declared.rows.MainStream.{MainStream}
use Rattle.multi_stream.specs.declared.rows.MpegH3dAudioMultiStream.{MpegH3dAudioMultiStream}

abbrev pub head_fields : MpegH3dAudioMultiStream → List (List Field)
head_fields m = (field 1 (bit m.main.present) ∷ field 7 m.this_stream_id ∷ []) ∷ []

abbrev pub main_fields : MultiStreamMain → List (List Field)
main_fields p = (field 1 p.reserved_aux ∷ field 7 p.num_auxiliary_streams ∷ []) ∷ (field 1 p.reserved_groups ∷ field 7 p.groups ∷ []) ∷ []

-- the groups of a main part that is there stand in table 8
abbrev pub within : MainStream → List ℕ → Bool
within m t = A.within m.present m.part.groups 5 t

unfoldable pub main_acts : MainStream → List ℕ → List Act
main_acts m t = when m.present (map byte (main_fields m.part) ++ rows (row_acts t) 0 m.part.groups)

-- the flag of the record is no number, and its list may be empty: nothing is wrong with them
unfoldable pub multi_stream_acts : MpegH3dAudioMultiStream → List ℕ → List Act
multi_stream_acts m t =
    demand F.Range (within m.main t)
    ∷ demand F.Field true
    ∷ demand F.Empty true
    ∷ map byte (head_fields m)
    ++ main_acts m.main t
