-- Writing the text label body as `MpegH3dAudioTextLabel::write` has it: what the functions of both passes promise. The actions of the kind are these (proofs/Mirrored).
use Rattle.std.specs.Prelude.{ℕ, ◌*◌, ◌/◌, List, [], ◌∷◌, ◌++◌, map, Bool, true, ◌&&◌, length, leb}
use Rattle.wire.specs.Bits.{Field, field}
use Rattle.wire.specs.Act.{Act, demand, byte, rows}
use Rattle.wire.specs.declared.pen.Fault.TheVariants as F
use Rattle.labels.specs.Write.{in_table, list_acts}
use Rattle.text_label.specs.declared.rows.DescriptionLanguage.{DescriptionLanguage}
use Rattle.text_label.specs.declared.rows.TextLabelLanguage.{TextLabelLanguage}
use Rattle.text_label.specs.declared.rows.MpegH3dAudioTextLabel.{MpegH3dAudioTextLabel}
use Rattle.text_label.specs.Rows.{language_of}

-- ---- a row of table 6; u is table 7. A row has no flag, and its lists may be empty: nothing is wrong with them.

abbrev pub all_within : TextLabelLanguage → List ℕ → Bool
all_within l u = in_table l.groups.entries u && (in_table l.switch_groups.entries u && in_table l.presets.entries u)

abbrev pub letter_fields : DescriptionLanguage → List (List Field)
letter_fields l = (field 8 l.0 ∷ []) ∷ (field 8 l.1 ∷ []) ∷ (field 8 l.2 ∷ []) ∷ []

unfoldable pub language_acts : List ℕ → List ℕ → TextLabelLanguage → List Act
language_acts u store l =
    demand F.Range (all_within l u)
    ∷ demand F.Field true
    ∷ demand F.Empty true
    ∷ map byte (letter_fields l.language)
    ++ (list_acts 7 u store l.groups ++ (list_acts 5 u store l.switch_groups ++ list_acts 5 u store l.presets))

-- row i of table 6
abbrev pub row_acts : List ℕ → List ℕ → List ℕ → ℕ → List Act
row_acts t u store i = language_acts u store (language_of t (i * 12))

-- ---- the body; t is table 6

abbrev pub head_fields : MpegH3dAudioTextLabel → List (List Field)
head_fields m = (field 8 m.scene_info_id ∷ []) ∷ (field 4 m.reserved ∷ field 4 m.languages ∷ []) ∷ []

unfoldable pub text_label_acts : MpegH3dAudioTextLabel → List ℕ → List ℕ → List ℕ → List Act
text_label_acts m t u store =
    demand F.Range (leb m.languages (length t / 12))
    ∷ demand F.Field true
    ∷ demand F.Empty true
    ∷ map byte (head_fields m)
    ++ rows (row_acts t u store) 0 m.languages
