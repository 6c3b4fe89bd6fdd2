-- The starred bench bodies of document 01 ("Bench bodies") as one list: of each body what reading answers and leaves, and its tally.
use Rattle.std.specs.Prelude.{ℕ, List, [], ◌∷◌, ◌≡◌, replicate}
use Rattle.wire.specs.Lists.{Every}
use Rattle.frame.specs.Numbers.{Answer, accepted, refuses}
use Rattle.frame.specs.Kind.{Kind, Lent}
use Rattle.frame.specs.Entry.{leaves, reading, tallying}
use Rattle.base.specs.declared.rows.MpegH3dAudio.{MpegH3dAudio}
use Rattle.base.proofs.Bodies.{no_sets, none_listed}
use Rattle.base.specs.Kind as Base
use Rattle.scene_kind.specs.declared.rows.MpegH3dAudioScene.{MpegH3dAudioScene}
use Rattle.scene.proofs.Bodies.{no_sections, no_groups, one_member, one_switch_group, member5}
use Rattle.scene_kind.specs.Kind as Scene
use Rattle.text_label.specs.declared.rows.MpegH3dAudioTextLabel.{MpegH3dAudioTextLabel}
use Rattle.text_label.proofs.Bodies.{one_preset, english, preset2}
use Rattle.text_label.specs.Kind as TextLabel
use Rattle.multi_stream.specs.declared.rows.MpegH3dAudioMultiStream.{MpegH3dAudioMultiStream}
use Rattle.multi_stream.proofs.Bodies.{two_groups, two_rows}
use Rattle.multi_stream.specs.Kind as MultiStream
use Rattle.drc_kind.specs.declared.rows.MpegH3dAudioDrcLoudness.{MpegH3dAudioDrcLoudness}
use Rattle.drc_kind.proofs.Bodies.{one_instruction, plain_scope, one_entry, group_scope, info_absent}
use Rattle.drc_kind.specs.Kind as DrcLoudness

-- a body of each kind, with what is expected of it: the answers of reading and tallying, and the lent tables before and after
pub data Star : Type 0 where
  base : List ℕ → Answer MpegH3dAudio → Answer ℕ → Star
  scene : List ℕ → Lent → Answer MpegH3dAudioScene → Lent → Answer ℕ → Star
  text_label : List ℕ → Lent → Answer MpegH3dAudioTextLabel → Lent → Answer ℕ → Star
  multi_stream : List ℕ → Lent → Answer MpegH3dAudioMultiStream → Lent → Answer ℕ → Star
  drc_loudness : List ℕ → Lent → Answer MpegH3dAudioDrcLoudness → Lent → Answer ℕ → Star

-- the entry points answer so
pub record Answers {Tree Top Value : Type 0} (K : Kind Tree Top Value) (body : List ℕ) (lent : Lent) (read : Answer Top) (after : Lent) (tally : Answer ℕ) : Type 0 where
  pub reads : reading K body lent ≡ leaves read after
  pub tallies : tallying K body ≡ tally

abbrev pub Holds : Star → Type 0
Holds (base body read tally) = Answers Base.kind body [] read [] tally
Holds (scene body lent read after tally) = Answers Scene.kind body lent read after tally
Holds (text_label body lent read after tally) = Answers TextLabel.kind body lent read after tally
Holds (multi_stream body lent read after tally) = Answers MultiStream.kind body lent read after tally
Holds (drc_loudness body lent read after tally) = Answers DrcLoudness.kind body lent read after tally

-- a table of so many columns, all 9: a column or more than the rows that are filled
abbrev pub nines : ℕ → List ℕ
nines n = replicate n 9

-- the tables of a scene body: of tables 1, 4 and 5 one column each
abbrev pub five : List ℕ → List ℕ → Lent
five switches members = nines 1 ∷ switches ∷ members ∷ nines 1 ∷ nines 1 ∷ []

-- the tables of a DRC and loudness body: of tables 10 and 12 one column each
abbrev pub four : List ℕ → List ℕ → Lent
four instructions loudness = instructions ∷ nines 1 ∷ loudness ∷ nines 1 ∷ []

abbrev pub starred : List Star
starred =
    base [] (refuses 1 (1 ∷ [])) (refuses 1 (1 ∷ []))
    ∷ base (0x05 ∷ 0xC0 ∷ 0x3F ∷ []) (accepted no_sets) (accepted 8)
    ∷ base (0x05 ∷ 0x80 ∷ 0x3F ∷ []) (refuses 1 (4 ∷ [])) (refuses 1 (4 ∷ []))
    ∷ base (0x05 ∷ 0xBF ∷ 0xC6 ∷ 0x00 ∷ []) (accepted none_listed) (accepted 0)
    ∷ scene (0x1F ∷ 0x07 ∷ []) (five (nines 1) (nines 1)) (accepted no_sections) (five (nines 1) (nines 1)) (accepted 0)
    ∷ scene (0x80 ∷ 0x07 ∷ 0x00 ∷ []) (five (nines 1) (nines 1)) (accepted no_groups) (five (nines 1) (nines 1)) (accepted 6)
    ∷ scene (0x40 ∷ 0x00 ∷ 0x01 ∷ 0x02 ∷ 0x00 ∷ 0x85 ∷ []) (five (nines 10) (nines 3)) (refuses 1 (7 ∷ [])) (five (nines 10) (nines 3)) (refuses 1 (7 ∷ []))
    ∷ scene (0x40 ∷ 0x00 ∷ 0x01 ∷ 0x02 ∷ 0x00 ∷ 0x85 ∷ 0x05 ∷ []) (five (nines 10) (nines 3)) (accepted one_member) (five (one_switch_group (nines 1)) (member5 (nines 1)))
    (accepted 13)
    ∷ text_label (0x07 ∷ 0xF1 ∷ 0x65 ∷ 0x6E ∷ 0x67 ∷ 0x80 ∷ 0xE0 ∷ 0xE1 ∷ 0xE2 ∷ 0x02 ∷ 0x48 ∷ 0x69 ∷ []) (nines 13 ∷ nines 6 ∷ []) (accepted one_preset)
    (english (nines 1) ∷ preset2 (nines 2) ∷ []) (accepted 0)
    ∷ multi_stream (0x81 ∷ 0x80 ∷ 0x82 ∷ 0x07 ∷ 0x08 ∷ 0x85 ∷ []) (nines 11 ∷ []) (accepted two_groups) (two_rows (nines 1) ∷ []) (accepted 0)
    ∷ drc_loudness (0x01 ∷ 0x01 ∷ 0x00 ∷ 0x00 ∷ 0x01 ∷ 0x00 ∷ 0x00 ∷ 0x00 ∷ 0x00 ∷ 0x00 ∷ []) (four (nines 25) (nines 1)) (accepted one_instruction)
    (four (plain_scope (nines 1)) (nines 1)) (accepted 26)
    ∷ drc_loudness (0x01 ∷ 0x00 ∷ 0x01 ∷ 0x00 ∷ 0x01 ∷ 0x85 ∷ 0x00 ∷ []) (four (nines 1) (nines 8)) (accepted one_entry) (four (nines 1) (group_scope (nines 1))) (accepted 20)
    ∷ drc_loudness (0x00 ∷ []) (four (nines 1) (nines 1)) (accepted info_absent) (four (nines 1) (nines 1)) (accepted 7)
    ∷ []

-- the claim
pub record Starred : Type 0 where
  pub all : Every Holds starred
