-- The declared row of table 6 and the top record of the text label body as columns, and what was read of a body: rows as their columns.
use Rattle.std.specs.Prelude.{ℕ, ◌+◌, List, [], ◌∷◌, ◌++◌, get_or}
use Rattle.wire.specs.declared.rows.Payload.{Payload}
use Rattle.wire.specs.Layout.{Borne}
use Rattle.labels.specs.Rows.{descriptions_of}
use Rattle.frame.specs.Kind.{Bound, bounded}
use Rattle.text_label.specs.declared.rows.DescriptionLanguage.{DescriptionLanguage}
use Rattle.text_label.specs.declared.rows.TextLabelLanguage.{TextLabelLanguage}
use Rattle.text_label.specs.declared.rows.MpegH3dAudioTextLabel.{MpegH3dAudioTextLabel}

-- ---- a row of table 6

abbrev pub letters : ℕ → ℕ → ℕ → DescriptionLanguage
letters a b c = record { 0 = a; 1 = b; 2 = c }

abbrev pub language_row : TextLabelLanguage → List ℕ
language_row l =
    l.language.0
    ∷ l.language.1
    ∷ l.language.2
    ∷ l.groups.reserved
    ∷ l.groups.entries.first
    ∷ l.groups.entries.count
    ∷ l.switch_groups.reserved
    ∷ l.switch_groups.entries.first
    ∷ l.switch_groups.entries.count
    ∷ l.presets.reserved
    ∷ l.presets.entries.first
    ∷ l.presets.entries.count
    ∷ []

-- the row whose first column is b
abbrev pub language_of : List ℕ → ℕ → TextLabelLanguage
language_of t b = record {
  language = letters (get_or t b 0) (get_or t (b + 1) 0) (get_or t (b + 2) 0);
  groups = descriptions_of t (b + 3);
  switch_groups = descriptions_of t (b + 6);
  presets = descriptions_of t (b + 9);
}

-- ---- the top record

-- its columns in the Rust's order, the trailing run apart
abbrev pub fields : MpegH3dAudioTextLabel → List ℕ
fields m = m.scene_info_id ∷ m.reserved ∷ m.languages ∷ []

abbrev pub text_label_of : List ℕ → Payload → MpegH3dAudioTextLabel
text_label_of r run = record { scene_info_id = get_or r 0 0; reserved = get_or r 1 0; languages = get_or r 2 0; trailing = run }

abbrev pub top_columns : ℕ
top_columns = 5

abbrev pub top_row : MpegH3dAudioTextLabel → List ℕ
top_row m = fields m ++ (m.trailing.offset ∷ m.trailing.length ∷ [])

abbrev pub retrail : MpegH3dAudioTextLabel → Payload → MpegH3dAudioTextLabel
retrail m run = record { scene_info_id = m.scene_info_id; reserved = m.reserved; languages = m.languages; trailing = run }

unfoldable pub bounds : MpegH3dAudioTextLabel → List Bound
bounds m =
    bounded 256 m.scene_info_id ∷ bounded 256 m.reserved ∷ bounded 65536 m.languages ∷ bounded 65536 m.trailing.offset ∷ bounded 65536 m.trailing.length ∷ []

-- ---- what is read: of a language its 12 columns and its three lists, of the body 3 columns and its languages

abbrev pub Language : Type 0
Language = List ℕ × (List Borne × (List Borne × (List Borne × Unit {0})))

abbrev pub TextLabel : Type 0
TextLabel = List ℕ × (List Language × Unit {0})

-- ---- and what it means: labels by their bytes

abbrev pub Label : Type 0
Label = List ℕ × List ℕ

abbrev pub LanguageValue : Type 0
LanguageValue = List ℕ × (List Label × (List Label × (List Label × Unit {0})))

abbrev pub TextLabelValue : Type 0
TextLabelValue = List ℕ × (List LanguageValue × Unit {0})
