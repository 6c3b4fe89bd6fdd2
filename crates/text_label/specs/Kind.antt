-- The text label body (kind 3) from its syntax tables: the top record, the languages behind it, and the labels behind each of their counts.
use Rattle.std.specs.Prelude.{ℕ, List, []}
use Rattle.wire.specs.Layout.{end, row, Borne}
use Rattle.labels.specs.Layout.{label}
use Rattle.frame.specs.Kind.{Kind}
use Rattle.frame.specs.Body as B
use Rattle.frame.specs.Body.{RowType, heeding, plainly, bearer_rows, Pieces, last, list, ◌▸◌, Body}
use Rattle.frame.specs.Ranges.{Ranges, tail, range, rows_of, ranged_rows}
use Rattle.text_label.specs.declared.rows.MpegH3dAudioTextLabel.{MpegH3dAudioTextLabel}
use Rattle.text_label.specs.Layout.{head, groups, switch_group_list, presets}
use Rattle.text_label.specs.Rows.{fields, text_label_of, retrail, bounds, Language, TextLabel, Label, LanguageValue, TextLabelValue}

-- labels with IDs of w bits
abbrev pub label_rows : ℕ → RowType Borne Label
label_rows w = bearer_rows 7 plainly (label w)

abbrev pub lists : Ranges (List Borne × (List Borne × (List Borne × Unit {0}))) (List Label × (List Label × (List Label × Unit {0})))
lists =
    range groups 4 5 (label_rows 7)
    ▸ range switch_group_list 7 8 (label_rows 5)
    ▸ range presets 10 11 (label_rows 5)
    ▸ tail end

-- the rows of table 7 that a language has
abbrev pub entries_of : Language → List (List ℕ)
entries_of l = rows_of lists l.1

-- writing reads all columns of a label
abbrev pub language_rows : RowType Language LanguageValue
language_rows = ranged_rows 12 lists 6 7 (heeding 4 (row 4))

abbrev pub pieces : Pieces (List Language × Unit {0}) (List LanguageValue × Unit {0})
pieces = list head 2 language_rows ▸ last end

abbrev pub body : Body (List Language × Unit {0}) (List LanguageValue × Unit {0}) MpegH3dAudioTextLabel
body = record { columns = 3; pieces = pieces; absent = []; fields = fields; made = text_label_of; trailing = λ m. m.trailing; retrail = retrail; bounds = bounds }

unfoldable pub kind : Kind TextLabel MpegH3dAudioTextLabel TextLabelValue
kind = B.kind body
