-- The DRC and loudness body (kind 5) from its syntax tables: the top record, all of it before the first list, and the three lists.
use Rattle.std.specs.Prelude.{ℕ, List, []}
use Rattle.wire.specs.Layout.{end, Borne}
use Rattle.frame.specs.Kind.{Kind}
use Rattle.frame.specs.Body as B
use Rattle.frame.specs.Body.{flat_row_type, family_rows, bearer_rows, Pieces, last, list, ◌▸◌, Body}
use Rattle.scopes.specs.Rows.{scoped}
use Rattle.instructions.specs.Layout.{additional, instruction}
use Rattle.loudness.specs.Layout.{entry}
use Rattle.downmixes.specs.Layout.{downmix}
use Rattle.drc_kind.specs.declared.rows.MpegH3dAudioDrcLoudness.{MpegH3dAudioDrcLoudness}
use Rattle.drc_kind.specs.Layout.{head}
use Rattle.drc_kind.specs.Rows.{fields, drc_of, retrail, bounds, Lists, Tree, Value}

-- writing sees a row that has a scope through the scope (`scoped`)
abbrev pub pieces : Pieces (Lists Borne) (Lists (List ℕ × List ℕ))
pieces =
    list head 5 (family_rows 9 10 scoped instruction 2 additional)
    ▸ list end 6 (bearer_rows 11 scoped entry)
    ▸ list end 7 (flat_row_type 12 4 downmix)
    ▸ last end

abbrev pub body : Body (Lists Borne) (Lists (List ℕ × List ℕ)) MpegH3dAudioDrcLoudness
body = record { columns = 8; pieces = pieces; absent = []; fields = fields; made = drc_of; trailing = λ m. m.trailing; retrail = retrail; bounds = bounds }

unfoldable pub kind : Kind Tree MpegH3dAudioDrcLoudness Value
kind = B.kind body
