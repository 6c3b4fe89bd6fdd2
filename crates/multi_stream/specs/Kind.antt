-- The multi_stream body (kind 4) from its syntax tables: the top record, and the groups behind it.
use Rattle.std.specs.Prelude.{[]}
use Rattle.wire.specs.Layout.{end}
use Rattle.frame.specs.Kind.{Kind}
use Rattle.frame.specs.Body as B
use Rattle.frame.specs.Body.{flat_row_type, Pieces, last, list, ◌▸◌, Body}
use Rattle.stream_groups.specs.Layout.{group}
use Rattle.multi_stream.specs.declared.rows.MpegH3dAudioMultiStream.{MpegH3dAudioMultiStream}
use Rattle.multi_stream.specs.Layout.{head}
use Rattle.multi_stream.specs.Rows.{fields, multi_stream_of, retrail, bounds, Lists, MultiStream}

abbrev pub pieces : Pieces Lists Lists
pieces = list head 5 (flat_row_type 8 5 group) ▸ last end

abbrev pub body : Body Lists Lists MpegH3dAudioMultiStream
body = record { columns = 6; pieces = pieces; absent = []; fields = fields; made = multi_stream_of; trailing = λ m. m.trailing; retrail = retrail; bounds = bounds }

unfoldable pub kind : Kind MultiStream MpegH3dAudioMultiStream MultiStream
kind = B.kind body
