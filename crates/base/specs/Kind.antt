-- The base body (kind 1) from its syntax table: the top record, and the compatible sets behind it.
use Rattle.std.specs.Prelude.{ℕ, List, []}
use Rattle.wire.specs.declared.rows.Payload.{Payload}
use Rattle.frame.specs.Kind.{Kind}
use Rattle.frame.specs.Body as B
use Rattle.frame.specs.Body.{Pieces, carrying, Body}
use Rattle.base.specs.declared.rows.MpegH3dAudio.{MpegH3dAudio}
use Rattle.base.specs.Layout.{head}
use Rattle.base.specs.Rows.{fields, base_of, retrail, bounds, Carried, Tree, Value}

abbrev pub pieces : Pieces (Carried Payload) (Carried (List ℕ))
pieces = carrying head 2 3 4

abbrev pub body : Body (Carried Payload) (Carried (List ℕ)) MpegH3dAudio
body = record { columns = 8; pieces = pieces; absent = []; fields = fields; made = base_of; trailing = λ m. m.trailing; retrail = retrail; bounds = bounds }

unfoldable pub kind : Kind Tree MpegH3dAudio Value
kind = B.kind body
