-- The top record of the multi_stream body as columns, and what was read of a body: rows as their columns.
use Rattle.std.specs.Prelude.{ℕ, List, [], ◌∷◌, ◌++◌, true, false, get_or, eqb}
use Rattle.wire.specs.Bits.{bit}
use Rattle.wire.specs.declared.rows.Payload.{Payload}
use Rattle.frame.specs.Kind.{Bound, bounded}
use Rattle.multi_stream.specs.declared.rows.MultiStreamMain.{MultiStreamMain}
use Rattle.multi_stream.specs.declared.rows.MainStream.{MainStream}
use Rattle.multi_stream.specs.declared.rows.MpegH3dAudioMultiStream.{MpegH3dAudioMultiStream}

abbrev pub absent_main : MainStream
absent_main = record { present = false; part = record { reserved_aux = 0; num_auxiliary_streams = 0; reserved_groups = 0; groups = 0 } }

abbrev pub present_main : MultiStreamMain → MainStream
present_main p = record { present = true; part = p }

-- ---- the record

-- its columns in the Rust's order, the trailing run apart; the last four are those of the main part
abbrev pub main_columns : MainStream → List ℕ
main_columns m = m.part.reserved_aux ∷ m.part.num_auxiliary_streams ∷ m.part.reserved_groups ∷ m.part.groups ∷ []

abbrev pub fields : MpegH3dAudioMultiStream → List ℕ
fields m = m.this_stream_id ∷ bit m.main.present ∷ main_columns m.main

abbrev pub multi_stream_of : List ℕ → Payload → MpegH3dAudioMultiStream
multi_stream_of r run = record {
  this_stream_id = get_or r 0 0;
  main = record { present = eqb (get_or r 1 0) 1; part = record { reserved_aux = get_or r 2 0; num_auxiliary_streams = get_or r 3 0; reserved_groups = get_or r 4 0; groups = get_or r 5 0 } };
  trailing = run;
}

abbrev pub top_columns : ℕ
top_columns = 8

abbrev pub top_row : MpegH3dAudioMultiStream → List ℕ
top_row m = fields m ++ (m.trailing.offset ∷ m.trailing.length ∷ [])

abbrev pub retrail : MpegH3dAudioMultiStream → Payload → MpegH3dAudioMultiStream
retrail m run = record { this_stream_id = m.this_stream_id; main = m.main; trailing = run }

unfoldable pub bounds : MpegH3dAudioMultiStream → List Bound
bounds m =
    bounded 256 m.this_stream_id ∷ bounded 256 m.main.part.reserved_aux ∷ bounded 256 m.main.part.num_auxiliary_streams ∷ bounded 256 m.main.part.reserved_groups
    ∷ bounded 65536 m.main.part.groups ∷ bounded 65536 m.trailing.offset ∷ bounded 65536 m.trailing.length ∷ []

-- ---- what is read: the 6 columns and the groups

abbrev pub Lists : Type 0
Lists = List (List ℕ) × Unit {0}

abbrev pub MultiStream : Type 0
MultiStream = List ℕ × Lists
