-- The multi_stream kind is lawful, so that all claims hold of it (Claims): its rows are, its pieces pass their tests, and its record is its columns.
use Prim.Native.Nat.{ℕ}
use mathlib.Core.List.{List, [], ◌∷◌, flatten}
use mathlib.Core.Bool.{Bool, true, false}
use mathlib.Core.Path.{◌≡◌, refl}
use Rattle.wire.specs.Lists.{all_nil, all_cons, each}
use Rattle.wire.specs.Bits.{bit, is_flag, total}
use Rattle.wire.specs.declared.rows.Payload.{Payload}
use Rattle.wire.specs.Layout.{Columns, of, row, shown, cells, every, flagged, has}
use Rattle.wire.proofs.Writing.Acts.{and_both}
use Rattle.wire.proofs.Layouts.Cells.{all, distinct, free, eights, proper, bytewide, in_bytes}
use Rattle.wire.proofs.Layouts.Forms.{form_all, form_proper, form_in_bytes, sure, below}
use Rattle.wire.proofs.Layouts.Rowed.{Flat}
use Rattle.frame.specs.Body.{layouts, heeds, heeds_of}
use Rattle.frame.proofs.Lawful.{Lawful}
use Rattle.frame.proofs.RowTypes.{flat_lawful}
use Rattle.frame.proofs.Pieces.{LawfulPieces, form}
use Rattle.frame.proofs.Body as B
use Rattle.frame.proofs.Body.{places, places_test, tests, LawfulBody, bit_back}
use Rattle.stream_groups.specs.Layout.{group}
use Rattle.stream_groups.proofs.Writes.{group_passes}
use Rattle.multi_stream.specs.declared.rows.MpegH3dAudioMultiStream.{MpegH3dAudioMultiStream}
use Rattle.multi_stream.specs.Layout.{head}
use Rattle.multi_stream.specs.Rows.{main_columns, fields, multi_stream_of, bounds}
use Rattle.multi_stream.specs.Kind.{pieces, body, kind}

abbrev pub group_rows : Flat
group_rows = record { columns = 5; layout = group; passes = group_passes }

abbrev rows_lawful : LawfulPieces pieces
rows_lawful = (flat_lawful 8 group_rows, tt)

-- ---- the record

again : (g : Columns) (run : Payload) → every flagged g (cells (layouts pieces) g) ≡ true → fields (multi_stream_of (row 6 g) run) ≡ row 6 g
unfolding layouts cells shown head every flatten each
again g run e = let (a, _) = and_both (is_flag (g 1)) _ e in λ i. g 0 ∷ bit_back (g 1) a i ∷ g 2 ∷ g 3 ∷ g 4 ∷ g 5 ∷ []

kept : (m : MpegH3dAudioMultiStream) → fields (multi_stream_of (heeds_of body (of (fields m))) m.trailing) ≡ heeds_of body (of (fields m))
unfolding layouts heeds cells shown head flatten has each
kept m = go m.main.present
  where
    top : Bool → List ℕ
    top a = heeds_of body (of (m.this_stream_id ∷ bit a ∷ main_columns m.main))

    go : (a : Bool) → fields (multi_stream_of (top a) m.trailing) ≡ top a
    go true = refl
    go false = refl

pub body_lawful : LawfulBody body
unfolding tests form form_proper form_all form_in_bytes proper all has distinct free eights total sure flatten below bytewide in_bytes head places places_test bounds each
body_lawful = record {
  rows = rows_lawful;
  passes = refl;
  again = again;
  kept = kept;
  run_of = λ c r. refl;
  run_set = λ c r q. refl;
  held = λ g w c k n a b. all_cons (c 0 refl) (all_cons (c 2 refl) (all_cons (c 3 refl) (all_cons (c 4 refl) (all_cons (w 5) (all_cons a (all_cons b all_nil))))));
}

pub lawful : Lawful kind
unfolding kind
lawful = B.lawful body body_lawful
