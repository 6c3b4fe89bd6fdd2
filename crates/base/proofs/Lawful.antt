-- The base kind is lawful, so that all claims hold of it (Claims): its pieces pass their tests, and its record is its columns.
use Prim.Native.Nat.{ℕ}
use mathlib.Core.List.{List, [], ◌∷◌, flatten}
use mathlib.Core.Bool.{Bool, true, false}
use mathlib.Core.Path.{◌≡◌, refl}
use Rattle.wire.specs.Lists.{all_nil, all_cons, each}
use Rattle.wire.specs.Bits.{bit, is_flag, total}
use Rattle.wire.specs.declared.rows.Payload.{Payload}
use Rattle.wire.specs.Layout.{Columns, of, row, shown, cells, every, flagged, has}
use Rattle.wire.proofs.Writing.Acts.{and_both}
use Rattle.wire.proofs.Layouts.Cells.{all, distinct, free, eights, proper, bytewide, in_bytes}
use Rattle.wire.proofs.Layouts.Forms.{form_all, form_proper, form_in_bytes, below}
use Rattle.frame.specs.Body.{layouts, heeds, heeds_of}
use Rattle.frame.proofs.Lawful.{Lawful}
use Rattle.frame.proofs.Pieces.{form}
use Rattle.frame.proofs.Body as B
use Rattle.frame.proofs.Body.{places, places_test, tests, LawfulBody, bit_back}
use Rattle.base.specs.declared.rows.MpegH3dAudio.{MpegH3dAudio}
use Rattle.base.specs.Layout.{head}
use Rattle.base.specs.Rows.{fields, base_of, bounds}
use Rattle.base.specs.Kind.{pieces, body, kind}

again : (g : Columns) (run : Payload) → every flagged g (cells (layouts pieces) g) ≡ true → fields (base_of (row 8 g) run) ≡ row 8 g
unfolding layouts cells shown head every flatten each
again g run e =
    let (a, e₀) = and_both (is_flag (g 1)) _ e in
    let (b, _) = and_both (is_flag (g 2)) _ e₀ in
    λ i. g 0 ∷ bit_back (g 1) a i ∷ bit_back (g 2) b i ∷ g 3 ∷ g 4 ∷ g 5 ∷ g 6 ∷ g 7 ∷ []

kept : (m : MpegH3dAudio) → fields (base_of (heeds_of body (of (fields m))) m.trailing) ≡ heeds_of body (of (fields m))
unfolding layouts heeds cells shown head flatten has each
kept m = go m.interactivity_enabled m.compatible_sets.present
  where
    top : Bool → Bool → List ℕ
    top a b =
        heeds_of body
        (of (m.profile_level_indication ∷ bit a ∷ bit b ∷ m.compatible_sets.indications.offset ∷ m.compatible_sets.indications.length ∷ m.reserved_flags ∷ m.reserved_layout ∷ m.reference_channel_layout ∷ []))

    go : (a b : Bool) → fields (base_of (top a b) m.trailing) ≡ top a b
    go true true = refl
    go true false = refl
    go false true = refl
    go false false = refl

body_lawful : LawfulBody body
unfolding tests form form_proper form_all form_in_bytes proper all has distinct free eights total flatten below bytewide in_bytes head places places_test bounds each
body_lawful = record {
  rows = tt;
  passes = refl;
  again = again;
  kept = kept;
  run_of = λ c r. refl;
  run_set = λ c r q. refl;
  held = λ g w c k n a b. all_cons (c 0 refl) (all_cons (w 3) (all_cons (w 4) (all_cons (c 5 refl) (all_cons (c 6 refl) (all_cons (c 7 refl) (all_cons a (all_cons b all_nil)))))));
}

pub lawful : Lawful kind
unfolding kind
lawful = B.lawful body body_lawful
