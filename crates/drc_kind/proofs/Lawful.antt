-- The DRC and loudness kind is lawful, so that all claims hold of it (Claims): its rows are, its pieces pass their tests, and its record is its columns.
use Prim.Native.Nat.{ℕ}
use mathlib.Core.List.{List, [], ◌∷◌, flatten}
use mathlib.Core.Bool.{Bool, true, false}
use mathlib.Core.Path.{◌≡◌, refl}
use native.Mathlib.Omega.{arith}
use Rattle.wire.specs.Lists.{all_nil, all_cons, each}
use Rattle.wire.specs.Bits.{bit, is_flag, total}
use Rattle.wire.specs.declared.rows.Payload.{Payload}
use Rattle.wire.specs.Layout.{Layout, end, one, ◌▹◌, num, reserved, flag, Columns, of, row, shown, cells, every, flagged, has, Family, Borne}
use Rattle.wire.proofs.Writing.Acts.{and_both}
use Rattle.wire.proofs.Layouts.Codec.{seen_as, AsFits}
use Rattle.wire.proofs.Layouts.Cells.{On, all, distinct, free, eights, proper, suits, shown_in, bytewide, in_bytes}
use Rattle.wire.proofs.Layouts.Forms.{form_all, form_shown, form_proper, form_in_bytes, FormFits, RowFits, rows_codec, sure, below}
use Rattle.wire.proofs.Layouts.Rowed.{Flat, Nest, flat_test, nest_test, weight, flats, breaks, families, broken_form}
use Rattle.wire.proofs.Layouts.Borne.{Bear, bear_test, bear_form, bears, meant}
use Rattle.frame.specs.Body.{layouts, heeds, heeds_of}
use Rattle.frame.proofs.Lawful.{Lawful}
use Rattle.frame.proofs.RowTypes.{flat_lawful, family_lawful, bearer_lawful}
use Rattle.frame.proofs.Pieces.{LawfulPieces, form}
use Rattle.frame.proofs.Body as B
use Rattle.frame.proofs.Body.{places, places_test, tests, LawfulBody, bit_back}
use Rattle.pairs.specs.Layout.{pair}
use Rattle.scopes.specs.Layout.{scope}
use Rattle.scopes.specs.Rows.{scoped}
use Rattle.scopes.proofs.Kept.{row_kept}
use Rattle.instructions.specs.Layout as I
use Rattle.instructions.specs.Layout.{additional, effect, instruction}
use Rattle.loudness.specs.Layout as E
use Rattle.loudness.specs.Layout.{entry}
use Rattle.downmixes.specs.Layout.{downmix}
use Rattle.drc_kind.specs.declared.rows.MpegH3dAudioDrcLoudness.{MpegH3dAudioDrcLoudness}
use Rattle.drc_kind.specs.Layout.{head}
use Rattle.drc_kind.specs.Rows.{fields, drc_of, bounds}
use Rattle.drc_kind.specs.Kind.{pieces, body, kind}

-- ---- the rows: each passes its one test

pub additional_passes : flat_test 2 additional ≡ true
unfolding flat_test weight form_proper form_all below proper all has distinct free eights total flatten pair
additional_passes = refl

pub downmix_passes : flat_test 4 downmix ≡ true
unfolding flat_test weight form_proper form_all below proper all has distinct free eights total flatten downmix
downmix_passes = refl

pub instruction_passes : nest_test instruction ≡ true
unfolding nest_test weight below proper all has distinct free eights total sure flatten scope suits each
instruction_passes = refl

pub entry_passes : bear_test entry ≡ true
unfolding bear_test form_proper form_all below proper all has distinct free eights total sure flatten scope suits each
entry_passes = refl

abbrev pub additional_rows : Flat
additional_rows = record { columns = 2; layout = additional; passes = additional_passes }

abbrev pub downmix_rows : Flat
downmix_rows = record { columns = 4; layout = downmix; passes = downmix_passes }

abbrev pub instruction_rows : Nest
instruction_rows = record { row = instruction; kid = additional_rows; passes = instruction_passes }

abbrev pub entry_rows : Bear
entry_rows = record { row = entry; passes = entry_passes }

-- ---- a row that begins with a scope, as writing reads it: what was read of it stays

-- what an instruction has behind its scope, before its additional IDs
abbrev behind : Layout
behind = one (reserved 2 5 ∷ num 6 6 ∷ []) ▹ one (reserved 1 7 ∷ num 7 8 ∷ []) ▹ one (reserved 3 9 ∷ num 3 11 ∷ flag 13 ∷ flag 15 ∷ []) ▹ end

instruction_kept : (x : Family) → (families instruction_rows).Fits x → (g : Columns) → On (form_all (broken_form instruction (flats additional_rows))) (of x.0) g → scoped g ≡ g
unfolding breaks seen_as AsFits rows_codec RowFits FormFits form_shown form_all all has flatten scope
instruction_kept x f g o = let h = of x.0 in row_kept I.types h behind (shown effect h) f.0.2.0.1 f.0.1 refl refl (shown_in effect h 3 refl) (shown_in effect h 4 refl) g (o 1 refl) (o 2 refl) (o 3 refl) (o 4 refl)

entry_kept : (s : List ℕ) (x : Borne) → (bears entry_rows).Fits (meant entry_rows s x) → (g : Columns) → On (form_all (bear_form entry)) (of x.0) g → scoped g ≡ g
unfolding bears seen_as AsFits rows_codec RowFits FormFits form_shown form_all all has flatten scope shown
entry_kept s x f g o = row_kept E.types (of x.0) end [] f.0.2.0.1 f.0.1 refl refl refl refl g (o 1 refl) (o 2 refl) (o 3 refl) (o 4 refl)

abbrev rows_lawful : LawfulPieces pieces
rows_lawful = (family_lawful 9 10 instruction_rows scoped instruction_kept (omega arith), (bearer_lawful 11 entry_rows scoped entry_kept, (flat_lawful 12 downmix_rows, tt)))

-- ---- the record

again : (g : Columns) (run : Payload) → every flagged g (cells (layouts pieces) g) ≡ true → fields (drc_of (row 8 g) run) ≡ row 8 g
unfolding layouts cells shown head every flatten each
again g run e = let (a, _) = and_both (is_flag (g 1)) _ e in λ i. g 0 ∷ bit_back (g 1) a i ∷ g 2 ∷ g 3 ∷ g 4 ∷ g 5 ∷ g 6 ∷ g 7 ∷ []

kept : (m : MpegH3dAudioDrcLoudness) → fields (drc_of (heeds_of body (of (fields m))) m.trailing) ≡ heeds_of body (of (fields m))
unfolding layouts heeds cells shown head flatten has each
kept m = go m.info.present
  where
    top : Bool → List ℕ
    top a =
        heeds_of body
        (of (m.reserved ∷ bit a ∷ m.info.part.reserved_drc ∷ m.info.part.reserved_loudness ∷ m.info.part.reserved_downmix ∷ m.info.part.drc_instructions ∷ m.info.part.loudness_infos ∷ m.info.part.downmix_definitions ∷ []))

    go : (a : Bool) → fields (drc_of (top a) m.trailing) ≡ top a
    go true = refl
    go false = refl

pub body_lawful : LawfulBody body
unfolding tests form form_proper form_all form_in_bytes proper all has distinct free eights total sure flatten below bytewide in_bytes head places places_test bounds each
body_lawful = record {
  rows = rows_lawful;
  passes = refl;
  again = again;
  kept = kept;
  run_of = λ c r. refl;
  run_set = λ c r q. refl;
  held = λ g w c k n a b. all_cons (c 0 refl) (all_cons (c 2 refl) (all_cons (c 3 refl) (all_cons (c 4 refl) (all_cons (w 5) (all_cons (w 6) (all_cons (w 7) (all_cons a (all_cons b all_nil))))))));
}

pub lawful : Lawful kind
unfolding kind
lawful = B.lawful body body_lawful
