-- The scene kind is lawful, so that all claims hold of it (Claims): its rows are, its pieces pass their tests, and its record is its columns.
use Prim.Native.Nat.{ℕ}
use mathlib.Core.List.{List, [], ◌∷◌, flatten}
use mathlib.Core.Bool.{Bool, true, false}
use mathlib.Core.Path.{◌≡◌, refl}
use native.Mathlib.Omega.{arith}
use Rattle.wire.specs.Lists.{all_nil, all_cons, each}
use Rattle.wire.specs.Bits.{bit, is_flag, total}
use Rattle.wire.specs.declared.rows.Payload.{Payload}
use Rattle.wire.specs.Layout.{Columns, of, row, shown, cells, every, flagged, has}
use Rattle.wire.proofs.Writing.Acts.{and_both}
use Rattle.wire.proofs.Layouts.Cells.{all, distinct, free, eights, proper, bytewide, in_bytes}
use Rattle.wire.proofs.Layouts.Forms.{form_all, form_proper, form_in_bytes, sure, below}
use Rattle.wire.proofs.Layouts.Rowed.{Flat, Nest, flat_test, weight}
use Rattle.frame.specs.Body.{plainly, layouts, heeds, heeds_of}
use Rattle.frame.proofs.Lawful.{Lawful}
use Rattle.frame.proofs.RowTypes.{flat_lawful, family_lawful}
use Rattle.frame.proofs.Pieces.{LawfulPieces, form}
use Rattle.frame.proofs.Body as B
use Rattle.frame.proofs.Body.{places, places_test, tests, LawfulBody, bit_back}
use Rattle.scene_groups.specs.Layout.{group}
use Rattle.pairs.specs.Layout.{pair}
use Rattle.switch_groups.specs.Layout.{member, switch_group}
use Rattle.conditions.specs.Layout.{condition}
use Rattle.presets.specs.Layout.{preset}
use Rattle.switch_groups.proofs.Writes.{switch_passes}
use Rattle.presets.proofs.Writes.{preset_passes}
use Rattle.scene_kind.specs.declared.rows.MpegH3dAudioScene.{MpegH3dAudioScene}
use Rattle.scene_kind.specs.Layout as T
use Rattle.scene_kind.specs.Rows.{fields, scene_of, bounds}
use Rattle.scene_kind.specs.Kind.{pieces, body, kind}

-- ---- the rows: each passes its one test

pub group_passes : flat_test 27 group ≡ true
unfolding flat_test weight form_proper form_all below proper all has distinct free eights total flatten group
group_passes = refl

pub member_passes : flat_test 2 member ≡ true
unfolding flat_test weight form_proper form_all below proper all has distinct free eights total flatten pair
member_passes = refl

pub condition_passes : flat_test 13 condition ≡ true
unfolding flat_test weight form_proper form_all below proper all has distinct free eights total flatten condition
condition_passes = refl

abbrev pub group_rows : Flat
group_rows = record { columns = 27; layout = group; passes = group_passes }

abbrev pub member_rows : Flat
member_rows = record { columns = 2; layout = member; passes = member_passes }

abbrev pub condition_rows : Flat
condition_rows = record { columns = 13; layout = condition; passes = condition_passes }

abbrev pub switch_rows : Nest
switch_rows = record { row = switch_group; kid = member_rows; passes = switch_passes }

abbrev pub preset_rows : Nest
preset_rows = record { row = preset; kid = condition_rows; passes = preset_passes }

abbrev rows_lawful : LawfulPieces pieces
rows_lawful =
    (flat_lawful 1 group_rows, (family_lawful 2 3 switch_rows plainly (λ x f g o. refl) (omega arith), (family_lawful 4 5 preset_rows plainly (λ x f g o. refl) (omega arith), tt)))

-- ---- the record

again : (g : Columns) (run : Payload) → every flagged g (cells (layouts pieces) g) ≡ true → fields (scene_of (row 11 g) run) ≡ row 11 g
unfolding layouts cells shown T.groups every flatten each
again g run e =
    let (a, e₀) = and_both (is_flag (g 2)) _ e in
    let (b, e₁) = and_both (is_flag (g 5)) _ e₀ in
    let (c, _) = and_both (is_flag (g 8)) _ e₁ in
    λ i. g 0 ∷ g 1 ∷ bit_back (g 2) a i ∷ g 3 ∷ g 4 ∷ bit_back (g 5) b i ∷ g 6 ∷ g 7 ∷ bit_back (g 8) c i ∷ g 9 ∷ g 10 ∷ []

kept : (m : MpegH3dAudioScene) → fields (scene_of (heeds_of body (of (fields m))) m.trailing) ≡ heeds_of body (of (fields m))
unfolding layouts heeds cells shown T.groups T.switch_group_list T.presets flatten has each
kept m = go m.groups.present m.switch_groups.present m.presets.present
  where
    top : Bool → Bool → Bool → List ℕ
    top a b c =
        heeds_of body
        (of (m.reserved_flags ∷ m.scene_info_id ∷ bit a ∷ m.groups.count ∷ m.reserved_switch_groups ∷ bit b ∷ m.switch_groups.count ∷ m.reserved_presets ∷ bit c ∷ m.presets.count ∷ m.reserved_groups ∷ []))

    go : (a b c : Bool) → fields (scene_of (top a b c) m.trailing) ≡ top a b c
    go true true true = refl
    go true true false = refl
    go true false true = refl
    go true false false = refl
    go false true true = refl
    go false true false = refl
    go false false true = refl
    go false false false = refl

pub body_lawful : LawfulBody body
unfolding tests form form_proper form_all form_in_bytes proper all has distinct free eights total sure flatten below bytewide in_bytes T.groups T.switch_group_list T.presets places places_test bounds each
body_lawful = record {
  rows = rows_lawful;
  passes = refl;
  again = again;
  kept = kept;
  run_of = λ c r. refl;
  run_set = λ c r q. refl;
  held = λ g w c k n a b. all_cons (c 0 refl) (all_cons (c 1 refl) (all_cons (w 3) (all_cons (c 4 refl) (all_cons (w 6) (all_cons (c 7 refl) (all_cons (w 9) (all_cons (c 10 refl) (all_cons a (all_cons b all_nil)))))))));
}

pub lawful : Lawful kind
unfolding kind
lawful = B.lawful body body_lawful
