-- The text label kind is lawful, so that all claims hold of it (Claims): its labels and languages are, its pieces pass their tests, and its record is its columns.
use Prim.Native.Nat.{ℕ, ◌<◌}
use mathlib.Core.List.{flatten}
use mathlib.Core.Bool.{true}
use mathlib.Core.Path.{◌≡◌, refl, subst}
use lib.Dec.{lit<}
use Rattle.wire.specs.Lists.{all_nil, all_cons, each}
use Rattle.wire.specs.Bits.{total}
use Rattle.wire.specs.declared.rows.Payload.{Payload}
use Rattle.wire.specs.Layout.{Columns, of, row, shown, cells, every, flagged, has, bearing_heeds}
use Rattle.wire.proofs.Layouts.Cells.{all, distinct, free, eights, proper, bytewide, in_bytes}
use Rattle.wire.proofs.Layouts.Forms.{form_all, form_proper, form_in_bytes, sure, below}
use Rattle.wire.proofs.Layouts.Rowed.{weight}
use Rattle.frame.specs.Kind.{Heeded}
use Rattle.frame.specs.Body.{heeding, plainly, layouts, heeds, heeds_of}
use Rattle.frame.specs.Ranges.{firsts_of}
use Rattle.frame.proofs.Lawful.{Lawful}
use Rattle.frame.proofs.RowTypes.{LawfulRows, Leaf, bearer_leaf}
use Rattle.frame.proofs.Pieces.{form, weights}
use Rattle.frame.proofs.Ranges.{LawfulRanges, counts_test, sure_columns, range_test, range_lawful}
use Rattle.frame.proofs.Body as B
use Rattle.frame.proofs.Body.{places, places_test, tests, LawfulBody}
use Rattle.labels.specs.Layout.{label}
use Rattle.labels.proofs.Taken.{label_bear}
use Rattle.text_label.specs.declared.rows.MpegH3dAudioTextLabel.{MpegH3dAudioTextLabel}
use Rattle.text_label.specs.Layout.{head, groups, switch_group_list, presets}
use Rattle.text_label.specs.Rows.{fields, text_label_of, bounds}
use Rattle.text_label.specs.Kind.{label_rows, lists, language_rows, pieces, body, kind}

-- ---- labels and languages

abbrev kid : Heeded
kid = heeding 4 (row 4)

-- writing reads all of a label's columns
all_read : (w : ℕ) → heeding 4 (λ g. bearing_heeds (label w) g) ≡ kid
unfolding cells shown flatten has each
all_read w = refl

leaf : (w : ℕ) → w < 8 → Leaf (label_rows w) kid
leaf w h = subst (Leaf (label_rows w)) (all_read w) (bearer_leaf 7 (label_bear w h) plainly (λ s x f g o. refl))

abbrev lists_lawful : LawfulRanges kid lists
lists_lawful = (leaf 7 (lit< tt), (leaf 5 (lit< tt), (leaf 5 (lit< tt), tt)))

languages_pass : range_test 12 lists kid lists_lawful ≡ true
unfolding range_test form form_proper form_all proper all has distinct free eights total sure sure_columns flatten below counts_test firsts_of weights weight groups switch_group_list presets
languages_pass = refl

languages_lawful : LawfulRows language_rows
languages_lawful = range_lawful 6 7 12 lists kid lists_lawful languages_pass

-- ---- the record

again : (g : Columns) (run : Payload) → every flagged g (cells (layouts pieces) g) ≡ true → fields (text_label_of (row 3 g) run) ≡ row 3 g
unfolding each
again g run e = refl

kept : (m : MpegH3dAudioTextLabel) → fields (text_label_of (heeds_of body (of (fields m))) m.trailing) ≡ heeds_of body (of (fields m))
unfolding layouts heeds cells shown head flatten has each
kept m = refl

pub body_lawful : LawfulBody body
unfolding tests form form_proper form_all form_in_bytes proper all has distinct free eights total sure flatten below bytewide in_bytes head places places_test bounds each
body_lawful = record {
  rows = (languages_lawful, tt);
  passes = refl;
  again = again;
  kept = kept;
  run_of = λ c r. refl;
  run_set = λ c r q. refl;
  held = λ g w c k n a b. all_cons (c 0 refl) (all_cons (c 1 refl) (all_cons (w 2) (all_cons a (all_cons b all_nil))));
}

pub lawful : Lawful kind
unfolding kind
lawful = B.lawful body body_lawful
