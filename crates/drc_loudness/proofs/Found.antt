-- Of a body whose lists were found: where they stand and how many rows they have, its sizes, its record and its tally.
use Rattle.std.specs.Prelude.{Ok}
use Prim.Native.Nat.{ℕ, ◌+◌, ◌≤◌, ◌<◌}
use mathlib.Core.Path.{◌≡◌, refl, sym, ap, subst, ◌∙◌}
use mathlib.Core.List.{List, [], ◌∷◌, ◌++◌, flatten, flat_map}
use mathlib.Core.Bool.{Bool, true, false, ◌&&◌}
use native.Mathlib.Omega.{arith}
use lib.ListN.{length, get_or, length-map}
use lib.Dec.{eqb}
use borrow.Author.Tests.{eqb-true}
use Rattle.wire.specs.Lists.{Every, all_nil, all_cons, each, sum, firsts}
use Rattle.wire.specs.Bits.{part, zeros}
use Rattle.wire.specs.Prog.{done, run, many}
use Rattle.wire.specs.Reads.{map_out}
use Rattle.wire.specs.Act.{pick}
use Rattle.wire.specs.Layout.{Cell, num, reserved, flag, column, idle, Columns, of, flat, shown, cells, tally, Family, family_tally, Borne, borne_row, borne_tally}
use Rattle.wire.proofs.Writing.Acts.{and_both}
use Rattle.wire.proofs.Reading.Walk.{ends}
use Rattle.wire.proofs.Fields.{part_below}
use Rattle.wire.proofs.Reading.Loops.{many_long, summed_rows}
use Rattle.wire.proofs.Layouts.Rowed.{parents_long}
use Rattle.frame.specs.Numbers.{accepted}
use Rattle.frame.specs.Entry.{needs, sizes, tail, Measures, Tallies}
use Rattle.frame.specs.Body as B
use Rattle.frame.specs.Body.{with_place, tables}
use Rattle.frame.specs.Sight.{Tops}
use Rattle.frame.proofs.Entries.{measures_walked, sizes_walked, tallies_walked, tops_walked}
use Rattle.frame.proofs.Tables.{same_rows, Empty, empty_opens}
use Rattle.instructions.specs.Layout.{instruction, instructions, additional}
use Rattle.loudness.specs.Layout.{entry, entries}
use Rattle.downmixes.specs.Layout.{downmix}
use Rattle.drc_kind.specs.declared.rows.DrcLoudnessInfo.{DrcLoudnessInfo}
use Rattle.drc_kind.specs.declared.rows.Info.{Info}
use Rattle.drc_kind.specs.declared.rows.MpegH3dAudioDrcLoudness.{MpegH3dAudioDrcLoudness}
use Rattle.drc_kind.specs.Layout.{head, layouts}
use Rattle.drc_kind.specs.Rows.{no_info, Tree, tree_is, needed}
use Rattle.drc_kind.specs.Kind.{kind}
use Rattle.drc_kind.proofs.Lawful.{instruction_rows}
use Rattle.drc_loudness.specs.declared.parsing.Places.{Places}
use Rattle.drc_loudness.specs.declared.Sizes.{Sizes}
use Rattle.drc_loudness.specs.Contract.{sized}
use Rattle.drc_loudness.specs.Walk.{flag_at, info_there, info_at, rows_at, top_of, Found, tree, Opens}
use Rattle.drc_loudness.proofs.Walked.{info_in, Bare, found_reads}

-- ---- the counts

-- each fits its bits
pub record Few (i : DrcLoudnessInfo) : Type 0 where
  pub instructions : i.drc_instructions < 64
  pub entries : i.loudness_infos < 64
  pub downmixes : i.downmix_definitions < 32

pub there_few : (s : List ℕ) → Few (info_there s)
there_few s = record { instructions = part_below 0 6 (get_or s 1 0); entries = part_below 0 6 (get_or s 2 0); downmixes = part_below 0 5 (get_or s 3 0) }

pub info_few : (s : List ℕ) → Few (info_in s)
unfolding info_at
info_few s = go (eqb (flag_at s) 1)
  where
    go : (x : Bool) → Few (pick x (info_there s) no_info.part)
    go true = there_few s
    go false = record { instructions = omega arith; entries = omega arith; downmixes = omega arith }

module _ {s : List ℕ} {p : Places} (f : Found s p) where
  -- each list begins in the body
  pub at_entries : p.loudness ≤ length s
  at_entries = ends _ s (rows_at s) f.head (sym f.instructions_read)

  pub at_downmixes : p.downmixes ≤ length s
  at_downmixes = ends _ s p.loudness at_entries (sym f.entries_read)

  pub at_end : p.k ≤ length s
  at_end = ends _ s p.downmixes at_downmixes (sym f.downmixes_read)

  -- how many rows each has
  pub instructions_counted : (info_in s).drc_instructions ≡ length f.in_instructions
  instructions_counted = sym (many_long instructions s _ _ _ _ f.instructions_read)

  pub entries_counted : (info_in s).loudness_infos ≡ length f.in_entries
  entries_counted = sym (many_long entries s _ _ _ _ f.entries_read)

  pub downmixes_counted : (info_in s).downmix_definitions ≡ length f.in_downmixes
  downmixes_counted = sym (many_long (flat 4 downmix) s _ _ _ _ f.downmixes_read)

  needs_found : needed (info_in s).drc_instructions p.additional (info_in s).loudness_infos (info_in s).downmix_definitions ≡ needs (kind.tables (tree f))
  unfolding needs kind tables
  needs_found = λ i. needed ((instructions_counted ∙ sym (parents_long instruction_rows f.in_instructions)) i) (f.additional_are i) ((entries_counted ∙ sym (length-map f.in_entries (borne_row entry))) i) (downmixes_counted i)

-- ---- the record and the sizes, from the bytes

module _ {s : List ℕ} {p : Places} (f : Found s p) (h : length s < 65536) where
  pub counted : {r : Sizes} {i : DrcLoudnessInfo} → i ≡ info_in s → r.instructions ≡ i.drc_instructions → r.additional ≡ p.additional
      → r.loudness ≡ i.loudness_infos → r.downmixes ≡ i.downmix_definitions → r.k ≡ p.k → Measures kind s (accepted (sized r))
  unfolding sizes
  counted e a b c d k =
      measures_walked kind s h (found_reads s p f)
      ((λ j. record { tables = needed ((a ∙ λ j. (e j).drc_instructions) j) (b j) ((c ∙ λ j. (e j).loudness_infos) j) ((d ∙ λ j. (e j).downmix_definitions) j); before = k j })
      ∙ (λ j. record { tables = needs_found f j; before = p.k }))

  pub recorded : {r : MpegH3dAudioDrcLoudness} → r.reserved ≡ part 1 7 (get_or s 0 0) → r.info ≡ info_at s → r.trailing ≡ tail p.k s → Tops kind s r
  unfolding info_at kind with_place each
  recorded a e t = tops_walked kind s h (found_reads s p f) (λ j. record { reserved = a j; info = e j; trailing = t j })

-- ---- no rows: no table is needed, and none changes

none_of : {A : Type 0} (l : List A) → length l ≡ 0 → l ≡ []
none_of [] e = refl
none_of (x ∷ l) e = absurd (omega (arith, e))

pub bare_counted : {s : List ℕ} {p : Places} (f : Found s p) → length s < 65536 → {z : Sizes} → Measures kind s (accepted (sized z))
    → eqb z.instructions 0 && (eqb z.loudness 0 && eqb z.downmixes 0) ≡ true → Bare s p
unfolding sizes kind needs tables
bare_counted {s} {p} f h {z} m e =
    let c = sizes_walked kind s h (found_reads s p f) m in
    let (x, y) = and_both (eqb z.instructions 0) _ e in
    let (u, v) = and_both (eqb z.loudness 0) _ y in
    record {
      found = f;
      no_instructions = none_of f.in_instructions (sym (parents_long instruction_rows f.in_instructions) ∙ sym (same_rows c 0) ∙ eqb-true z.instructions 0 x);
      no_entries = none_of f.in_entries (sym (length-map f.in_entries (borne_row entry)) ∙ sym (same_rows c 2) ∙ eqb-true z.loudness 0 u);
      no_downmixes = none_of f.in_downmixes (sym (same_rows c 3) ∙ eqb-true z.downmixes 0 v);
    }

pub bare_opens : {s : List ℕ} {p : Places} → Bare s p → length s < 65536 → (t₁ t₂ t₃ t₄ : List ℕ) → Opens s (t₁ ∷ t₂ ∷ t₃ ∷ t₄ ∷ []) (Ok p) (t₁ ∷ t₂ ∷ t₃ ∷ t₄ ∷ [])
unfolding kind tables firsts flat_map
bare_opens {s} {p} b h t₁ t₂ t₃ t₄ =
    let f = b.found in
    let e : tree f ≡ tree_is (top_of s) [] [] [] = λ i. tree_is (top_of s) (b.no_instructions i) (b.no_entries i) (b.no_downmixes i) in
    let none : Every Empty (kind.tables (tree f)) =
    subst (λ (t : Tree). Every Empty (kind.tables t)) (sym e) (all_cons refl (all_cons refl (all_cons refl (all_cons refl all_nil)))) in
    record { gives = empty_opens kind s h (found_reads s p f) f (t₁ ∷ t₂ ∷ t₃ ∷ t₄ ∷ []) refl none }

-- ---- the tally

abbrev own : List ℕ → ℕ
own s = zeros 7 (part 1 7 (get_or s 0 0))

abbrev of_info : DrcLoudnessInfo → ℕ
of_info i = zeros 2 i.reserved_drc + (zeros 2 i.reserved_loudness + zeros 3 i.reserved_downmix)

top_tally : (s : List ℕ) → tally layouts (of (top_of s)) ≡ pick (eqb (flag_at s) 1) (own s + of_info (info_in s)) (own s)
unfolding tally cells shown head sum flatten
top_tally s = go (eqb (flag_at s) 1)
  where
    h : Columns
    h = of (top_of s)

    some : Bool → List Cell
    some x = (reserved 7 0 ∷ flag 1 ∷ (pick x (reserved 2 2 ∷ num 6 5 ∷ reserved 2 3 ∷ num 6 6 ∷ reserved 3 4 ∷ num 5 7 ∷ []) [] ++ [])) ++ []

    go : (x : Bool) → sum (λ (c : Cell). idle c (h (column c))) (some x) ≡ pick x (own s + of_info (info_in s)) (own s)
    go true = omega arith
    go false = omega arith

-- with the info as code has it
module _ (s : List ℕ) {i : Info} (e : i ≡ info_at s) where
  flagged : i.present ≡ eqb (flag_at s) 1
  unfolding info_at
  flagged = λ j. (e j).present

  pub top_with : i.present ≡ true → {r : ℕ} → r ≡ own s + of_info i.part → r ≡ tally layouts (of (top_of s))
  top_with t q = q ∙ (λ j. own s + of_info (e j).part) ∙ sym (top_tally s ∙ ap (λ (b : Bool). pick b (own s + of_info (info_in s)) (own s)) (sym flagged ∙ t))

  pub top_alone : i.present ≡ false → {r : ℕ} → r ≡ own s → r ≡ tally layouts (of (top_of s))
  top_alone t q = q ∙ sym (top_tally s ∙ ap (λ (b : Bool). pick b (own s + of_info (info_in s)) (own s)) (sym flagged ∙ t))

abbrev instructions_tally : List Family → ℕ
instructions_tally l = sum (family_tally instruction additional) l

abbrev entries_tally : List Borne → ℕ
entries_tally l = sum (borne_tally entry) l

abbrev downmixes_tally : List (List ℕ) → ℕ
downmixes_tally l = sum (λ r. tally (downmix ∷ []) (of r)) l

-- with the counts as code has them
pub zeros_so : {s : List ℕ} {p : Places} → Found s p → length s < 65536 → {i : DrcLoudnessInfo} → i ≡ info_in s → {r a x y z at m n k : ℕ} → at ≡ rows_at s → r ≡ a + x + (y + z)
    → a ≡ tally layouts (of (top_of s))
    → done x m ≡ map_out instructions_tally (run (many i.drc_instructions instructions) s at)
    → done y n ≡ map_out entries_tally (run (many i.loudness_infos entries) s p.loudness)
    → done z k ≡ map_out downmixes_tally (run (many i.downmix_definitions (flat 4 downmix)) s p.downmixes) → Tallies kind s (accepted r)
unfolding kind B.zeros B.layouts
zeros_so {s} {p} f h e q w a x y z =
    let x' = summed_rows (family_tally instruction additional) (done f.in_instructions p.loudness) (x ∙ (λ j. map_out instructions_tally (run (many (e j).drc_instructions instructions) s (q j))) ∙ ap (map_out instructions_tally) f.instructions_read) in
    let y' = summed_rows (borne_tally entry) (done f.in_entries p.downmixes) (y ∙ (λ j. map_out entries_tally (run (many (e j).loudness_infos entries) s p.loudness)) ∙ ap (map_out entries_tally) f.entries_read) in
    let z' =
    summed_rows (λ r. tally (downmix ∷ []) (of r)) (done f.in_downmixes p.k) (z ∙ (λ j. map_out downmixes_tally (run (many (e j).downmix_definitions (flat 4 downmix)) s p.downmixes)) ∙ ap (map_out downmixes_tally) f.downmixes_read) in
    tallies_walked kind s h (found_reads s p f) (omega (arith, w, a, x'.0, y'.0, z'.0))
