-- Labels read: where an entry ends, its columns once it is known to be there, and its tally; then a list, its count before its entries.
use Rattle.std.specs.Prelude.{Result, Ok, Err}
use Prim.Native.Nat.{ℕ, ◌+◌, ◌*◌, ◌-◌, ◌^◌, ◌≤◌, ◌<◌}
use mathlib.Core.Path.{◌≡◌, refl, sym, ap, ◌∙◌}
use mathlib.Core.List.{List, [], ◌∷◌, flatten, flat_map}
use mathlib.Core.Bool.{true}
use native.Mathlib.Omega.{arith}
use native.Mathlib.Nat.{add-zero}
use lib.ListN.{length, get_or}
use lib.Seq.{sets}
use borrow.Author.Tests.{eq-eqb}
use Rattle.wire.specs.Lists.{each, sum}
use Rattle.wire.specs.Bits.{part, total, split, zeros}
use Rattle.wire.specs.Prog.{Prog, ret, Out, done, short, span, run, u8, many, ◌>>=◌}
use Rattle.wire.specs.Reads.{map_out, end_of, is_done, pos_of, rows_of, ends_out, ByteRead, Summed}
use Rattle.wire.specs.Layout.{put, has, shown, cells, tally, Borne, bearing, borne_row, borne_tally}
use Rattle.wire.specs.Straight.{ends, ones, puts_at, took}
use Rattle.wire.specs.Nest.{Fillable, Nested, RowStored}
use Rattle.wire.specs.declared.reads.Short.{Short}
use Rattle.wire.specs.declared.rows.Payload.{Payload}
use Rattle.wire.proofs.Layouts.Cells.{all, distinct, free, eights, proper}
use Rattle.wire.proofs.Layouts.Forms.{form_all, form_proper, below}
use Rattle.wire.proofs.Fields.{wider, part_below}
use Rattle.wire.proofs.Reading.Walk.{run_map, map_map, map_done, From, begun, onward, cut_off, cut_off_as, finished, as_done, is_done_lem, byte_taken}
use Rattle.wire.proofs.Reading.Loops.{summed_done, summed_short, many_long}
use Rattle.wire.proofs.Layouts.Straight.{ends_at, ends_within}
use Rattle.wire.proofs.Layouts.Borne.{bear_test, Bear}
use Rattle.wire.proofs.Layouts.Bearers.{bear_got, bear_lacks, bear_whole, bear_filled}
use Rattle.labels.specs.Layout.{label}
use Rattle.labels.specs.Read.{Labels, labels_over, labels}
use Rattle.labels.specs.Rows.{entry_row, range, descriptions, list_from}
use Rattle.labels.specs.Contract.{labels_tally}
use Rattle.labels.specs.declared.rows.TextLabelEntry.{TextLabelEntry}

-- ---- an entry

abbrev pub an_entry : ℕ → Prog Borne
an_entry w = bearing (label w)

-- measured: its two bytes, then the label
module _ (w : ℕ) (s : List ℕ) (at : ℕ) where
  pub entry_lacks : {x : Short} → short x ≡ ends (ones 2) s at → short x ≡ end_of (run (an_entry w) s at)
  unfolding took ones
  entry_lacks e = bear_lacks (label w) s at e

  module _ {m : ℕ} (e : done tt m ≡ ends (ones 2) s at) where
    pub behind_inside : at ≤ length s → m ≤ length s
    behind_inside h = ends_within (ones 2) s at h (sym e)

    pub length_there : at ≤ length s → at + 1 < length s
    unfolding ones total
    length_there h = omega (arith, behind_inside h, ends_at (ones 2) s at (sym e))

    pub entry_ends : {v : ℕ} (r : Result ℕ Short) → v ≡ get_or s (at + 1) 0 → ends_out r ≡ ends (v ∷ []) s m → ends_out r ≡ end_of (run (an_entry w) s at)
    unfolding took ones total
    entry_ends r z e' = e' ∙ ap (λ (v : ℕ). ends (v ∷ []) s m) z ∙ bear_got (label w) s at e

-- filled, once measured
module _ (w : ℕ) (s : List ℕ) (at : ℕ) (h : at ≤ length s) (q : is_done (run (an_entry w) s at) ≡ true) where
  pub entry_there : at + 2 + get_or s (at + 1) 0 ≤ length s
  unfolding took total
  entry_there = omega (arith, (bear_whole (label w) s at h q).there)

  pub entry_taken : {b v r i : ℕ} {p : Payload} → b ≡ get_or s at 0 → v ≡ get_or s (at + 1) 0 → r ≡ part w (8 - w) b → i ≡ part 0 w b → p ≡ span (at + 2) v
      → done (r ∷ i ∷ p.offset ∷ p.length ∷ []) (at + 2 + v) ≡ map_out (borne_row (label w)) (run (an_entry w) s at)
  unfolding took puts_at put split total each
  entry_taken {p = p} x y u k z =
      let a : at + 2 ≡ at + 1 + 1 = omega arith in
      let c : p ≡ span (at + 1 + 1) (get_or s (at + 1) 0) = z ∙ λ j. span (a j) (y j) in
      bear_filled (label w) s at h q
      (λ j. (u ∙ λ j. part (sym (add-zero w) j) (8 - w) (x j)) j ∷ (k ∙ ap (part 0 w) x) j ∷ (c j).offset ∷ (c j).length ∷ [])
      (λ j. a j + y j)

-- stored, and tallied
module _ (w : ℕ) (s : List ℕ) (at : ℕ) {e : TextLabelEntry} {next : ℕ} (d : done (entry_row e) next ≡ map_out (borne_row (label w)) (run (an_entry w) s at)) where
  pub entry_stored : {t t' : List ℕ} {to : ℕ} → t' ≡ sets t to (entry_row e) → RowStored (an_entry w) (borne_row (label w)) 4 s at t to next t'
  entry_stored {t} {to = to} z =
      let (x, r, k) = as_done (borne_row (label w)) (run (an_entry w) s at) (sym d) in
      record { value = x; reads = r; wide = ap length k; stored = z ∙ ap (sets t to) (sym k) }

  entry_tally : (x : Borne) → borne_row (label w) x ≡ entry_row e → zeros (8 - w) e.reserved ≡ borne_tally (label w) x
  unfolding tally cells shown sum flatten each
  entry_tally x q = let z : get_or x.0 0 0 ≡ e.reserved = cc q in ap (zeros (8 - w)) (sym z) ∙ sym (add-zero _)

  pub entry_zeros : {n : ℕ} → n ≡ zeros (8 - w) e.reserved → (done n next ≡ map_out (borne_tally (label w)) (run (an_entry w) s at)) × (n ≤ 8)
  entry_zeros q =
      let (x, r, k) = as_done (borne_row (label w)) (run (an_entry w) s at) (sym d) in
      (ap (λ (n : ℕ). done n next) (q ∙ entry_tally x k) ∙ sym (ap (map_out (borne_tally (label w))) r), omega (arith, q))

-- a row that ends with a payload, for each width
pub label_passes : (w : ℕ) → w < 8 → bear_test (label w) ≡ true
unfolding bear_test form_proper form_all below proper all has distinct free eights total flatten
label_passes w h = rw (eq-eqb (8 - w + (w + 0)) 8 (omega arith)) refl

abbrev pub label_bear : (w : ℕ) → w < 8 → Bear
label_bear w h = record { row = label w; passes = label_passes w h }

-- ---- a list: its count, and so many entries

abbrev list_is : ℕ → ℕ → List Borne → Labels
list_is w b l = record { reserved = part w (8 - w) b; count = part 0 w b; entries = l }

-- its rows of table 7
abbrev entry_count : Labels → ℕ
entry_count d = length d.entries

abbrev after_count : ℕ → ℕ → Prog Labels
after_count w b = many (part 0 w b) (an_entry w) >>= λ l. ret (list_is w b l)

-- a count of at most seven bits
pub count_below : {k : ℕ} (w : ℕ) → w < 8 → k < 2 ^ w → k < 128
count_below w h l = wider w 7 (omega arith) l

pub count_few : (w b : ℕ) {count : ℕ} → w < 8 → count ≡ part 0 w b → count < 128
count_few w b h e = rw e (count_below w h (part_below 0 w b))

-- measured
module _ (w : ℕ) (s : List ℕ) (at : ℕ) (h : at ≤ length s) where
  pub count_lacks : {x : Short} → ByteRead s at (Err x) → Summed (labels w) entry_count 127 s at (Err x)
  unfolding labels_over
  count_lacks e = summed_short (cut_off u8 (after_count w) (begun (labels w) s at h) e.is)

  module _ {b n : ℕ} (e : ByteRead s at (Ok (b, n))) where
    place : From (labels w) s at (after_count w b) n
    unfolding labels_over
    place = onward u8 (after_count w) (begun (labels w) s at h) e.is

    pub count_got : n ≤ length s
    count_got = place.inside

    module _ {count : ℕ} (k : count ≡ part 0 w b) where
      ends_so : (r : Result ℕ Short) → ends_out r ≡ end_of (run (many count (an_entry w)) s n) → ends_out r ≡ end_of (run (many (part 0 w b) (an_entry w)) s n)
      ends_so r m = m ∙ ap (λ (k : ℕ). end_of (run (many k (an_entry w)) s n)) k

      pub entries_lack : {x : Short} → short x ≡ end_of (run (many count (an_entry w)) s n) → Summed (labels w) entry_count 127 s at (Err x)
      entries_lack {x} m = summed_short (cut_off_as (many (part 0 w b) (an_entry w)) (λ l. tt) (λ l. ret (list_is w b l)) place (ends_so (Err x) m))

      pub list_counted : w < 8 → {next : ℕ} → done tt next ≡ end_of (run (many count (an_entry w)) s n) → Summed (labels w) entry_count 127 s at (Ok (count, next))
      list_counted i {next} m =
          let p = many (part 0 w b) (an_entry w) in
          let (l, x, _) = as_done (λ (l : List Borne). tt) (run p s n) (sym (ends_so (Ok next) m)) in
          summed_done (finished (onward p (λ l. ret (list_is w b l)) place (sym x)) refl) (k ∙ sym (many_long (an_entry w) s (part 0 w b) n l next x))
          (omega (arith, count_few w b i k))

-- known to be there: it is what its entries are
module _ (w : ℕ) (s : List ℕ) (at : ℕ) (q : is_done (run (labels w) s at) ≡ true) where
  begins : (at < length s) × (run (labels w) s at ≡ run (after_count w (get_or s at 0)) s (at + 1))
  unfolding labels_over
  begins =
      let (_, _, e) = is_done_lem (run (labels w) s at) q in
      let (h, e₁) = byte_taken s at (after_count w) e in
      (h, e ∙ sym e₁)

  pub count_there : at < length s
  count_there = begins.0

  pub entries_begin : at + 1 ≤ length s
  entries_begin = omega (arith, begins.0)

  module _ {b count : ℕ} (x : b ≡ get_or s at 0) (y : count ≡ part 0 w b) where
    abbrev those : Out (List Borne)
    those = run (many count (an_entry w)) s (at + 1)

    entries_so : run (labels w) s at ≡ map_out (list_is w b) those
    entries_so =
        begins.1 ∙ ap (λ (b : ℕ). run (after_count w b) s (at + 1)) (sym x) ∙ run_map (many (part 0 w b) (an_entry w)) (list_is w b) s (at + 1)
        ∙ ap (λ (k : ℕ). map_out (list_is w b) (run (many k (an_entry w)) s (at + 1))) (sym y)

    pub entries_done : is_done those ≡ true
    entries_done = sym (ap is_done entries_so ∙ map_done (list_is w b) those) ∙ q

    -- tallied
    pub list_tally : {r before n next : ℕ} → r ≡ part w (8 - w) b → before ≡ zeros (8 - w) r → done n next ≡ map_out (sum (borne_tally (label w))) those
        → done (before + n) next ≡ map_out (labels_tally w) (run (labels w) s at)
    list_tally {before = before} u z e =
        ap (map_out (λ (n : ℕ). before + n)) e ∙ map_map (sum (borne_tally (label w))) (λ (n : ℕ). before + n) those
        ∙ ap (λ (k : ℕ). map_out (λ (l : List Borne). k + sum (borne_tally (label w)) l) those) (z ∙ ap (zeros (8 - w)) u)
        ∙ sym (ap (map_out (labels_tally w)) entries_so ∙ map_map (list_is w b) (labels_tally w) those)

pub list_few : (w b r : ℕ) {count before n : ℕ} → w < 8 → count ≡ part 0 w b → before ≡ zeros (8 - w) r → n ≤ 8 * count → before + n ≤ 1024
list_few w b r h e z l = omega (arith, count_few w b h e, z)

-- filled
module _ (w : ℕ) (s : List ℕ) (at first : ℕ) (t : List ℕ) (f : Fillable (labels w) 4 entry_count s at first t) where
  pub list_done : is_done (run (labels w) s at) ≡ true
  list_done = ap is_done f.reads

  module _ {b count : ℕ} (x : b ≡ get_or s at 0) (y : count ≡ part 0 w b) where
    the_entries : (run (many count (an_entry w)) s (at + 1) ≡ done f.value.entries f.end) × (list_is w b f.value.entries ≡ f.value)
    the_entries =
        let (l, e, q) = as_done (list_is w b) (run (many count (an_entry w)) s (at + 1)) (sym (entries_so w s at list_done x y) ∙ f.reads) in
        let z : l ≡ f.value.entries = ap (λ (d : Labels). d.entries) q in
        (e ∙ ap (λ (l : List Borne). done l f.end) z, ap (list_is w b) (sym z) ∙ q)

    pub list_room : first * 4 + 4 * count ≤ length t
    list_room = omega (arith, f.room, many_long (an_entry w) s count (at + 1) f.value.entries f.end the_entries.0)

    pub list_taken : {r n : ℕ} {after : List ℕ} → r ≡ part w (8 - w) b → n ≡ pos_of (run (many count (an_entry w)) s (at + 1))
        → after ≡ sets t (first * 4) (flat_map (borne_row (label w)) (rows_of (run (many count (an_entry w)) s (at + 1))))
        → Nested (labels w) 4 list_from (λ d. flat_map (borne_row (label w)) d.entries) s at first t (descriptions r (range first count)) n after
    list_taken u v z =
        let (e, q) = the_entries in
        record {
          value = f.value;
          end = f.end;
          reads = f.reads;
          is = (λ i. descriptions (u i) (range first (y i))) ∙ ap (list_from first) q;
          on = v ∙ ap pos_of e;
          stored = z ∙ ap (λ (o : Out (List Borne)). sets t (first * 4) (flat_map (borne_row (label w)) (rows_of o))) e;
        }
