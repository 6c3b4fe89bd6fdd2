-- Rows in pieces whose lists stand in one other table are lawful (RowTypes), if the rows of their lists are and they pass one test that computes.
use Prim.Native.Nat.{ℕ, ◌+◌, ◌/◌, ◌≤◌, ◌<◌}
use mathlib.Core.List.{List, [], ◌∷◌, ◌++◌, map, flatten, flat_map}
use mathlib.Core.Bool.{Bool, true, false, not, ◌&&◌, ◌||◌}
use mathlib.Core.Path.{◌≡◌, refl, sym, ap, subst, ◌∙◌}
use native.Mathlib.Omega.{arith}
use lib.ListN.{length, drop, length-append, length-map}
use lib.Dec.{eqb, leb, ltb}
use borrow.Author.Tests.{not-true, eqb-true, eq-eqb, le-leb, leb-true, ltb-true}
use Rattle.wire.specs.Lists.{Every, all_nil, all_cons, each, sum, firsts, Column}
use Rattle.wire.specs.Prog.{Prog, ret, Within}
use Rattle.wire.specs.Act.{demand, pick, rows}
use Rattle.wire.specs.declared.pen.Fault.TheVariants as F
use Rattle.wire.specs.Pen.{clean}
use Rattle.wire.specs.Layout.{Layout, Columns, of, at, row, writes, shown, has, mix, kept, blank, columns, demands}
use Rattle.wire.proofs.Lists.{every_as, every_flat, every_and, every_map, every_firsts, every_left, every_right, every_both}
use Rattle.wire.proofs.Writing.Acts.{and_both, both_and, clean_both}
use Rattle.wire.proofs.Reading.Takes.{Takes, map_takes, Listed, listed_every}
use Rattle.wire.proofs.Reading.Nest.{each_split, flat_length, firsts_length, firsts_below, sum_suc}
use Rattle.wire.proofs.Layouts.Codec.{Codec, Spells, spells_rows}
use Rattle.wire.proofs.Layouts.Codec as C
use Rattle.wire.proofs.Layouts.Cells.{On, Apart, cells_on, on_both, distinct, free, free_apart, clash, or_none, set_else, mix_in, mix_out}
use Rattle.wire.proofs.Layouts.Forms.{Form, last, hole, sure, sure_shown, form_read, form_goes, form_means, form_shown, form_all, form_proper, form_shown_in, below, each_every, rows_codec, RowFits, Breaks, woven, Holes, Cleans, means_again, row_ready, row_columns}
use Rattle.wire.proofs.Layouts.Rowed.{Wide, Good, row_on, on_all, found, room_for, each_as, each_clean, each_wide, kids_stand, listed_sum}
use Rattle.frame.specs.Kind.{Lent, Rows, Heeded}
use Rattle.frame.specs.Claims.{Agree}
use Rattle.frame.specs.Entry.{needs, total, first_table, other_tables, filled}
use Rattle.frame.specs.Body.{RowType, tables, payloads, layouts}
use Rattle.frame.specs.Ranges.{Ranges, tail, range, pieces_of, rows_of, ranged, all_inside, ranged_bytes, ranged_lists, firsts_of, ranged_row, ranged_acts, ranged_means, ranged_heeds, ranged_rows}
use Rattle.frame.proofs.Lawful.{Shaped, agrees}
use Rattle.frame.proofs.RowTypes.{Had, SameRows, Took, LawfulRows, Leaf}
use Rattle.frame.proofs.Pieces.{LawfulPieces, form, parse_goes, spans_so, weights, Grown, grown, Stood, Was, list_was, rest_was, columns_so}
use Rattle.frame.proofs.Records.{record_spells, record_ready, record_alike, kept_so}

-- ---- its lists

-- the counts are columns that are read in any case
unfoldable pub counts_test : {T M : Type 0} → Ranges T M → List ℕ → Bool
counts_test (tail l) ks = true
counts_test (range l i k r p) ks = has k ks && counts_test p ks

abbrev Counts : {T M : Type 0} → Ranges T M → Columns → Columns → Type 0
Counts (tail l) g h = Unit {0}
Counts (range l i k r p) g h = (g k ≡ h k) × Counts p g h

counts_on : {T M : Type 0} (p : Ranges T M) (ks : List ℕ) → counts_test p ks ≡ true → (g h : Columns) → On ks g h → Counts p g h
unfolding counts_test
counts_on (tail l) ks e g h o = tt
counts_on (range l i k r p) ks e g h o = let (a, b) = and_both (has k ks) _ e in (o k a, counts_on p ks b g h o)

-- a list is a range of rows
abbrev Firsts : {T M : Type 0} → Ranges T M → Columns → Columns → Type 0
Firsts (tail l) g h = Unit {0}
Firsts (range l i k r p) g h = (g i ≡ h i) × Firsts p g h

firsts_on : {T M : Type 0} (p : Ranges T M) (g h : Columns) → On (firsts_of p) g h → Firsts p g h
unfolding firsts_of has
firsts_on (tail l) g h o = tt
firsts_on (range l i k r p) g h o = (o i (rw (eq-eqb i i refl)), firsts_on p g h (λ j e. o j (go (eqb j i) e)))
  where
    go : {a : Bool} (b : Bool) → a ≡ true → (b || a) ≡ true
    go true e = refl
    go false e = e

-- the ranges of a row that was read, its first list from row m on
abbrev Ranged : {T M : Type 0} → Ranges T M → Columns → ℕ → T → Type 0
Ranged (tail l) g m x = Unit {0}
Ranged (range l i k r p) g m x = (g i ≡ m) × (g k ≡ length x.0) × Ranged p g (m + length x.0) x.1

ranged_else : {T M : Type 0} (p : Ranges T M) (m : ℕ) (x : T) (f : Columns) (j : ℕ) → has j (firsts_of p) ≡ false → ranged p m x f j ≡ f j
unfolding ranged firsts_of has
ranged_else (tail l) m x f j e = refl
ranged_else (range l i k r p) m x f j e = let (a, b) = or_none (eqb j i) _ e in set_else i m (ranged p (m + length x.0) x.1 f) j a ∙ ranged_else p (m + length x.0) x.1 f j b

-- nothing but lists stands behind its pieces
stood : {T M : Type 0} (p : Ranges T M) (x : T) (g : Columns) → Stood (pieces_of p) x g
stood (tail l) x g = tt
stood (range l i k r p) x g = stood p x.1 g

-- kid is what writing reads of a row of its lists
module _ (kid : Heeded) where
  abbrev pub LawfulRanges : {T M : Type 0} → Ranges T M → Type 1
  LawfulRanges (tail l) = Unit {1}
  LawfulRanges (range l i k r p) = Leaf r kid × LawfulRanges p

  abbrev pub pieces_lawful : {T M : Type 0} (p : Ranges T M) → LawfulRanges p → LawfulPieces (pieces_of p)
  pieces_lawful (tail l) w = tt
  pieces_lawful (range l i k r p) w = (w.0.lawful, pieces_lawful p w.1)

  unfoldable pub range_breaks : {T M : Type 0} (p : Ranges T M) (w : LawfulRanges p) → Lent → List ℕ → Columns → Breaks (form (pieces_of p) (pieces_lawful p w))
  unfolding form
  range_breaks (tail l) w lent store g = tt
  range_breaks (range l i k r p) w lent store g = (rows (r.acts lent store) (g i) (g k), range_breaks p w.1 lent store g)

  bytes_so : {T M : Type 0} (p : Ranges T M) (w : LawfulRanges p) (lent : Lent) (store : List ℕ) (g : Columns)
      → ranged_bytes p lent store g ≡ woven (form (pieces_of p) (pieces_lawful p w)) g (range_breaks p w lent store g)
  unfolding ranged_bytes form woven range_breaks
  bytes_so (tail l) w lent store g = refl
  bytes_so (range l i k r p) w lent store g = λ z. writes l g ++ (rows (r.acts lent store) (g i) (g k) ++ bytes_so p w.1 lent store g z)

  holes_so : {T M : Type 0} (p : Ranges T M) (w : LawfulRanges p) (lent : Lent) (store : List ℕ) (g m : Columns) → Counts p g m → clean (ranged_bytes p lent store g) ≡ true
      → Holes (form (pieces_of p) (pieces_lawful p w)) m (range_breaks p w lent store g) (ranged_lists p lent store g)
  unfolding ranged_bytes ranged_lists form Holes range_breaks
  holes_so (tail l) w lent store g m c e = tt
  holes_so (range l i k r p) w lent store g m c e =
      let (_, e₀) = clean_both (writes l g) _ e in
      let (e₁, e₂) = clean_both (rows (r.acts lent store) (g i) (g k)) (ranged_bytes p lent store g) e₀ in
      let d = w.0.lawful.codec in
      let s = spells_rows d (r.acts lent store) (r.means lent store) (λ i. w.0.lawful.spells lent store i) (g i) (g k) e₁ in
      (subst (λ (n : ℕ). Spells (C.list d n) (rows (r.acts lent store) (g i) (g k)) (each (r.means lent store) (g i) (g k))) c.0 s, holes_so p w.1 lent store g m c.1 e₂)

  -- what writing reads of the row and of the table decides them
  record Same {T M : Type 0} (p : Ranges T M) (w : LawfulRanges p) (lent : Lent) (store : List ℕ) (g h : Columns) : Type 0 where
    inside : (room : ℕ) → all_inside p room g ≡ all_inside p room h
    breaks : range_breaks p w lent store g ≡ range_breaks p w lent store h

  same_so : {T M : Type 0} (p : Ranges T M) (w : LawfulRanges p) (lent : Lent) (store : List ℕ) (g h : Columns) → Firsts p g h → Counts p g h → Same p w lent store g h
  unfolding all_inside range_breaks form
  same_so (tail l) w lent store g h f c = record { inside = λ room. refl; breaks = refl }
  same_so (range l i k r p) w lent store g h f c =
      let y = same_so p w.1 lent store g h f.1 c.1 in
      record { inside = λ room z. leb (f.0 z + c.0 z) room && y.inside room z; breaks = λ z. (rows (r.acts lent store) (f.0 z) (c.0 z), y.breaks z) }

  table_heeds : {T M : Type 0} (p : Ranges T M) → LawfulRanges p → {hs : List Heeded} {lent lent' : Lent} → Agree (kid ∷ hs) lent lent' → (store : List ℕ) (g : Columns)
      → ranged_bytes p lent store g ≡ ranged_bytes p lent' store g
  unfolding ranged_bytes
  table_heeds (tail l) w a store g = refl
  table_heeds (range l i k r p) w {hs} {lent} {lent'} a store g =
      let s = w.0.lawful.heeds hs (subst (λ (l : List Heeded). Agree (l ++ hs) lent lent') (sym w.0.heeded) a) in
      λ z. writes l g ++ (rows (s.acts store z) (g i) (g k) ++ table_heeds p w.1 a store g z)

  -- ---- of one that was read

  rows_split : {A C T M : Type 0} (l : Layout) (i k : ℕ) (r : RowType A C) (p : Ranges T M) (w : LawfulRanges (range l i k r p)) (x : List A × T)
      → rows_of (range l i k r p) x ≡ map w.0.stored x.0 ++ rows_of p x.1
  unfolding tables flat_map
  rows_split l i k r p w x = ap (λ (ts : List Rows). flat_map (λ (t : Rows). t.rows) (ts ++ tables (pieces_of p) x.1)) (w.0.table x.0)

  rows_long : {A C T M : Type 0} (l : Layout) (i k : ℕ) (r : RowType A C) (p : Ranges T M) (w : LawfulRanges (range l i k r p)) (x : List A × T)
      → length (rows_of (range l i k r p) x) ≡ length x.0 + length (rows_of p x.1)
  rows_long l i k r p w x =
      ap length (rows_split l i k r p w x) ∙ length-append (map w.0.stored x.0) (rows_of p x.1)
      ∙ ap (λ (n : ℕ). n + length (rows_of p x.1)) (length-map x.0 w.0.stored)

  -- its rows are as wide as those of their table
  shaped_wide : {T M : Type 0} (p : Ranges T M) (w : LawfulRanges p) (x : T) → Every Shaped (tables (pieces_of p) x) → Every (Wide kid.columns) (rows_of p x)
  unfolding tables flat_map
  shaped_wide (tail l) w x h = all_nil
  shaped_wide (range l i k r p) w x h =
      let (a, b) = split (subst (λ (ts : List Rows). Every Shaped (ts ++ tables (pieces_of p) x.1)) (w.0.table x.0) h) in
      subst (Every (Wide kid.columns)) (sym (rows_split l i k r p w x)) (every_both _ a (shaped_wide p w.1 x.1 b))
    where
      split : {q : Rows} {qs : List Rows} → Every Shaped (q ∷ qs) → Shaped q × Every Shaped qs
      split (all_cons a b) = (a, b)

  read_wide : {T M : Type 0} (p : Ranges T M) (w : LawfulRanges p) {s : List ℕ} {g h : Columns} {x : T} → Was (pieces_of p) (pieces_lawful p w) s g h x
      → Every (Wide kid.columns) (rows_of p x)
  unfolding tables flat_map
  read_wide (tail l) w d = all_nil
  read_wide (range l i k r p) w {s} {x = x} d =
      let y = list_was l k r (pieces_of p) (pieces_lawful (range l i k r p) w) d in
      subst (Every (Wide kid.columns)) (sym (rows_split l i k r p w x))
      (every_both _ (w.0.wide s x.0 y.had) (read_wide p w.1 (rest_was l k r (pieces_of p) (pieces_lawful (range l i k r p) w) d)))

  ranged_small : {T M : Type 0} (p : Ranges T M) (w : LawfulRanges p) (m : ℕ) (x : T) (f : Columns) → m + length (rows_of p x) < 65536 → ((j : ℕ) → f j < 65536) → (j : ℕ)
      → ranged p m x f j < 65536
  unfolding ranged
  ranged_small (tail l) w m x f n h j = h j
  ranged_small (range l i k r p) w m x f n h j = go (eqb j i) (ranged_small p w.1 (m + length x.0) x.1 f (omega (arith, n, rows_long l i k r p w x)) h j)
    where
      go : {v : ℕ} (b : Bool) → v < 65536 → pick b m v < 65536
      go true e = omega (arith, n)
      go false e = e

  -- the ranges of a row with these columns
  ranged_so : {T M : Type 0} (p : Ranges T M) (w : LawfulRanges p) {s : List ℕ} {g h : Columns} {x : T} → Was (pieces_of p) (pieces_lawful p w) s g h x
      → distinct (firsts_of p) ≡ true → (m : ℕ) (f : Columns) → On (firsts_of p) (ranged p m x f) g → Counts p h g → Ranged p g m x
  unfolding firsts_of ranged distinct has
  ranged_so (tail l) w d u m f o c = tt
  ranged_so (range l i k r p) w {s} {g} {h} {x} d u m f o c =
      let y = list_was l k r (pieces_of p) (pieces_lawful (range l i k r p) w) d in
      let (a, b) = and_both (not (has i (firsts_of p))) _ u in
      let same : eqb i i ≡ true = eq-eqb i i refl in
      let at_first : m ≡ g i = sym (rw same) ∙ o i (rw same) in
      (sym at_first, sym c.0 ∙ y.counted, ranged_so p w.1 (rest_was l k r (pieces_of p) (pieces_lawful (range l i k r p) w) d) b (m + length x.0) f (on_rest (not-true _ a)) c.1)
    where
      on_rest : has i (firsts_of p) ≡ false → On (firsts_of p) (ranged p (m + length x.0) x.1 f) g
      on_rest out j e = go (eqb j i) refl
        where
          inner : Columns
          inner = ranged p (m + length x.0) x.1 f

          go : (b : Bool) → eqb j i ≡ b → inner j ≡ g j
          go true q = clash e (ap (λ (j : ℕ). has j (firsts_of p)) (eqb-true j i q) ∙ out)
          go false q = sym (set_else i m inner j q) ∙ o j (rw q e)

  inside_so : {T M : Type 0} (p : Ranges T M) (w : LawfulRanges p) (g : Columns) (m : ℕ) (x : T) → Ranged p g m x → (room : ℕ) → m + length (rows_of p x) ≤ room
      → all_inside p room g ≡ true
  unfolding all_inside
  inside_so (tail l) w g m x d room h = refl
  inside_so (range l i k r p) w g m x d room h =
      let n = rows_long l i k r p w x in
      let a : g i + g k ≤ room = omega (arith, d.0, d.1, n, h) in
      both_and (le-leb _ _ a) (inside_so p w.1 g (m + length x.0) x.1 d.2 room (omega (arith, n, h)))

  -- what it means and that it is written without a fault, if its rows stand in the table from row m on
  module _ (lent : Lent) where
    abbrev kids : ℕ → List ℕ
    kids j = row kid.columns (at kid.columns (first_table lent) j)

    list_stands : {A C T M : Type 0} (l : Layout) (i k : ℕ) (r : RowType A C) (p : Ranges T M) (w : LawfulRanges (range l i k r p)) (x : List A × T) (m : ℕ)
        → each kids m (length (rows_of (range l i k r p) x)) ≡ rows_of (range l i k r p) x
        → (each kids m (length x.0) ≡ map w.0.stored x.0) × (each kids (m + length x.0) (length (rows_of p x.1)) ≡ rows_of p x.1)
    list_stands l i k r p w x m e =
        let a = map w.0.stored x.0 in
        let b = rows_of p x.1 in
        let n : length a ≡ length x.0 = length-map x.0 w.0.stored in
        let (y, z) = each_split kids a b m (subst (λ (l : List (List ℕ)). each kids m (length l) ≡ l) (rows_split l i k r p w x) e) in
        (subst (λ (n : ℕ). each kids m n ≡ a) n y, subst (λ (n : ℕ). each kids (m + n) (length b) ≡ b) n z)

    lists_so : {T M : Type 0} (p : Ranges T M) (w : LawfulRanges p) {s : List ℕ} {g h : Columns} {x : T} → Was (pieces_of p) (pieces_lawful p w) s g h x → (m : ℕ)
        → Ranged p g m x → each kids m (length (rows_of p x)) ≡ rows_of p x
        → ranged_lists p lent s g ≡ form_means (form (pieces_of p) (pieces_lawful p w)) s h x
    unfolding ranged_lists form form_means C.list
    lists_so (tail l) w d m q e = refl
    lists_so (range l i k r p) w {s} {g} {h} {x} d m q e =
        let y = list_was l k r (pieces_of p) (pieces_lawful (range l i k r p) w) d in
        let (a, b) = list_stands l i k r p w x m e in
        let c = (λ z. each (r.means lent s) (q.0 z) (q.1 z)) ∙ w.0.laid_at s x.0 y.had lent m a in
        λ z. (c z, lists_so p w.1 (rest_was l k r (pieces_of p) (pieces_lawful (range l i k r p) w) d) (m + length x.0) q.2 b z)

    ready_so : {T M : Type 0} (p : Ranges T M) (w : LawfulRanges p) {s : List ℕ} {g h : Columns} {x : T} → Was (pieces_of p) (pieces_lawful p w) s g h x → (m : ℕ)
        → Ranged p g m x → each kids m (length (rows_of p x)) ≡ rows_of p x
        → Cleans (form (pieces_of p) (pieces_lawful p w)) (range_breaks p w lent s g)
    unfolding form range_breaks Cleans
    ready_so (tail l) w d m q e = tt
    ready_so (range l i k r p) w {s} {g} {h} {x} d m q e =
        let y = list_was l k r (pieces_of p) (pieces_lawful (range l i k r p) w) d in
        let (a, b) = list_stands l i k r p w x m e in
        let c = (λ z. clean (rows (r.acts lent s) (q.0 z) (q.1 z))) ∙ w.0.ready_at s x.0 y.had lent m a in
        (c, ready_so p w.1 (rest_was l k r (pieces_of p) (pieces_lawful (range l i k r p) w) d) (m + length x.0) q.2 b)

-- ---- lists

total_rows : (ts : List Rows) → length (flat_map (λ (t : Rows). t.rows) ts) ≡ total (needs ts)
unfolding needs total flat_map
total_rows [] = refl
total_rows (t ∷ ts) = length-append t.rows (flat_map (λ (t : Rows). t.rows) ts) ∙ ap (λ (n : ℕ). length t.rows + n) (total_rows ts)

map_first : {A B : Type 0} (f : A → B) (size : A → ℕ) (n : ℕ) (l : List A) → map (λ q. f q.1) (firsts size n l) ≡ map f l
unfolding firsts
map_first f size n [] = refl
map_first {B = B} f size n (x ∷ l) = ap (λ (r : List B). f x ∷ r) (map_first f size (n + size x) l)

every_below : {A : Type 0} (size : A → ℕ) (n : ℕ) (l : List A) → sum size l ≤ n → Every (λ (x : A). size x ≤ n) l
unfolding sum
every_below size n [] h = all_nil
every_below size n (x ∷ l) h = let i : size x ≤ n = omega (arith, h) in all_cons i (every_below size n l (omega (arith, h)))

-- ---- the row type

-- the columns that are read in any case, of all its pieces
unfoldable pub sure_columns : {T M : Type 0} → Form T M → List ℕ
sure_columns (last l) = sure l
sure_columns (hole l k m r) = sure l ++ sure_columns r

sure_on : {T M : Type 0} (x : Form T M) (g : Columns) {f : Columns} → On (columns (form_shown x g)) f g → On (sure_columns x) f g
unfolding sure_columns form_shown
sure_on (last l) g o = sure_shown l g o
sure_on (hole l k m r) g o = let (a, b) = cells_on (shown l g) (form_shown r g) o in on_both (sure l) (sure_columns r) (sure_shown l g a) (sure_on r g b)

module _ {T M : Type 0} (n : ℕ) (p : Ranges T M) (kid : Heeded) (w : LawfulRanges kid p) where
  abbrev x : Form T M
  x = form (pieces_of p) (pieces_lawful kid p w)

  -- the one test of a row with lists
  unfoldable pub range_test : Bool
  range_test =
      form_proper [] x && (below n (form_all x) && (below n (firsts_of p) && (distinct (firsts_of p) && (free (form_all x) (firsts_of p) && (counts_test p (sure_columns x) && (leb 1 (weights (pieces_of p)) && (ltb 0 n && ltb 0 kid.columns)))))))

  pub record RangeTests : Type 0 where
    pub proper : form_proper [] x ≡ true
    pub low : below n (form_all x) ≡ true
    pub firsts_low : below n (firsts_of p) ≡ true
    pub firsts_distinct : distinct (firsts_of p) ≡ true
    pub apart : Apart (form_all x) (firsts_of p)
    pub counts : counts_test p (sure_columns x) ≡ true
    pub heavy : 1 ≤ weights (pieces_of p)
    pub wide : 0 < n
    pub kid_wide : 0 < kid.columns

  pub range_tests : range_test ≡ true → RangeTests
  unfolding range_test
  range_tests e =
      let (a, e₀) = and_both (form_proper [] x) _ e in
      let (b, e₁) = and_both (below n (form_all x)) _ e₀ in
      let (c, e₂) = and_both (below n (firsts_of p)) _ e₁ in
      let (d, e₃) = and_both (distinct (firsts_of p)) _ e₂ in
      let (f, e₄) = and_both (free (form_all x) (firsts_of p)) _ e₃ in
      let (g, e₅) = and_both (counts_test p (sure_columns x)) _ e₄ in
      let (h, e₆) = and_both (leb 1 (weights (pieces_of p))) _ e₅ in
      let (i, j) = and_both (ltb 0 n) _ e₆ in
      record { proper = a; low = b; firsts_low = c; firsts_distinct = d; apart = free_apart (form_all x) (firsts_of p) f; counts = g; heavy = leb-true _ _ h; wide = ltb-true _ _ i; kid_wide = ltb-true _ _ j }

module _ {T M : Type 0} (t u n : ℕ) (p : Ranges T M) (kid : Heeded) (w : LawfulRanges kid p) (passes : range_test n p kid w ≡ true) where
  abbrev tests : RangeTests n p kid w
  tests = range_tests n p kid w passes

  abbrev y : Form T M
  y = form (pieces_of p) (pieces_lawful kid p w)

  abbrev q : RowType (List ℕ × T) (List ℕ × M)
  q = ranged_rows n p t u kid

  abbrev Tree : Type 0
  Tree = List ℕ × T

  unfoldable pub range_codec : Codec Tree (List ℕ × M)
  range_codec = rows_codec n y blank tests.proper tests.low (λ j h. refl)

  abbrev size : Tree → ℕ
  size a = length (rows_of p a.1)

  -- ---- its actions

  kept_counts : (g : Columns) → Counts p g (kept (layouts (pieces_of p)) g blank)
  kept_counts g =
      let o : On (columns (form_shown y g)) (kept (layouts (pieces_of p)) g blank) g = λ j e. ap (λ (f : Columns). f j) (kept_so (pieces_of p) (pieces_lawful kid p w) n blank tests.proper tests.low (λ j h. refl) g) ∙ mix_in (columns (form_shown y g)) g blank j e in
      counts_on p (sure_columns y) tests.counts g (kept (layouts (pieces_of p)) g blank) (λ j e. sym (sure_on y g o j e))

  range_spells : (room : ℕ) (lent : Lent) (store : List ℕ) (g : Columns) → clean (ranged_acts n p room lent store g) ≡ true
      → Spells range_codec (ranged_acts n p room lent store g) (ranged_means n p lent store g)
  unfolding range_codec
  range_spells room lent store g =
      record_spells (pieces_of p) (pieces_lawful kid p w) n blank tests.proper tests.low (λ j h. refl) (all_inside p room g) g (range_breaks kid p w lent store g) (ranged_lists p lent store g) (bytes_so kid p w lent store g)
      (λ i e. holes_so kid p w lent store g (kept (layouts (pieces_of p)) g blank) (kept_counts g) e)

  -- columns that agree where writing reads
  heeds_on : (g : Columns) → On (columns (form_shown y g)) g (of (ranged_heeds n p g))
  heeds_on g j e = go (has j (form_all y)) refl
    where
      k : Columns
      k = kept (layouts (pieces_of p)) g blank

      go : (b : Bool) → has j (form_all y) ≡ b → g j ≡ of (ranged_heeds n p g) j
      go false z = clash e (form_shown_in y g j z)
      go true z =
          let a = row_on n (form_all y) tests.low (ranged_heeds n p g) (mix (firsts_of p) g k) refl j z ∙ mix_out (firsts_of p) g k j (tests.apart j z) in
          let c = ap (λ (f : Columns). f j) (kept_so (pieces_of p) (pieces_lawful kid p w) n blank tests.proper tests.low (λ j h. refl) g) in
          sym (a ∙ c ∙ mix_in (columns (form_shown y g)) g blank j e)

  heeds_firsts : (g : Columns) → Firsts p g (of (ranged_heeds n p g))
  heeds_firsts g =
      firsts_on p g (of (ranged_heeds n p g))
      (λ j e. sym (row_on n (firsts_of p) tests.firsts_low (ranged_heeds n p g) (mix (firsts_of p) g (kept (layouts (pieces_of p)) g blank)) refl j e ∙ mix_in (firsts_of p) g (kept (layouts (pieces_of p)) g blank) j e))

  range_kept : (room : ℕ) (lent : Lent) (store : List ℕ) (g : Columns) → ranged_acts n p room lent store g ≡ ranged_acts n p room lent store (of (ranged_heeds n p g))
  range_kept room lent store g =
      let h = of (ranged_heeds n p g) in
      let o = heeds_on g in
      let c : Counts p g h = counts_on p (sure_columns y) tests.counts g h (λ j e. sym (sure_on y g {f = h} (λ j e. sym (o j e)) j e)) in
      let s = same_so kid p w lent store g h (heeds_firsts g) c in
      record_alike (pieces_of p) (pieces_lawful kid p w) n blank tests.proper tests.low (λ j h. refl) g h o (s.inside room) (range_breaks kid p w lent store g) (range_breaks kid p w lent store h) s.breaks (bytes_so kid p w lent store g) (bytes_so kid p w lent store h)

  -- ---- a list of them that a program took

  reads_so : range_codec.read ≡ q.reads
  unfolding range_codec rows_codec
  reads_so = form_goes y blank (λ v. ret (row n v.0, v.1)) ∙ parse_goes (pieces_of p) (pieces_lawful kid p w) blank (λ g y. ret (row n g, y))

  one_grown : (at : ℕ) (a : Tree) (bs : List ℕ) → Takes q.reads at a bs → Grown (pieces_of p) a.1 bs
  unfolding range_codec rows_codec
  one_grown at a bs d =
      let d' = subst (λ (r : Prog Tree). Takes r at a bs) (sym reads_so) d in
      let (z, e, f) = map_takes {B = Tree} (form_read y blank) (λ v. (row n v.0, v.1)) d' in
      subst (λ (a : Tree). Grown (pieces_of p) a.1 bs) e (grown (pieces_of p) (pieces_lawful kid p w) blank at z bs f)

  parents : List Tree → List (List ℕ)
  parents xs = map (ranged_row n p) (firsts size 0 xs)

  parents_wide : (xs : List Tree) → Every (Wide n) (parents xs)
  unfolding parents
  parents_wide xs = each_wide n (λ (y : ℕ × Tree). ranged p y.0 y.1.1 (of y.1.0)) (firsts size 0 xs)

  parents_long : (xs : List Tree) → length (parents xs) ≡ length xs
  unfolding parents
  parents_long xs = length-map (firsts size 0 xs) (ranged_row n p) ∙ firsts_length size 0 xs

  range_took : {k at : ℕ} {xs : List Tree} {bs : List ℕ} → Listed q.reads k at xs bs → Took (q.tables xs) bs
  unfolding needs total parents
  range_took {xs = xs} {bs} k₀ =
      let heavy : (at : ℕ) (a : Tree) (bs : List ℕ) → Takes q.reads at a bs → 1 + size a ≤ length bs = λ at a bs d. omega (arith, (one_grown at a bs d).heavy, tests.heavy, total_rows (tables (pieces_of p) a.1)) in
      record {
        shaped = all_cons (parents_wide xs) (all_cons (every_flat (λ (a : Tree). rows_of p a.1) (Wide kid.columns) xs (listed_every q.reads (λ a. Every (Wide kid.columns) (rows_of p a.1)) (λ at a bs d. shaped_wide kid p w a.1 (one_grown at a bs d).shaped) k₀)) all_nil);
        few = omega (arith, listed_sum q.reads (λ a. 1 + size a) heavy k₀, parents_long xs, sum_suc size xs, flat_length (λ (a : Tree). rows_of p a.1) xs);
      }

  -- ---- a list of them that was read of the body s, in its tables

  module _ (s : List ℕ) where
    abbrev StoodSo : Tree → Type 0
    StoodSo a = Good range_codec (range_codec.means s a) × Every (Within s) (payloads (pieces_of p) a.1)

    was : (a : Tree) (g : Columns) → StoodSo a → Was (pieces_of p) (pieces_lawful kid p w) s g (of a.0) a.1
    unfolding range_codec rows_codec RowFits
    was a g h = record { stood = stood p a.1 g; fits = h.0.0.2; sound = h.0.1; within = h.1 }

    had : {xs : List Tree} → Had q range_codec s xs → Every StoodSo xs
    unfolding flat_map
    had {xs} h = every_and (λ a. Good range_codec (range_codec.means s a)) (λ a. Every (Within s) (payloads (pieces_of p) a.1)) h.good (every_parts xs h.inside)
      where
        every_parts : (xs : List Tree) → Every (Within s) (flat_map (λ (a : Tree). payloads (pieces_of p) a.1) xs)
            → Every (λ (a : Tree). Every (Within s) (payloads (pieces_of p) a.1)) xs
        every_parts [] e = all_nil
        every_parts (a ∷ xs) e = all_cons (every_left (Within s) (payloads (pieces_of p) a.1) _ e) (every_parts xs (every_right (Within s) (payloads (pieces_of p) a.1) _ e))

    -- a row of the table
    module _ (z : ℕ × Tree) (h : StoodSo z.1) (g : Columns) (e : row n g ≡ ranged_row n p z) where
      abbrev full : Columns
      full = ranged p z.0 z.1.1 (of z.1.0)

      row_agrees : On (form_all y) (of z.1.0) g
      row_agrees j o =
          sym (row_on n (form_all y) tests.low (ranged_row n p z) full refl j o ∙ ranged_else p z.0 z.1.1 (of z.1.0) j (tests.apart j o))
          ∙ row_on n (form_all y) tests.low (ranged_row n p z) g e j o

      agrees_shown : On (columns (form_shown y (of z.1.0))) (of z.1.0) g
      agrees_shown = on_all y (of z.1.0) g row_agrees

      has_ranges : Ranged p g z.0 z.1.1
      has_ranges =
          ranged_so kid p w (was z.1 g h) tests.firsts_distinct z.0 (of z.1.0)
          (λ j o. sym (row_on n (firsts_of p) tests.firsts_low (ranged_row n p z) full refl j o) ∙ row_on n (firsts_of p) tests.firsts_low (ranged_row n p z) g e j o)
          (counts_on p (sure_columns y) tests.counts (of z.1.0) g (λ j o. sym (sure_on y (of z.1.0) {f = g} (λ j o. sym (agrees_shown j o)) j o)))

      module _ (lent : Lent) (stand : each (kids kid lent) z.0 (size z.1) ≡ rows_of p z.1.1) where
        row_means : ranged_means n p lent s g ≡ range_codec.means s z.1
        unfolding range_codec rows_codec
        row_means =
            let c = range_codec.means s z.1 in
            let a =
            ap (row n) (kept_so (pieces_of p) (pieces_lawful kid p w) n blank tests.proper tests.low (λ j h. refl) g)
            ∙ means_again n y blank tests.proper tests.low (λ j h. refl) c h.0.0 g agrees_shown in
            let b = lists_so kid lent p w (was z.1 g h) z.0 has_ranges stand in
            λ i. (a i, b i)

        row_clean : (room : ℕ) → z.0 + size z.1 ≤ room → clean (ranged_acts n p room lent s g) ≡ true
        unfolding range_codec rows_codec
        row_clean room l =
            let c = range_codec.means s z.1 in
            let f = row_ready n y blank tests.proper tests.low (λ j h. refl) c h.0.0 h.0.1 g agrees_shown in
            record_ready (pieces_of p) (pieces_lawful kid p w) n blank tests.proper tests.low (λ j h. refl) (range_breaks kid p w lent s g) (bytes_so kid p w lent s g) (inside_so kid p w g z.0 z.1.1 has_ranges room l) f
            (ready_so kid lent p w (was z.1 g h) z.0 has_ranges stand)

    module _ (xs : List Tree) (h : Every StoodSo xs) (behind : List ℕ) (lent : Lent) (beneath : List ℕ) (lower : first_table lent ≡ flatten (flat_map (λ (a : Tree). rows_of p a.1) xs) ++ beneath) where
      abbrev upper : List ℕ
      upper = flatten (parents xs) ++ behind

      abbrev lists : List (List ℕ)
      lists = flat_map (λ (a : Tree). rows_of p a.1) xs

      abbrev Standing : ℕ × Tree → Type 0
      Standing z = (StoodSo z.1 × (z.0 + size z.1 ≤ 0 + sum size xs)) × (each (kids kid lent) z.0 (size z.1) ≡ rows_of p z.1.1)

      lists_wide : Every (Wide kid.columns) lists
      lists_wide =
          every_flat (λ (a : Tree). rows_of p a.1) (Wide kid.columns) xs
          (every_as StoodSo (λ a. Every (Wide kid.columns) (rows_of p a.1)) (λ a g. read_wide kid p w (was a blank g)) h)

      standing : Every Standing (firsts size 0 xs)
      standing =
          let B : ℕ × Tree → Type 0 = λ z. z.0 + size z.1 ≤ 0 + sum size xs in
          let S : ℕ × Tree → Type 0 = λ z. each (kids kid lent) z.0 (size z.1) ≡ rows_of p z.1.1 in
          let f =
          subst (λ (t : List ℕ). each (λ i. row kid.columns (at kid.columns t i)) 0 (length lists) ≡ lists) (sym lower) (found kid.columns lists lists_wide beneath) in
          every_and (λ z. StoodSo z.1 × B z) S (every_and (λ z. StoodSo z.1) B (every_firsts size 0 StoodSo xs h) (firsts_below size 0 xs))
          (kids_stand (kids kid lent) (λ (a : Tree). rows_of p a.1) xs 0 f)

      parents_stand : each (λ i. row n (at n upper i)) 0 (length xs) ≡ map (ranged_row n p) (firsts size 0 xs)
      unfolding parents
      parents_stand =
          subst (λ (m : ℕ). each (λ i. row n (at n upper i)) 0 m ≡ map (ranged_row n p) (firsts size 0 xs)) (parents_long xs) (found n (parents xs) (parents_wide xs) behind)

      range_laid : each (λ i. ranged_means n p lent s (at n upper i)) 0 (length xs) ≡ map (range_codec.means s) xs
      range_laid =
          each_as Standing (ranged_row n p) (λ i. row n (at n upper i)) (λ i. ranged_means n p lent s (at n upper i)) (λ z. range_codec.means s z.1)
          (λ i z e g. row_means z g.0.0 (at n upper i) e lent g.1) 0 (length xs) (firsts size 0 xs) parents_stand standing
          ∙ map_first (range_codec.means s) size 0 xs

      range_ready : clean (rows (λ i. ranged_acts n p (length (first_table lent) / kid.columns) lent s (at n upper i)) 0 (length xs)) ≡ true
      range_ready =
          let long : sum size xs ≤ length (first_table lent) / kid.columns =
          subst (λ (t : List ℕ). sum size xs ≤ length t / kid.columns) (sym lower)
          (omega (arith, room_for kid.columns lists beneath tests.kid_wide lists_wide, flat_length (λ (a : Tree). rows_of p a.1) xs)) in
          each_clean Standing (ranged_row n p) (λ i. row n (at n upper i)) (λ i. ranged_acts n p (length (first_table lent) / kid.columns) lent s (at n upper i))
          (λ i z e g. row_clean z g.0.0 (at n upper i) e lent g.1 (length (first_table lent) / kid.columns) (omega (arith, g.0.1, long))) 0 (length xs)
          (firsts size 0 xs) parents_stand standing

    -- ---- what the code's types can hold

    tree_small : (a : Tree) → StoodSo a → (j : ℕ) → of a.0 j < 65536
    unfolding range_codec rows_codec
    tree_small a h = row_columns n y blank tests.proper tests.low (λ j h. refl) (λ j. omega arith) (range_codec.means s a) h.0.0 h.0.1

    range_columns : (xs : List Tree) → Every StoodSo xs → length s < 65536 → total (needs (q.tables xs)) < 65536
        → Every (λ (r : Rows). Every (Every Column) r.rows) (q.tables xs)
    unfolding needs total
    range_columns xs h small few =
        let B : ℕ × Tree → Type 0 = λ z. z.0 + size z.1 ≤ 0 + sum size xs in
        let k : sum size xs < 65536 = omega (arith, few, flat_length (λ (a : Tree). rows_of p a.1) xs) in
        let one : (a : Tree) → StoodSo a × (size a ≤ sum size xs) → Every (Every Column) (rows_of p a.1) = λ a g.
        every_flat (λ (r : Rows). r.rows) (Every Column) (tables (pieces_of p) a.1)
        (columns_so (pieces_of p) (pieces_lawful kid p w) (was a blank g.0) small (omega (arith, g.1, k, total_rows (tables (pieces_of p) a.1))))
        in
        all_cons
        (every_map (ranged_row n p) (Every Column) (firsts size 0 xs) (every_as (λ z. StoodSo z.1 × B z) (λ z. Every Column (ranged_row n p z))
        (λ z g. each_every Column (ranged p z.0 z.1.1 (of z.1.0)) 0 n (ranged_small kid p w z.0 z.1.1 (of z.1.0) (omega (arith, g.1, k)) (tree_small z.1 g.0)))
        (every_and (λ z. StoodSo z.1) B (every_firsts size 0 StoodSo xs h) (firsts_below size 0 xs))))
        (all_cons (every_flat (λ (a : Tree). rows_of p a.1) (Every Column) xs (every_as (λ a. StoodSo a × (size a ≤ sum size xs)) (λ a. Every (Every Column) (rows_of p a.1)) one (every_and StoodSo (λ a. size a ≤ sum size xs) h (every_below size (sum size xs) xs (omega arith))))) all_nil)

  range_heeds : (hs : List Heeded) {lent lent' : Lent} → Agree (q.heeded ++ hs) lent lent' → SameRows q lent lent'
  range_heeds hs {lent} {lent'} a =
      let e = agrees a in
      let d = agrees e.rest in
      let f : (store : List ℕ) (g : Columns) → ranged_acts n p (length (first_table (other_tables lent)) / kid.columns) (other_tables lent) store g ≡ ranged_acts n p (length (first_table (other_tables lent')) / kid.columns) (other_tables lent') store g = λ store g z.
      demand F.Range (all_inside p (d.long z / kid.columns) g) ∷ demands (layouts (pieces_of p)) g ++ table_heeds kid p w e.rest store g z
      in
      record {
        long = e.long;
        acts = λ store z i.
            let room = length (first_table (other_tables lent)) / kid.columns in
            (range_kept room (other_tables lent) store (at n (first_table lent) i) ∙ (λ z. ranged_acts n p room (other_tables lent) store (of (e.same i z))) ∙ sym (range_kept room (other_tables lent) store (at n (first_table lent') i)) ∙ f store (at n (first_table lent') i)) z;
      }

  -- what is left of both tables behind their rows
  abbrev behind : List Tree → Lent → List ℕ
  behind xs lent = drop (length (flatten (parents xs))) (first_table lent)

  abbrev beneath : List Tree → Lent → List ℕ
  beneath xs lent = drop (length (flatten (flat_map (λ (a : Tree). rows_of p a.1) xs))) (first_table (other_tables lent))

  pub range_lawful : LawfulRows q
  unfolding range_codec rows_codec filled first_table other_tables parents
  range_lawful = record {
    codec = range_codec;
    reads = reads_so;
    spans = λ a. spans_so (pieces_of p) (pieces_lawful kid p w) (of a.0) a.1;
    spells = λ lent store i. range_spells (length (first_table (other_tables lent)) / kid.columns) (other_tables lent) store (at n (first_table lent) i);
    heeds = range_heeds;
    all_there = λ xs. refl;
    grows = range_took;
    laid = λ s xs h more lent. range_laid s xs (had s h) (behind xs lent) (other_tables (filled (q.tables xs ++ more) lent)) (beneath xs lent) refl;
    ready = λ s xs h more lent. range_ready s xs (had s h) (behind xs lent) (other_tables (filled (q.tables xs ++ more) lent)) (beneath xs lent) refl;
    room = λ s xs h more lent. omega (arith, room_for n (parents xs) (behind xs lent) tests.wide (parents_wide xs), parents_long xs);
    columns_so = λ s xs h. range_columns s xs (had s h);
  }
