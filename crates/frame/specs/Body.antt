-- A kind from its syntax tables: the top record in pieces, each a layout, and what stands behind them, lists of rows or a payload. All that has to be believed of a kind (Kind) follows from them.
use Rattle.std.specs.Prelude.{ℕ, zero, suc, ◌+◌, ◌/◌, Bool, true, false, ◌&&◌, length, eqb, leb}
use mathlib.Core.List.{List, [], ◌∷◌, ◌++◌, flat_map, map}
use Rattle.std.proofs.Math.Option.{Option, none, some}
use Rattle.std.proofs.Math.Seq.{slice}
use Rattle.wire.specs.Lists.{each, sum}
use Rattle.wire.specs.Bits.{field}
use Rattle.wire.specs.Prog.{Prog, ret, u8, pass, many, span, ◌>>=◌}
use Rattle.wire.specs.Act.{Act, demand, byte, copy, pick, rows}
use Rattle.wire.specs.declared.pen.Fault.TheVariants as F
use Rattle.wire.specs.declared.rows.Payload.{Payload}
use Rattle.wire.specs.Layout.{Layout, Columns, of, from, at, row, set, reads, writes, demands, tally, kept, blank, flat, flat_acts, flat_means, Broken, broken, broken_heeds, Family, parents, kids, family_tally, family_acts_of, family_means_of, Bearing, Borne, bearing, bearing_acts, bearing_means, bearing_heeds, borne_row, borne_tally}
use Rattle.frame.specs.Kind.{Kind, Lent, Rows, Bound, Heeded}
use Rattle.frame.specs.Entry.{first_table, other_tables}

-- ---- the rows of a list

-- A is what is read of a row, C what it means. A list fills tables of its own; its rows stand in the first of them.
pub record RowType (A C : Type 0) : Type 0 where
  pub reads : Prog A
  pub payloads : A → List Payload
  pub zeros : A → ℕ
  pub tables : List A → List Rows
  -- writing, from the list's tables and the store: the columns of a row, what row i is written as, what it means, and what writing reads of the rows of each table
  pub columns : ℕ
  pub acts : Lent → List ℕ → ℕ → List Act
  pub means : Lent → List ℕ → ℕ → C
  pub heeded : List Heeded

abbrev pub tabled : (number columns : ℕ) → List (List ℕ) → Rows
tabled t n l = record { number = t; columns = n; rows = l }

abbrev pub heeding : ℕ → (Columns → List ℕ) → Heeded
heeding n f = record { columns = n; row = λ t b. f (from t b) }

-- writing sees the columns of a row as they are
abbrev pub plainly : Columns → Columns
plainly g = g

-- rows of n columns in table t
abbrev pub flat_row_type : (t n : ℕ) → Layout → RowType (List ℕ) (List ℕ)
flat_row_type t n l = record {
  reads = flat n l;
  payloads = λ r. [];
  zeros = λ r. tally (l ∷ []) (of r);
  tables = λ rs. tabled t n rs ∷ [];
  columns = n;
  acts = λ lent store i. flat_acts l (at n (first_table lent) i);
  means = λ lent store i. flat_means n l (at n (first_table lent) i);
  heeded = heeding n (flat_means n l) ∷ [];
}

-- rows in table t with rows of n columns in table u; `seen` is how writing sees the columns of a row
abbrev pub family_rows : (t u : ℕ) → (Columns → Columns) → Broken → (n : ℕ) → Layout → RowType Family Family
family_rows t u seen b n l = record {
  reads = broken b (flat n l);
  payloads = λ x. [];
  zeros = family_tally b l;
  tables = λ xs. tabled t b.width (parents b xs) ∷ tabled u n (kids xs) ∷ [];
  columns = b.width;
  acts = λ lent store i. family_acts_of b n l (first_table (other_tables lent)) (seen (at b.width (first_table lent) i));
  means = λ lent store i. family_means_of b n l (first_table (other_tables lent)) (seen (at b.width (first_table lent) i));
  heeded = heeding b.width (λ g. broken_heeds b (seen g)) ∷ heeding n (flat_means n l) ∷ [];
}

-- rows in table t that end with a payload
abbrev pub bearer_rows : (t : ℕ) → (Columns → Columns) → Bearing → RowType Borne (List ℕ × List ℕ)
bearer_rows t seen b = record {
  reads = bearing b;
  payloads = λ x. x.1 ∷ [];
  zeros = borne_tally b;
  tables = λ xs. tabled t b.width (map (borne_row b) xs) ∷ [];
  columns = b.width;
  acts = λ lent store i. bearing_acts b store (seen (at b.width (first_table lent) i));
  means = λ lent store i. bearing_means b store (seen (at b.width (first_table lent) i));
  heeded = heeding b.width (λ g. bearing_heeds b (seen g)) ∷ [];
}

-- ---- the top record in pieces

-- T is what is read behind the pieces, M what it means
-- list: rows, as many as a column says, from row 0 of their table on
-- carrying: if a flag is set, a length byte and so many bytes of any content; columns hold their offset and their length
pub data Pieces : Type 0 → Type 0 → Type 1 where
  last : Layout → Pieces (Unit {0}) (Unit {0})
  carrying : Layout → (present offset size : ℕ) → Pieces (Option Payload × Unit {0}) (Option (List ℕ) × Unit {0})
  list : {A C T M : Type 0} → Layout → (count : ℕ) → RowType A C → Pieces T M → Pieces (List A × T) (List C × M)

-- one list after the other, as they stand on the page
infixr 5 ◌▸◌
abbrev pub ◌▸◌ : {A B : Type 1} → (A → B) → A → B
f ▸ x = f x

unfoldable pub layouts : {T M : Type 0} → Pieces T M → List Layout
layouts (last l) = l ∷ []
layouts (carrying l j o n) = l ∷ []
layouts (list l k r p) = l ∷ layouts p

-- ---- reading

unfoldable pub carried : Bool → Prog (Option Payload)
carried false = ret none
carried true = do
  n ← u8
  p ← pass n
  ret (some (span p n))

-- piece after piece; `all` is what is done with all that was read
unfoldable pub parse : {T M B : Type 0} → Pieces T M → Columns → (Columns → T → Prog B) → Prog B
parse (last l) f all = do
  g ← reads l f
  all g tt
parse (carrying l j o n) f all = do
  g ← reads l f
  x ← carried (eqb (g j) 1)
  all g (x, tt)
parse (list l k r p) f all = do
  g ← reads l f
  x ← many (g k) r.reads
  parse p g (λ h y. all h (x, y))

abbrev pub offset_of : Option Payload → ℕ
offset_of none = 0
offset_of (some x) = x.offset

abbrev pub length_of : Option Payload → ℕ
length_of none = 0
length_of (some x) = x.length

-- the columns of the record, with the place of its payload
unfoldable pub with_place : {T M : Type 0} → Pieces T M → T → Columns → Columns
with_place (last l) x g = g
with_place (carrying l j o n) x g = set o (offset_of x.0) (set n (length_of x.0) g)
with_place (list l k r p) x g = with_place p x.1 g

abbrev pub given : Option Payload → List Payload
given none = []
given (some x) = x ∷ []

unfoldable pub payloads : {T M : Type 0} → Pieces T M → T → List Payload
payloads (last l) x = []
payloads (carrying l j o n) x = given x.0
payloads (list l k r p) x = flat_map r.payloads x.0 ++ payloads p x.1

unfoldable pub zeros : {T M : Type 0} → Pieces T M → T → ℕ
zeros (last l) x = 0
zeros (carrying l j o n) x = 0
zeros (list l k r p) x = sum r.zeros x.0 + zeros p x.1

unfoldable pub tables : {T M : Type 0} → Pieces T M → T → List Rows
tables (last l) x = []
tables (carrying l j o n) x = []
tables (list l k r p) x = r.tables x.0 ++ tables p x.1

-- ---- writing: g are the columns, m those that mean something, lent the tables of the lists to come

unfoldable pub heeded_rows : {T M : Type 0} → Pieces T M → List Heeded
heeded_rows (last l) = []
heeded_rows (carrying l j o n) = []
heeded_rows (list l k r p) = r.heeded ++ heeded_rows p

-- the tables one by one, and those behind the tables of a list
abbrev pub table : ℕ → Lent → List ℕ
table zero lent = first_table lent
table (suc k) lent = table k (other_tables lent)

unfoldable pub beyond : List Heeded → Lent → Lent
beyond [] lent = lent
beyond (h ∷ hs) lent = beyond hs (other_tables lent)

abbrev pub run : Columns → (offset size : ℕ) → List ℕ → List ℕ
run g o n store = slice (g o) (g o + g n) store

-- whether the rows stand in their tables, and a payload in the store
unfoldable pub inside : {T M : Type 0} → Pieces T M → Columns → Columns → Lent → List ℕ → Bool
inside (last l) g m lent store = true
inside (carrying l j o n) g m lent store = pick (eqb (m j) 1) (leb (g o + g n) (length store)) true
inside (list l k r p) g m lent store = leb (m k) (length (first_table lent) / r.columns) && inside p g m (beyond r.heeded lent) store

unfoldable pub pieced : {T M : Type 0} → Pieces T M → Columns → Columns → Lent → List ℕ → List Act
pieced (last l) g m lent store = writes l g
pieced (carrying l j o n) g m lent store = writes l g ++ pick (eqb (m j) 1) (byte (field 8 (g n) ∷ []) ∷ copy (run g o n store) ∷ []) []
pieced (list l k r p) g m lent store = writes l g ++ (rows (r.acts lent store) 0 (m k) ++ pieced p g m (beyond r.heeded lent) store)

unfoldable pub means : {T M : Type 0} → Pieces T M → Columns → Columns → Lent → List ℕ → M
means (last l) g m lent store = tt
means (carrying l j o n) g m lent store = (pick (eqb (m j) 1) (some (run g o n store)) none, tt)
means (list l k r p) g m lent store = (each (r.means lent store) 0 (m k), means p g m (beyond r.heeded lent) store)

-- what writing reads of the record: f, and the place of a payload if there is one
unfoldable pub heeds : {T M : Type 0} → Pieces T M → Columns → Columns → Columns → Columns
heeds (last l) g m f = f
heeds (carrying l j o n) g m f = set o (pick (eqb (m j) 1) (g o) 0) (set n (pick (eqb (m j) 1) (g n) 0) f)
heeds (list l k r p) g m f = heeds p g m f

-- ---- the kind: the columns of its record, its pieces, the columns that reading starts from (what is not listed is 0), and the record that the code declares

pub record Body (T M Top : Type 0) : Type 1 where
  pub columns : ℕ
  pub pieces : Pieces T M
  pub absent : List ℕ
  pub fields : Top → List ℕ
  pub made : List ℕ → Payload → Top
  pub trailing : Top → Payload
  pub retrail : Top → Payload → Top
  pub bounds : Top → List Bound

module _ {T M Top : Type 0} (b : Body T M Top) where
  -- the columns that mean something: those of the parts that are there
  abbrev pub counts : Columns → Columns
  counts g = kept (layouts b.pieces) g (of b.absent)

  abbrev pub acts_of : Columns → Lent → List ℕ → List Act
  acts_of g lent store = demand F.Range (inside b.pieces g (counts g) lent store) ∷ demands (layouts b.pieces) g ++ pieced b.pieces g (counts g) lent store

  abbrev pub value_of : Columns → Lent → List ℕ → List ℕ × M
  value_of g lent store = (row b.columns (counts g), means b.pieces g (counts g) lent store)

  abbrev pub heeds_of : Columns → List ℕ
  heeds_of g = row b.columns (heeds b.pieces g (counts g) (kept (layouts b.pieces) g blank))

  abbrev pub kind : Kind (List ℕ × T) Top (List ℕ × M)
  kind = record {
    program = parse b.pieces (of b.absent) (λ g x. ret (row b.columns g, x));
    top = λ t run. b.made (row b.columns (with_place b.pieces t.1 (of t.0))) run;
    trailing = b.trailing;
    retrail = b.retrail;
    lends = length (heeded_rows b.pieces);
    tables = λ t. tables b.pieces t.1;
    payloads = λ t. payloads b.pieces t.1;
    zeros = λ t. tally (layouts b.pieces) (of t.0) + zeros b.pieces t.1;
    acts = λ m lent store. acts_of (of (b.fields m)) lent store;
    value = λ m lent store. value_of (of (b.fields m)) lent store;
    heeded = λ m. b.made (heeds_of (of (b.fields m))) (b.trailing m);
    heeded_rows = heeded_rows b.pieces;
    bounds = b.bounds;
  }
