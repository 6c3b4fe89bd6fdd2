-- Rows in pieces, with rows of another table behind each piece but the last: a column of the row has the first of them, another how many there are. All the lists of a row stand in one table, one
-- after the other.
use Rattle.std.specs.Prelude.{ℕ, ◌+◌, ◌/◌, Bool, true, ◌&&◌, length, leb}
use mathlib.Core.List.{List, [], ◌∷◌, ◌++◌, flat_map, map}
use Rattle.wire.specs.Lists.{each, firsts}
use Rattle.wire.specs.Prog.{ret}
use Rattle.wire.specs.Act.{Act, demand, rows}
use Rattle.wire.specs.declared.pen.Fault.TheVariants as F
use Rattle.wire.specs.Layout.{Layout, Columns, of, at, row, set, writes, demands, tally, mix, kept, blank}
use Rattle.frame.specs.Kind.{Lent, Rows, Heeded}
use Rattle.frame.specs.Entry.{first_table, other_tables}
use Rattle.frame.specs.Body.{RowType, tabled, heeding, Pieces, last, list, layouts, parse, payloads, zeros, tables}

-- T is what is read at the lists, M what it means
pub data Ranges : Type 0 → Type 0 → Type 1 where
  tail : Layout → Ranges (Unit {0}) (Unit {0})
  range : {A C T M : Type 0} → Layout → (first count : ℕ) → RowType A C → Ranges T M → Ranges (List A × T) (List C × M)

-- reading is that of a record in pieces
abbrev pub pieces_of : {T M : Type 0} → Ranges T M → Pieces T M
pieces_of (tail l) = last l
pieces_of (range l i k r p) = list l k r (pieces_of p)

-- the rows of all its lists
abbrev pub rows_of : {T M : Type 0} → Ranges T M → T → List (List ℕ)
rows_of p x = flat_map (λ (t : Rows). t.rows) (tables (pieces_of p) x)

-- the columns of what was read, with the first row of each of its lists, that of the first of them being n
unfoldable pub ranged : {T M : Type 0} → Ranges T M → ℕ → T → Columns → Columns
ranged (tail l) n x g = g
ranged (range l i k r p) n x g = set i n (ranged p (n + length x.0) x.1 g)

-- ---- writing: g are the columns of the row, lent begins with the table of its lists, which has `room` rows

unfoldable pub all_inside : {T M : Type 0} → Ranges T M → ℕ → Columns → Bool
all_inside (tail l) room g = true
all_inside (range l i k r p) room g = leb (g i + g k) room && all_inside p room g

unfoldable pub ranged_bytes : {T M : Type 0} → Ranges T M → Lent → List ℕ → Columns → List Act
ranged_bytes (tail l) lent store g = writes l g
ranged_bytes (range l i k r p) lent store g = writes l g ++ (rows (r.acts lent store) (g i) (g k) ++ ranged_bytes p lent store g)

unfoldable pub ranged_lists : {T M : Type 0} → Ranges T M → Lent → List ℕ → Columns → M
ranged_lists (tail l) lent store g = tt
ranged_lists (range l i k r p) lent store g = (each (r.means lent store) (g i) (g k), ranged_lists p lent store g)

-- the columns of the first rows
unfoldable pub firsts_of : {T M : Type 0} → Ranges T M → List ℕ
firsts_of (tail l) = []
firsts_of (range l i k r p) = i ∷ firsts_of p

-- ---- the row type: rows of n columns in table t, their lists in table u; `kid` is what writing reads of a row there

module _ {T M : Type 0} (n : ℕ) (p : Ranges T M) where
  abbrev pub ranged_row : ℕ × (List ℕ × T) → List ℕ
  ranged_row q = row n (ranged p q.0 q.1.1 (of q.1.0))

  abbrev pub ranged_acts : (room : ℕ) → Lent → List ℕ → Columns → List Act
  ranged_acts room lent store g = demand F.Range (all_inside p room g) ∷ demands (layouts (pieces_of p)) g ++ ranged_bytes p lent store g

  abbrev pub ranged_means : Lent → List ℕ → Columns → List ℕ × M
  ranged_means lent store g = (row n (kept (layouts (pieces_of p)) g blank), ranged_lists p lent store g)

  -- what writing reads of a row: what has a meaning, and the first rows
  abbrev pub ranged_heeds : Columns → List ℕ
  ranged_heeds g = row n (mix (firsts_of p) g (kept (layouts (pieces_of p)) g blank))

  abbrev pub ranged_rows : (t u : ℕ) → Heeded → RowType (List ℕ × T) (List ℕ × M)
  ranged_rows t u kid = record {
    reads = parse (pieces_of p) blank (λ g x. ret (row n g, x));
    payloads = λ x. payloads (pieces_of p) x.1;
    zeros = λ x. tally (layouts (pieces_of p)) (of x.0) + zeros (pieces_of p) x.1;
    tables = λ xs. tabled t n (map ranged_row (firsts (λ x. length (rows_of p x.1)) 0 xs)) ∷ tabled u kid.columns (flat_map (λ x. rows_of p x.1) xs) ∷ [];
    columns = n;
    acts = λ lent store i. ranged_acts (length (first_table (other_tables lent)) / kid.columns) (other_tables lent) store (at n (first_table lent) i);
    means = λ lent store i. ranged_means (other_tables lent) store (at n (first_table lent) i);
    heeded = heeding n ranged_heeds ∷ kid ∷ [];
  }
