-- A row as a syntax table: its bytes in body order, each split into cells that have a column, and what stands only where a flag is set. Reading, writing, the
-- tally, the flags and the meaning of a row are derived from its layout; a row type is its layout.
use Rattle.std.specs.Prelude.{ℕ, ◌+◌, ◌*◌, ◌-◌, ◌/◌, ◌%◌, Bool, true, false, ◌&&◌, ◌||◌, length, get_or, drop, eqb, leb}
use mathlib.Core.List.{List, [], ◌∷◌, ◌++◌, map, flatten, flat_map}
use Rattle.std.proofs.Math.Seq.{slice}
use Rattle.wire.specs.Lists.{each, sum, firsts}
use Rattle.wire.specs.Bits.{Field, field, split, fit, is_flag, zeros}
use Rattle.wire.specs.Prog.{Prog, ret, look, u8, pass, many, span, ◌>>=◌}
use Rattle.wire.specs.Act.{Act, demand, byte, copy, pick, rows}
use Rattle.wire.specs.declared.rows.Payload.{Payload}
use Rattle.wire.specs.declared.pen.Fault.{Fault}
use Rattle.wire.specs.declared.pen.Fault.TheVariants as F

-- a field of w bits with its column: a number, reserved bits, a flag of one bit, a flag that stands upside down, a count that is stored minus one
pub data Cell : Type 0 where
  num : ℕ → ℕ → Cell
  reserved : ℕ → ℕ → Cell
  flag : ℕ → Cell
  unset : ℕ → Cell
  less_one : ℕ → ℕ → Cell

-- line: the bytes of one read, each a list of cells, the first the highest
-- word: a number of two bytes, the high one first, each a read
-- choose: the first part if a column passes a test, else the second
-- follows: a column that stands nowhere: it is what a table has for another column (0 past its end), and a fault if it is not
-- judged: a part whose fields are judged where it begins
pub data Layout : Type 0 where
  end : Layout
  line : List (List Cell) → Layout → Layout
  word : ℕ → Layout → Layout
  choose : ℕ → (ℕ → Bool) → Layout → Layout → Layout → Layout
  follows : Cell → ℕ → List ℕ → Fault → Layout → Layout
  judged : Layout → Layout → Layout

abbrev pub one : List Cell → Layout → Layout
one cs l = line (cs ∷ []) l

-- what stands only if a column passes a test, and only if a flag is set
abbrev pub given : ℕ → (ℕ → Bool) → Layout → Layout → Layout
given k is p l = choose k is p end l

abbrev pub optional : ℕ → Layout → Layout → Layout
optional k p l = given k (λ v. eqb v 1) p l

-- one line after the other, as a syntax table stands on the page
infixr 5 ◌▹◌
abbrev pub ◌▹◌ : (Layout → Layout) → Layout → Layout
f ▹ l = f l

-- ---- a cell

abbrev pub width : Cell → ℕ
width (num w k) = w
width (reserved w k) = w
width (flag k) = 1
width (unset k) = 1
width (less_one w k) = w

abbrev pub column : Cell → ℕ
column (num w k) = k
column (reserved w k) = k
column (flag k) = k
column (unset k) = k
column (less_one w k) = k

-- what stands in the byte for a column, and the column for what stands there; what is no flag cannot be turned, and does not fit
abbrev pub stored : Cell → ℕ → ℕ
stored (num w k) v = v
stored (reserved w k) v = v
stored (flag k) v = v
stored (unset k) v = pick (is_flag v) (1 - v) v
stored (less_one w k) v = v - 1

abbrev pub loaded : Cell → ℕ → ℕ
loaded (num w k) v = v
loaded (reserved w k) v = v
loaded (flag k) v = v
loaded (unset k) v = 1 - v
loaded (less_one w k) v = v + 1

-- what is demanded of it before any field: a flag is 0 or 1 (5); a count that is stored minus one is not 0 (7)
abbrev pub flagged : Cell → ℕ → Bool
flagged (num w k) v = true
flagged (reserved w k) v = true
flagged (flag k) v = is_flag v
flagged (unset k) v = is_flag v
flagged (less_one w k) v = true

abbrev pub counted : Cell → ℕ → Bool
counted (num w k) v = true
counted (reserved w k) v = true
counted (flag k) v = true
counted (unset k) v = true
counted (less_one w k) v = leb 1 v

-- its reserved bits at 0
abbrev pub idle : Cell → ℕ → ℕ
idle (num w k) v = 0
idle (reserved w k) v = zeros w v
idle (flag k) v = 0
idle (unset k) v = 0
idle (less_one w k) v = 0

-- ---- the columns of a row, by their numbers

abbrev pub Columns : Type 0
Columns = ℕ → ℕ

abbrev pub of : List ℕ → Columns
of r j = get_or r j 0

-- the columns of a table from column b on; row i of a table whose rows have n columns
abbrev pub from : List ℕ → ℕ → Columns
from t b j = get_or t (b + j) 0

abbrev pub at : ℕ → List ℕ → ℕ → Columns
at n t i = from t (i * n)

-- the first n columns
abbrev pub row : ℕ → Columns → List ℕ
row n f = each f 0 n

abbrev pub set : ℕ → ℕ → Columns → Columns
set k v f j = pick (eqb j k) v (f j)

-- ---- reading: each cell goes to its column; the columns of an absent part stay as they are

unfoldable pub put : List Cell → List Field → Columns → Columns
put [] fs f = f
put (c ∷ cs) [] f = f
put (c ∷ cs) (field w v ∷ fs) f = set (column c) (loaded c v) (put cs fs f)

unfoldable pub puts : List (List Cell) → List ℕ → Columns → Columns
puts [] l f = f
puts (cs ∷ css) l f = put cs (split (map width cs) (get_or l 0 0)) (puts css (drop 1 l) f)

unfoldable pub reads : Layout → Columns → Prog Columns
reads end f = ret f
reads (line css l) f = look (length css) (λ b. reads l (puts css b f))
reads (word k l) f = look 1 (λ a. look 1 (λ b. reads l (set k (get_or a 0 0 * 256 + get_or b 0 0) f)))
reads (choose k is p q l) f = pick (is (f k)) (reads p f) (reads q f) >>= λ g. reads l g
reads (follows c j t x l) f = reads l (set (column c) (get_or t (f j) 0) f)
reads (judged p l) f = reads p f >>= λ g. reads l g

-- ---- writing

abbrev pub field_of : Columns → Cell → Field
field_of g c = field (width c) (stored c (g (column c)))

abbrev pub byte_of : Columns → List Cell → Act
byte_of g cs = byte (map (field_of g) cs)

-- ---- the cells that have a value, and what they say together

unfoldable pub shown : Layout → Columns → List Cell
shown end g = []
shown (line css l) g = flatten css ++ shown l g
shown (word k l) g = num 16 k ∷ shown l g
shown (choose k is p q l) g = pick (is (g k)) (shown p g) (shown q g) ++ shown l g
shown (follows c j t x l) g = c ∷ shown l g
shown (judged p l) g = shown p g ++ shown l g

-- the bytes
unfoldable pub writes : Layout → Columns → List Act
writes end g = []
writes (line css l) g = map (byte_of g) css ++ writes l g
writes (word k l) g = byte (field 8 (g k / 256) ∷ []) ∷ byte (field 8 (g k % 256) ∷ []) ∷ writes l g
writes (choose k is p q l) g = pick (is (g k)) (writes p g) (writes q g) ++ writes l g
writes (follows c j t x l) g = writes l g
writes (judged p l) g = demand F.Field (fit (map (field_of g) (shown p g))) ∷ writes p g ++ writes l g

-- that what follows from another column is what the table has for it
unfoldable pub matches : Layout → Columns → List Act
matches end g = []
matches (line css l) g = matches l g
matches (word k l) g = matches l g
matches (choose k is p q l) g = pick (is (g k)) (matches p g) (matches q g) ++ matches l g
matches (follows c j t x l) g = demand x (eqb (g (column c)) (get_or t (g j) 0)) ∷ matches l g
matches (judged p l) g = matches p g ++ matches l g

-- a row is broken where rows of another table stand: these are the layouts between its breaks
unfoldable pub cells : List Layout → Columns → List Cell
cells [] g = []
cells (l ∷ []) g = shown l g
cells (l ∷ m ∷ ls) g = shown l g ++ cells (m ∷ ls) g

unfoldable pub matched : List Layout → Columns → List Act
matched [] g = []
matched (l ∷ []) g = matches l g
matched (l ∷ m ∷ ls) g = matches l g ++ matched (m ∷ ls) g

unfoldable pub every : (Cell → ℕ → Bool) → Columns → List Cell → Bool
every test g [] = true
every test g (c ∷ cs) = test c (g (column c)) && every test g cs

-- what stands before the bytes of a row: flags, empty lists, then what has to match
abbrev pub demands : List Layout → Columns → List Act
demands ls g = demand F.Field (every flagged g (cells ls g)) ∷ demand F.Empty (every counted g (cells ls g)) ∷ matched ls g

unfoldable pub tally : List Layout → Columns → ℕ
tally ls g = sum (λ c. idle c (g (column c))) (cells ls g)

-- ---- the meaning: the columns that writing reads, and what reading leaves in the others

unfoldable pub has : ℕ → List ℕ → Bool
has j [] = false
has j (k ∷ ks) = eqb j k || has j ks

abbrev pub mix : List ℕ → Columns → Columns → Columns
mix ks g f j = pick (has j ks) (g j) (f j)

abbrev pub columns : List Cell → List ℕ
columns cs = map column cs

-- g but for what an absent part has: there it is as in f
abbrev pub kept : List Layout → Columns → Columns → Columns
kept ls g f = mix (columns (cells ls g)) g f

abbrev pub blank : Columns
blank j = 0

-- ---- rows of n columns with no break, and with one where rows of another table stand, whose first row and count are columns

abbrev pub flat : ℕ → Layout → Prog (List ℕ)
flat n l = do
  g ← reads l blank
  ret (row n g)

abbrev pub flat_acts : Layout → Columns → List Act
flat_acts l g = demands (l ∷ []) g ++ writes l g

abbrev pub flat_means : ℕ → Layout → Columns → List ℕ
flat_means n l g = row n (kept (l ∷ []) g blank)

pub record Broken : Type 0 where
  pub width : ℕ
  pub head : Layout
  pub first : ℕ
  pub count : ℕ
  pub tail : Layout

abbrev pub layouts : Broken → List Layout
layouts b = b.head ∷ b.tail ∷ []

abbrev pub broken : {A : Type 0} → Broken → Prog A → Prog (List ℕ × List A)
broken b kid = do
  f ← reads b.head blank
  l ← many (f b.count) kid
  g ← reads b.tail f
  ret (row b.width g, l)

-- the other table has `room` rows, and kid is what its row i is written as
abbrev pub broken_acts : Broken → ℕ → (ℕ → List Act) → Columns → List Act
broken_acts b room kid g =
    demand F.Range (leb (g b.first + g b.count) room)
    ∷ demands (layouts b) g
    ++ (writes b.head g ++ (rows kid (g b.first) (g b.count) ++ writes b.tail g))

abbrev pub broken_means : {A : Type 0} → Broken → (ℕ → A) → Columns → List ℕ × List A
broken_means b kid g = (row b.width (kept (layouts b) g blank), each kid (g b.first) (g b.count))

-- what writing reads of the row itself: the columns that have a meaning, and the first of its rows
abbrev pub broken_heeds : Broken → Columns → List ℕ
broken_heeds b g = row b.width (set b.first (g b.first) (kept (layouts b) g blank))

-- what was read, with its first row
abbrev pub broken_row : {A : Type 0} → Broken → ℕ × (List ℕ × List A) → List ℕ
broken_row b q = row b.width (set b.first q.0 (of q.1.0))

-- ---- lists of such rows, each with its own rows

abbrev pub Family : Type 0
Family = List ℕ × List (List ℕ)

-- the rows of both tables: each has for its first row how many are filled before it
abbrev pub parents : Broken → List Family → List (List ℕ)
parents b l = map (broken_row b) (firsts (λ x. length x.1) 0 l)

abbrev pub kids : List Family → List (List ℕ)
kids l = flat_map (λ x. x.1) l

abbrev pub family_tally : Broken → Layout → Family → ℕ
family_tally b kid x = tally (layouts b) (of x.0) + sum (λ r. tally (kid ∷ []) (of r)) x.1

-- a row with the columns g, whose rows stand in table u and have n columns
abbrev pub family_acts_of : Broken → ℕ → Layout → List ℕ → Columns → List Act
family_acts_of b n kid u g = broken_acts b (length u / n) (λ j. flat_acts kid (at n u j)) g

abbrev pub family_means_of : Broken → ℕ → Layout → List ℕ → Columns → Family
family_means_of b n kid u g = broken_means b (λ j. flat_means n kid (at n u j)) g

-- row i of table t
abbrev pub family_acts : Broken → ℕ → Layout → List ℕ → List ℕ → ℕ → List Act
family_acts b n kid t u i = family_acts_of b n kid u (at b.width t i)

-- ---- rows that end with a payload: a length byte and so many bytes of any content, whose offset and length are columns

pub record Bearing : Type 0 where
  pub width : ℕ
  pub head : Layout
  pub offset : ℕ
  pub size : ℕ

-- the columns that are read, and where the bytes stand
abbrev pub Borne : Type 0
Borne = List ℕ × Payload

abbrev pub bearing : Bearing → Prog Borne
bearing b = do
  g ← reads b.head blank
  n ← u8
  p ← pass n
  ret (row b.width g, span p n)

-- the bytes of a row in the store
abbrev pub borne_bytes : Bearing → List ℕ → Columns → List ℕ
borne_bytes b store g = slice (g b.offset) (g b.offset + g b.size) store

abbrev pub bearing_acts : Bearing → List ℕ → Columns → List Act
bearing_acts b store g =
    demand F.Range (leb (g b.offset + g b.size) (length store))
    ∷ demands (b.head ∷ []) g
    ++ (writes b.head g ++ (byte (field 8 (g b.size) ∷ []) ∷ copy (borne_bytes b store g) ∷ []))

abbrev pub bearing_means : Bearing → List ℕ → Columns → List ℕ × List ℕ
bearing_means b store g = (row b.width (kept (b.head ∷ []) g blank), borne_bytes b store g)

-- the columns f with the place and the number of the bytes
abbrev pub borne : Bearing → ℕ → ℕ → Columns → Columns
borne b offset size f = set b.offset offset (set b.size size f)

-- what writing reads of the row itself
abbrev pub bearing_heeds : Bearing → Columns → List ℕ
bearing_heeds b g = row b.width (borne b (g b.offset) (g b.size) (kept (b.head ∷ []) g blank))

-- what was read, with the place of its bytes
abbrev pub borne_row : Bearing → Borne → List ℕ
borne_row b x = row b.width (borne b x.1.offset x.1.length (of x.0))

abbrev pub borne_tally : Bearing → Borne → ℕ
borne_tally b x = tally (b.head ∷ []) (of x.0)
