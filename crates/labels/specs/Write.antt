-- What the functions that write a list of labels promise: the actions of an entry, of a row of table 7, and of a list, its count before its rows.
use Rattle.std.specs.Prelude.{ℕ, ◌+◌, ◌-◌, ◌/◌, List, [], ◌∷◌, Bool, length, leb}
use Rattle.wire.specs.Bits.{Field, field}
use Rattle.wire.specs.Act.{Act, byte, rows}
use Rattle.wire.specs.Layout.{at, bearing_acts}
use Rattle.wire.specs.declared.rows.Range.{Range}
use Rattle.labels.specs.Layout.{label}
use Rattle.labels.specs.Rows.{entry_cols}
use Rattle.labels.specs.declared.rows.TextLabelEntry.{TextLabelEntry}
use Rattle.labels.specs.declared.rows.Descriptions.{Descriptions}

-- ---- an entry; its ID has w bits

abbrev pub id_byte : ℕ → TextLabelEntry → List Field
id_byte w e = field (8 - w) e.reserved ∷ field w e.id ∷ []

abbrev pub entry_acts : ℕ → List ℕ → TextLabelEntry → List Act
entry_acts w store e = bearing_acts (label w) store (entry_cols e)

-- row i of table 7
abbrev pub row_acts : ℕ → List ℕ → List ℕ → ℕ → List Act
row_acts w t store i = bearing_acts (label w) store (at 4 t i)

-- ---- a list; t is table 7

-- whether the entries of a list stand in the table
abbrev pub in_table : Range → List ℕ → Bool
in_table r t = leb (r.first + r.count) (length t / 4)

abbrev pub count_byte : ℕ → Descriptions → List Field
count_byte w d = field (8 - w) d.reserved ∷ field w d.entries.count ∷ []

abbrev pub entries_acts : ℕ → List ℕ → List ℕ → Range → List Act
entries_acts w t store r = rows (row_acts w t store) r.first r.count

-- a count of w bits, and so many entries with IDs of w bits
unfoldable pub list_acts : ℕ → List ℕ → List ℕ → Descriptions → List Act
list_acts w t store d = byte (count_byte w d) ∷ entries_acts w t store d.entries
