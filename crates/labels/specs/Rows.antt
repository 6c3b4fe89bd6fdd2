-- The declared rows of table 7 as columns and from their table, and a list of them as columns of table 6.
use Rattle.std.specs.Prelude.{ℕ, ◌+◌, List, [], ◌∷◌, get_or}
use Rattle.wire.specs.Prog.{span}
use Rattle.wire.specs.Layout.{Columns, of}
use Rattle.wire.specs.declared.rows.Range.{Range}
use Rattle.labels.specs.declared.rows.TextLabelEntry.{TextLabelEntry}
use Rattle.labels.specs.declared.rows.Descriptions.{Descriptions}
use Rattle.labels.specs.Read.{Labels}

-- ---- a row of table 7: which columns it has, and the row whose first column is b

abbrev pub entry_row : TextLabelEntry → List ℕ
entry_row e = e.reserved ∷ e.id ∷ e.«data».offset ∷ e.«data».length ∷ []

abbrev pub entry_cols : TextLabelEntry → Columns
entry_cols e = of (entry_row e)

abbrev pub entry_of : List ℕ → ℕ → TextLabelEntry
entry_of t b = record { reserved = get_or t b 0; id = get_or t (b + 1) 0; «data» = span (get_or t (b + 2) 0) (get_or t (b + 3) 0) }

-- ---- a list: the reserved bits before its count, and its entries

abbrev pub range : ℕ → ℕ → Range
range i k = record { first = i; count = k }

abbrev pub descriptions : ℕ → Range → Descriptions
descriptions r e = record { reserved = r; entries = e }

-- the list whose first column is b
abbrev pub descriptions_of : List ℕ → ℕ → Descriptions
descriptions_of t b = descriptions (get_or t b 0) (range (get_or t (b + 1) 0) (get_or t (b + 2) 0))

-- a list that was read, its entries from row n on
abbrev pub list_from : ℕ → Labels → Descriptions
list_from n d = descriptions d.reserved (range n d.count)
