-- The code's answers as the specification's: document 01's numbers and values; and a language with its rows of both tables.
use Rattle.std.specs.Prelude.{ℕ, List, [], ◌∷◌, Result, Bool, ◌&&◌, length, get_or, leb, eqb}
use Rattle.wire.specs.Bits.{part}
use Rattle.frame.specs.Numbers.{Answer, answer_as}
use Rattle.frame.specs.Entry as E
use Rattle.frame.specs.Entry.{Need}
use Rattle.frame.specs.Ranges.{ranged_row}
use Rattle.frame.specs.declared.Refusal.{Refusal}
use Rattle.text_label.specs.declared.rows.TextLabelLanguage.{TextLabelLanguage}
use Rattle.text_label.specs.Rows.{language_of, Language}
use Rattle.text_label.specs.Kind.{lists}
use Rattle.text_label.specs.declared.Sizes.{Sizes}

-- tables 6 and 7 need so many rows
abbrev pub needed : ℕ → ℕ → List Need
needed l n = record { number = 6; columns = 12; rows = l } ∷ record { number = 7; columns = 4; rows = n } ∷ []

abbrev pub sized : ℕ → ℕ → ℕ → E.Sizes
sized l n k = record { tables = needed l n; before = k }

abbrev pub measured : Result Sizes Refusal → Answer E.Sizes
measured r = answer_as (λ s. sized s.languages s.entries s.k) r

-- whether a body is sound at once, since it has no languages: its first two bytes are there, and count none
abbrev pub is_bare : List ℕ → Bool
is_bare s = leb (length s) 65535 && (leb 2 (length s) && eqb (part 0 4 (get_or s 1 0)) 0)

-- the row of table 6 that a language has, its entries from row n on, and as the declared row
abbrev pub row_from : ℕ → Language → List ℕ
row_from n l = ranged_row 12 lists (n, l)

abbrev pub language_from : ℕ → Language → TextLabelLanguage
language_from n l = language_of (row_from n l) 0
