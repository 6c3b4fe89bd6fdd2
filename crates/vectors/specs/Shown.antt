-- The text of an answer: its number, then its value or, of number 3, the table and its rows; each in decimal digits with a blank behind.
use Rattle.std.specs.Prelude.{ℕ, ◌/◌, ◌%◌, ◌++◌, List, true, false, ◌==◌, codes, decimal}

abbrev pub with_blank : ℕ → List ℕ
with_blank n = decimal n ++ codes " "

-- the rows stand above the table's 24 bits
abbrev pub value_text : ℕ → ℕ → List ℕ
value_text number value = elim (number == 3) [
  | true ↦ with_blank (value % 16777216) ++ with_blank (value / 16777216)
  | false ↦ with_blank value
]

-- the value stands above the number's 8 bits
abbrev pub answer_text : ℕ → List ℕ
answer_text code = with_blank (code % 256) ++ value_text (code % 256) (code / 256)
