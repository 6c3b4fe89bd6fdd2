-- The text of a line: its four numbers in decimal digits, with blanks between.
use Rattle.std.specs.Prelude.{ℕ, List, ◌++◌, codes, decimal}
use Rattle.bench.specs.declared.line.Line.{Line}

abbrev pub line_text : Line → List ℕ
line_text l = decimal l.number ++ codes " " ++ decimal l.first ++ codes " " ++ decimal l.k ++ codes " " ++ decimal l.tally
