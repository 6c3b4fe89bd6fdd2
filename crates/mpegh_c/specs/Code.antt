-- An answer as one number (include/mpegh.h): document 01's number in the low 8 bits, what it returns above them. What is too large for its bits is given as the largest.
use Rattle.std.specs.Prelude.{ℕ, ◌+◌, ◌*◌, ◌-◌, ◌^◌, min, List, [], ◌∷◌}
use Rattle.frame.specs.Numbers.{Numbered, Answer, accepted, refused}

-- 56 bits for what is returned
abbrev pub code : ℕ → ℕ → ℕ
code n v = n + 2 ^ 8 * min v (2 ^ 56 - 1)

-- or 24 for a table, and 32 for its rows
abbrev pub table_code : ℕ → ℕ → ℕ → ℕ
table_code n t r = n + 2 ^ 8 * t + 2 ^ 32 * min r (2 ^ 32 - 1)

abbrev pub values_code : ℕ → List ℕ → ℕ
values_code n [] = n
values_code n (v ∷ []) = code n v
values_code n (t ∷ r ∷ vs) = table_code n t r

abbrev pub refused_code : Numbered → ℕ
refused_code x = values_code x.number x.values

abbrev pub answer_code : Answer ℕ → ℕ
answer_code (accepted v) = code 0 v
answer_code (refused x) = refused_code x
