-- Reading a list of labels line by line as the Rust: `parse_entries` and the count before it. The layouts read the same (proofs/Mirrored of the text label body).
use Rattle.std.specs.Prelude.{ℕ, ◌-◌, List, [], ◌∷◌}
use Rattle.wire.specs.Bits.{part}
use Rattle.wire.specs.Prog.{Prog, ret, u8, pass, many, span, ◌>>=◌}
use Rattle.wire.specs.Layout.{Borne, bearing}
use Rattle.labels.specs.Layout.{label}

-- an ID of w bits, the others of its byte reserved; the columns of its place are set in the table
unfoldable pub entry : ℕ → Prog Borne
entry w = do
  b ← u8
  n ← u8
  p ← pass n
  ret (part w (8 - w) b ∷ part 0 w b ∷ 0 ∷ 0 ∷ [], span p n)

-- the reserved bits before the count, the count, and the entries
pub record Labels : Type 0 where
  pub reserved : ℕ
  pub count : ℕ
  pub entries : List Borne

-- a count of w bits, and so many entries, over any reader of an entry
unfoldable pub labels_over : ℕ → Prog Borne → Prog Labels
labels_over w p = do
  b ← u8
  l ← many (part 0 w b) p
  ret (record { reserved = part w (8 - w) b; count = part 0 w b; entries = l })

-- entries with IDs of w bits
abbrev pub labels : ℕ → Prog Labels
labels w = labels_over w (bearing (label w))
