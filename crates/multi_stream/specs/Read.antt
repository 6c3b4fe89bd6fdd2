-- Reading the multi_stream body line by line as the Rust: `MpegH3dAudioMultiStream::parse`. The layouts read the same (proofs/Mirrored).
use Rattle.std.specs.Prelude.{ℕ, List, [], ◌∷◌, Bool, true, false, eqb}
use Rattle.wire.specs.Bits.{part}
use Rattle.wire.specs.Prog.{Prog, ret, u8, many, ◌>>=◌}
use Rattle.multi_stream.specs.Rows.{MultiStream}

-- an auxiliary byte follows exactly if isInMainStream is 0
unfoldable pub auxiliary : Bool → Prog (List ℕ)
auxiliary true = ret (0 ∷ 0 ∷ 0 ∷ [])
auxiliary false = do
  x ← u8
  ret (1 ∷ part 7 1 x ∷ part 0 7 x ∷ [])

unfoldable pub group : Prog (List ℕ)
group = do
  e ← u8
  a ← auxiliary (eqb (part 0 1 e) 1)
  ret (part 1 7 e ∷ part 0 1 e ∷ a)

-- ---- over any reader of a group

-- the columns of the main-stream part, and its groups
pub record Main : Type 0 where
  pub columns : List ℕ
  pub groups : List (List ℕ)

abbrev pub no_main : Main
no_main = record { columns = 0 ∷ 0 ∷ 0 ∷ 0 ∷ []; groups = [] }

abbrev pub main_of : ℕ → ℕ → List (List ℕ) → Main
main_of a g l = record { columns = part 7 1 a ∷ part 0 7 a ∷ part 7 1 g ∷ part 0 7 g ∷ []; groups = l }

unfoldable pub main : Prog (List ℕ) → Bool → Prog Main
main p false = ret no_main
main p true = do
  a ← u8
  g ← u8
  l ← many (part 0 7 g) p
  ret (main_of a g l)

abbrev pub stream_of : ℕ → Main → MultiStream
stream_of b m = (part 0 7 b ∷ part 7 1 b ∷ m.columns, (m.groups, tt))

unfoldable pub multi_stream_over : Prog (List ℕ) → Prog MultiStream
multi_stream_over p = do
  b ← u8
  m ← main p (eqb (part 7 1 b) 1)
  ret (stream_of b m)

abbrev pub multi_stream : Prog MultiStream
multi_stream = multi_stream_over group
