-- Reading the DRC and loudness body line by line as the Rust: `MpegH3dAudioDrcLoudness::parse`, `parse_drc_instructions`, `parse_scope`. The layouts read the same (proofs/Mirrored).
use Rattle.std.specs.Prelude.{ℕ, ◌+◌, ◌*◌, List, [], ◌∷◌, ◌++◌, eqb}
use Rattle.wire.specs.Lists.{each}
use Rattle.wire.specs.Bits.{part}
use Rattle.wire.specs.Prog.{Prog, ret, u8, pass, span, many, ◌>>=◌}
use Rattle.wire.specs.Act.{pick}
use Rattle.wire.specs.Layout.{Family, Borne, blank, has}
use Rattle.drc_kind.specs.Rows.{Tree, tree_is}

-- the n columns of an optional part: what the program reads if the flag is 1, else 0
abbrev pub given : ℕ → ℕ → Prog (List ℕ) → Prog (List ℕ)
given flag n p = pick (eqb flag 1) p (ret (each blank 0 n))

-- ---- parse_scope: case, kind, reserved, ID

unfoldable pub scope : List ℕ → ℕ → Prog (List ℕ)
scope types kind =
    pick (has kind types) (do
      b ← u8
      ret (1 ∷ kind ∷ part 7 1 b ∷ part 0 7 b ∷ []))
    (pick (eqb kind 3) (do
      b ← u8
      ret (2 ∷ kind ∷ part 5 3 b ∷ part 0 5 b ∷ []))
    (ret (0 ∷ kind ∷ 0 ∷ 0 ∷ [])))

-- ---- parse_drc_instructions: the first row of the additional IDs is set where the row is put into its table

unfoldable pub additional : Prog (List ℕ)
additional = do
  x ← u8
  ret (part 7 1 x ∷ part 0 7 x ∷ [])

unfoldable pub limiter : Prog (List ℕ)
limiter = do
  p ← u8
  ret (part 0 8 p ∷ [])

unfoldable pub lower : Prog (List ℕ)
lower = do
  x ← u8
  ret (part 6 2 x ∷ part 0 6 x ∷ [])

unfoldable pub target : Prog (List ℕ)
target = do
  u ← u8
  l ← given (part 0 1 u) 2 lower
  dep ← u8
  ret (part 7 1 u ∷ part 1 6 u ∷ part 0 1 u ∷ l ++ (part 7 1 dep ∷ part 1 6 dep ∷ part 0 1 dep ∷ []))

unfoldable pub instruction : Prog Family
instruction = do
  t ← u8
  scoped ← scope (2 ∷ []) (part 0 2 t)
  s ← u8
  dm ← u8
  c ← u8
  ids ← many (part 2 3 c) additional
  hi ← u8
  lo ← u8
  limiter ← given (part 1 1 c) 1 limiter
  loudness ← given (part 0 1 c) 8 target
  ret (
    part 2 6 t ∷ scoped
        ++ (part 6 2 s ∷ part 0 6 s ∷ part 7 1 dm ∷ part 0 7 dm ∷ part 5 3 c ∷ 0 ∷ part 2 3 c ∷ (hi * 256 + lo)
        ∷ part 1 1 c ∷ limiter ++ (part 0 1 c ∷ loudness)),
    ids,
  )

-- ---- the loudness entries and the downmix definitions

unfoldable pub loudness : Prog Borne
loudness = do
  t ← u8
  scoped ← scope (1 ∷ 2 ∷ []) (part 0 2 t)
  size ← u8
  p ← pass size
  ret (part 2 6 t ∷ scoped ++ (0 ∷ 0 ∷ []), span p size)

unfoldable pub downmix : Prog (List ℕ)
downmix = do
  x ← u8
  y ← u8
  ret (part 7 1 x ∷ part 0 7 x ∷ part 6 2 y ∷ part 0 6 y ∷ [])

-- ---- MpegH3dAudioDrcLoudness::parse, over any reader of each row

unfoldable pub body_over : Prog Family → Prog Borne → Prog (List ℕ) → Prog Tree
body_over instruction loudness downmix = do
  b0 ← u8
  pick (eqb (part 0 1 b0) 1) (do
    a ← u8
    l ← u8
    d ← u8
    is ← many (part 0 6 a) instruction
    ls ← many (part 0 6 l) loudness
    ds ← many (part 0 5 d) downmix
    ret (tree_is (part 1 7 b0 ∷ part 0 1 b0 ∷ part 6 2 a ∷ part 6 2 l ∷ part 5 3 d ∷ part 0 6 a ∷ part 0 6 l ∷ part 0 5 d ∷ []) is ls ds)) (ret
      (tree_is (part 1 7 b0 ∷ part 0 1 b0 ∷ 0 ∷ 0 ∷ 0 ∷ 0 ∷ 0 ∷ 0 ∷ []) [] [] []))

abbrev pub body : Prog Tree
body = body_over instruction loudness downmix
