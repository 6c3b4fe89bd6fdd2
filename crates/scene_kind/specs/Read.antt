-- Reading the scene body line by line as the Rust: `MpegH3dAudioScene::parse`, `parse_group`, `parse_switch_group`, `parse_preset`. The layouts read the same (proofs/Mirrored).
use Rattle.std.specs.Prelude.{ℕ, ◌+◌, List, [], ◌∷◌, ◌++◌, get_or, eqb}
use Rattle.wire.specs.Lists.{each}
use Rattle.wire.specs.Bits.{part}
use Rattle.wire.specs.Prog.{Prog, ret, u8, u8s, many, ◌>>=◌}
use Rattle.wire.specs.Act.{pick}
use Rattle.wire.specs.Layout.{Family, blank}
use Rattle.scene_kind.specs.Rows.{Scene, scene_is}

-- the n columns of an optional part: what the program reads if the flag is 1, else 0
abbrev pub given : ℕ → ℕ → Prog (List ℕ) → Prog (List ℕ)
given flag n p = pick (eqb flag 1) p (ret (each blank 0 n))

-- all bits of a byte
abbrev pub all : ℕ → ℕ
all b = part 0 8 b

-- ---- parse_group

unfoldable pub position : Prog (List ℕ)
position = do
  a ← u8
  b ← u8
  c ← u8
  d ← u8
  e ← u8
  ret (part 7 1 a ∷ part 0 7 a ∷ part 7 1 b ∷ part 0 7 b ∷ part 5 3 c ∷ part 0 5 c ∷ part 5 3 d ∷ part 0 5 d ∷ part 4 4 e ∷ part 0 4 e ∷ [])

unfoldable pub gain : Prog (List ℕ)
gain = do
  a ← u8
  b ← u8
  ret (part 6 2 a ∷ part 0 6 a ∷ part 5 3 b ∷ part 0 5 b ∷ [])

-- one read of three bytes
unfoldable pub language : Prog (List ℕ)
language = do
  l ← u8s 3
  ret (all (get_or l 0 0) ∷ all (get_or l 1 0) ∷ all (get_or l 2 0) ∷ [])

unfoldable pub group : Prog (List ℕ)
group = do
  b0 ← u8
  b1 ← u8
  b2 ← u8
  p ← given (part 2 1 b1) 10 position
  g ← given (part 1 1 b1) 4 gain
  l ← given (part 0 1 b1) 3 language
  ret (part 7 1 b0 ∷ part 0 7 b0 ∷ part 5 3 b1 ∷ part 4 1 b1 ∷ part 3 1 b1 ∷ part 4 4 b2 ∷ part 0 4 b2 ∷ part 2 1 b1 ∷ p ++ (part 1 1 b1 ∷ g ++ (part 0 1 b1 ∷ l)))

-- ---- parse_switch_group: the first row of the members is set where the row is put into its table

unfoldable pub member : Prog (List ℕ)
member = do
  m ← u8
  ret (part 7 1 m ∷ part 0 7 m ∷ [])

unfoldable pub switch_group : Prog Family
switch_group = do
  b0 ← u8
  b1 ← u8
  members ← many (part 0 5 b1 + 1) member
  d ← u8
  ret (part 7 1 b0 ∷ part 2 5 b0 ∷ part 1 1 b0 ∷ part 0 1 b0 ∷ part 5 3 b1 ∷ 0 ∷ (part 0 5 b1 + 1) ∷ part 7 1 d ∷ part 0 7 d ∷ [], members)

-- ---- parse_preset

unfoldable pub preset_gain : Prog (List ℕ)
preset_gain = do
  g ← u8
  ret (all g ∷ [])

unfoldable pub preset_position : Prog (List ℕ)
preset_position = do
  az ← u8
  el ← u8
  dist ← u8
  ret (all az ∷ part 6 2 el ∷ part 0 6 el ∷ part 4 4 dist ∷ part 0 4 dist ∷ [])

unfoldable pub detail : Prog (List ℕ)
detail = do
  d ← u8
  g ← given (part 2 1 d) 1 preset_gain
  p ← given (part 0 1 d) 5 preset_position
  ret (part 4 4 d ∷ part 3 1 d ∷ part 1 1 d ∷ part 2 1 d ∷ g ++ (part 0 1 d ∷ p))

unfoldable pub condition : Prog (List ℕ)
condition = do
  c ← u8
  d ← given (part 0 1 c) 11 detail
  ret (part 1 7 c ∷ part 0 1 c ∷ d)

unfoldable pub preset : Prog Family
preset = do
  b0 ← u8
  b1 ← u8
  b2 ← u8
  conditions ← many (part 0 4 b2 + 1) condition
  ret (part 5 3 b0 ∷ part 0 5 b0 ∷ part 5 3 b1 ∷ part 0 5 b1 ∷ part 4 4 b2 ∷ 0 ∷ (part 0 4 b2 + 1) ∷ [], conditions)

-- ---- MpegH3dAudioScene::parse, over any reader of each row

-- a section: its reserved bits, how many rows it has, and the rows
pub record Section (A : Type 0) : Type 0 where
  pub reserved : ℕ
  pub count : ℕ
  pub rows : List A

-- a byte of w count bits below r reserved ones, and the rows; what is absent has its reserved bits at 1
unfoldable pub section : {A : Type 0} → ℕ → (r w ones : ℕ) → Prog A → Prog (Section A)
section flag r w ones p = pick (eqb flag 1) (do
  b ← u8
  l ← many (part 0 w b) p
  ret (record { reserved = part w r b; count = part 0 w b; rows = l })) (ret (record { reserved = ones; count = 0; rows = [] }))

unfoldable pub scene_over : Prog (List ℕ) → Prog Family → Prog Family → Prog Scene
scene_over group switch_group preset = do
  flags ← u8
  id ← u8
  g ← section (part 7 1 flags) 1 7 1 group
  s ← section (part 6 1 flags) 3 5 7 switch_group
  p ← section (part 5 1 flags) 3 5 7 preset
  ret (scene_is (part 0 5 flags ∷ all id ∷ part 7 1 flags ∷ g.count ∷ s.reserved ∷ part 6 1 flags ∷ s.count ∷ p.reserved ∷ part 5 1 flags ∷ p.count ∷ g.reserved ∷ []) g.rows s.rows p.rows)

abbrev pub scene : Prog Scene
scene = scene_over group switch_group preset
