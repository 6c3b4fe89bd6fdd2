-- Reading the base body line by line as the Rust: `MpegH3dAudio::parse`. The layouts read the same (proofs/Mirrored).
use Rattle.std.specs.Prelude.{ℕ, ◌-◌, List, [], ◌∷◌, Bool, true, false, eqb}
use Rattle.std.proofs.Math.Option.{Option, none, some}
use Rattle.wire.specs.Bits.{part}
use Rattle.wire.specs.Prog.{Prog, ret, u8, pass, span, ◌>>=◌}
use Rattle.wire.specs.declared.rows.Payload.{Payload}
use Rattle.base.specs.Rows.{Tree}

-- the flag is upside down: set when there are no sets
unfoldable pub sets : Bool → Prog (Option Payload)
sets true = ret none
sets false = do
  count ← u8
  at ← pass count
  ret (some (span at count))

-- the fields of the three bytes; the place of the sets is not known yet
abbrev pub columns_of : ℕ → ℕ → ℕ → List ℕ
columns_of profile b1 b2 = part 0 8 profile ∷ part 7 1 b1 ∷ (1 - part 6 1 b1) ∷ 0 ∷ 0 ∷ part 0 6 b1 ∷ part 6 2 b2 ∷ part 0 6 b2 ∷ []

unfoldable pub base : Prog Tree
base = do
  profile ← u8
  b1 ← u8
  b2 ← u8
  s ← sets (eqb (part 6 1 b1) 1)
  ret (columns_of profile b1 b2, (s, tt))
