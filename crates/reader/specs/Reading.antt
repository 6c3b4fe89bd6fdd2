-- What the functions of `Reader` promise: the answer of a read at its position, and where it stands afterwards. The position may be any number: a need
-- that is too large for a `usize` is given as the largest.
use Rattle.std.specs.Prelude.{Result, ℕ, ◌-◌, ◌<◌, ◌^◌, min, List, ◌≡◌, length, drop}
use Rattle.wire.specs.Prog.{Prog, Out, done, short, needing, run, u8, pass, ◌>>=◌}
use Rattle.wire.specs.Reads.{read_out, number_of}
use Rattle.wire.specs.declared.reads.Short.{Short}
use Rattle.reader.specs.declared.Reader.{Reader}
use Rattle.reader.specs.declared.reads.ByteStep.{ByteStep}
use Rattle.reader.specs.declared.reads.RunStep.{RunStep}

-- an outcome as code gives it
abbrev pub told : {A : Type 0} → Out A → Out A
told (done a n) = done a n
told (short x) = short (needing (min x.need (2 ^ 64 - 1)))

-- where the reader stands after a read from `at`: behind it, or where it stood if the read was refused
abbrev pub after : {A : Type 0} → ℕ → Out A → ℕ
after at (done a n) = n
after at (short x) = at

-- a read of one byte by the reader r, which is r' afterwards
pub record ReadsByte (r : Reader) (b : Result (ℕ × ℕ) Short) (r' : Reader) : Type 0 where
  pub is : read_out b ≡ told (run u8 r.body.now r.pos)
  pub small : number_of b < 256
  pub same : r'.body ≡ r.body
  pub moved : r'.pos ≡ after r.pos (run u8 r.body.now r.pos)

-- a read of `count` bytes, by their place
pub record TakesRun (count : ℕ) (r : Reader) (n : Result (ℕ × ℕ) Short) (r' : Reader) : Type 0 where
  pub is : read_out n ≡ told (run (pass count) r.body.now r.pos)
  pub same : r'.body ≡ r.body
  pub moved : r'.pos ≡ after r.pos (run (pass count) r.body.now r.pos)

-- all that is left, none if the reader stands past the body; it stands at the body's end afterwards
pub record GivesRest (r : Reader) (s : List ℕ) (r' : Reader) : Type 0 where
  pub is : s ≡ drop r.pos r.body.now
  pub same : r'.body ≡ r.body
  pub moved : r'.pos ≡ length r.body.now

-- ---- the reads behind them, on a list and a position

-- a read of one byte, with the position after it
pub record SteppedByte (s : List ℕ) (at : ℕ) (r : ByteStep) : Type 0 where
  pub is : read_out r.byte ≡ told (run u8 s at)
  pub small : number_of r.byte < 256
  pub moved : r.next ≡ after at (run u8 s at)

-- a read of `count` bytes
pub record SteppedRun (count : ℕ) (s : List ℕ) (at : ℕ) (r : RunStep) : Type 0 where
  pub is : read_out r.run ≡ told (run (pass count) s at)
  pub moved : r.next ≡ after at (run (pass count) s at)

-- two reads of one byte, of which the second is the answer
abbrev pub second_byte : Prog ℕ
second_byte = u8 >>= λ b. u8
