-- What is claimed of the bench program's line: one line meets the promise of `decide`.
use Prim.Native.Nat.{ℕ}
use mathlib.Core.List.{List}
use mathlib.Core.Path.{◌≡◌, sym, ◌∙◌}
use Rattle.bench.specs.declared.line.Line.{Line}
use Rattle.bench.specs.Line.{line_of}

pub fixed : (input : List ℕ) (r r' : Line) → r ≡ line_of input → r' ≡ line_of input → r ≡ r'
fixed input r r' v w = v ∙ sym w
