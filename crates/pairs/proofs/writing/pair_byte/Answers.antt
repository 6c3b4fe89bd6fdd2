-- `writing::pair_byte` meets its contract.
use mathlib.Core.Path.{sym}
use native.Mathlib.Nat.{add-zero}
use Rattle.pairs.proofs.writing.pair_byte.Goals as goal

pub returns : goal.returns
returns c =
    rw (add-zero, sym c.requires.1) c.two.ensures
