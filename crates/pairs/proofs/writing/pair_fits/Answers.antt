-- `writing::pair_fits` meets its contract.
use mathlib.Core.Path.{sym}
use native.Mathlib.Nat.{add-zero}
use Rattle.pairs.proofs.writing.pair_fits.Goals as goal

pub returns : goal.returns
returns c =
    rw (add-zero, sym c.requires.1) c.two_fit.ensures
