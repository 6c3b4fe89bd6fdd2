-- `tallying::pairs_zeros` meets its contract: the zeros of all rows, without where they end.
use mathlib.Core.List.{[], ◌∷◌}
use native.Mathlib.Omega.{arith}
use Rattle.wire.specs.Layout.{flat, of, tally}
use Rattle.wire.specs.Prog.{run, many}
use Rattle.wire.proofs.Reading.Loops.{summed_rows}
use Rattle.pairs.specs.Layout.{pair}
use Rattle.pairs.proofs.tallying.pairs_zeros.Goals as goal

pub returns : goal.returns
returns c =
    ((summed_rows (λ r. tally (pair ∷ []) (of r)) (run (many c.args.count (flat 2 pair)) c.args.body.now c.args.at) c.rows_zeros.ensures.0).0, omega (arith, c.rows_zeros.ensures.1))
