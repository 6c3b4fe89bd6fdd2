-- `wire::bits::two_fit` meets its contract: no bit stands above either field.
use native.Mathlib.Omega.{arith}
use Rattle.wire.proofs.Fields.{two_fit_lem}
use Rattle.wire.proofs.bits.two_fit.Goals as goal

pub returns : goal.returns
returns c =
    let a = c.args in
    rw (c.pair.ensures, c.pair-2.ensures, c.above.ensures, c.above-2.ensures)
    (two_fit_lem a.a a.wa a.b a.wb (omega arith) (omega arith) (omega arith) (omega arith))
