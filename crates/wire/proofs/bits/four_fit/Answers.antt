-- `wire::bits::four_fit` meets its contract: no bit stands above a field.
use native.Mathlib.Omega.{arith}
use Rattle.wire.proofs.Fields.{four_fit_lem}
use Rattle.wire.proofs.bits.four_fit.Goals as goal

pub returns : goal.returns
returns c =
    let a = c.args in
    rw (c.quad.ensures, c.quad-over.ensures, c.above-4.ensures, c.above-3.ensures, c.above-2.ensures, c.above.ensures)
    (four_fit_lem a.a a.wa a.b a.wb a.c a.wc a.d a.wd (omega arith) (omega arith) (omega arith) (omega arith) (omega arith) (omega arith) (omega arith) (omega arith))
