-- `wire::bits::quad` meets its contract: a shift and an or are a product and a sum.
use Prim.Native.Nat.{◌+◌, ◌*◌}
use native.Mathlib.Omega.{arith}
use Rattle.wire.proofs.Fields.{quad_exact}
use Rattle.wire.proofs.bits.quad.Goals as goal

pub returns : goal.returns
returns c =
    rw (c.pair.ensures, c.pair-2.ensures)
    (let a = c.args in quad_exact (a.d * 65536 + a.c) (a.b * 65536 + a.a) (omega arith) (omega arith))
