-- `wire::pen::copy` meets its contract: what stands at the front of the block is the part of the store.
use native.Mathlib.Omega.{arith}
use Rattle.wire.proofs.Writing.Passes.{in_block}
use Rattle.wire.proofs.pen.copy.Goals as goal

pub returns : goal.returns
returns c =
    let a = c.args in
    rw (in_block a.from a.count a.store.now c.requires.0 c.put_each-2.ensures (omega arith)) at
    c.put_each-3.ensures
