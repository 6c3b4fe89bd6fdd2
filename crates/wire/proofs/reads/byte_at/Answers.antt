-- `wire::reads::byte_at` meets its contract: the byte stands within the body, or not.
use mathlib.Core.Path.{sym}
use native.Mathlib.Omega.{arith}
use Rattle.wire.proofs.Reading.Steps.{got, lacks}
use Rattle.wire.proofs.reads.byte_at.Goals as goal

pub returns-then-at-body : goal.returns-then-at-body
returns-then-at-body c =
    let a = c.args in
    record {
      is = sym (got a.body.now a.at c.if-at-body.true c.wide.ensures);
      small = omega (arith, c.wide.ensures, c.shared_slice_known-then-at-body-1.given a.at);
    }

pub returns-else-at-body : goal.returns-else-at-body
returns-else-at-body c = record { is = sym (lacks _ _ c.if-at-body.false); small = omega arith }
