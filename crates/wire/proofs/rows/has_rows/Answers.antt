-- The product is below 2 ^ 48.
use Prim.Native.Nat.{◌≤◌, ◌^◌}
use native.Mathlib.Omega.{arith}
use native.Mathlib.Nat.{mul-le-mul_right}
use Rattle.wire.proofs.Reading.Steps.{whole_rows}
use Rattle.wire.proofs.rows.has_rows.Goals as goal

pub overflow_mul-result : goal.overflow_mul-result
overflow_mul-result c =
    let h : c.args.rows ≤ 2 ^ 32 = omega arith in
    record { fits = omega (arith, mul-le-mul_right c.args.columns h) }

pub returns : goal.returns
returns c = whole_rows _ _ _ c.requires.0
