-- The byte of a section, and its rows.
use Prim.Native.Nat.{◌+◌, ◌*◌, ◌^◌, ◌≤◌}
use native.Mathlib.Omega.{arith}
use native.Mathlib.Nat.{mul-le-mul_left}
use Rattle.wire.proofs.Reading.Loops.{summed_rows}
use Rattle.scene.proofs.tallying.section_zeros.Goals as goal

pub rows_zeros-requires : goal.rows_zeros-requires
rows_zeros-requires g c =
    let l : g.R.Tally.most * c.count_at-count.result ≤ g.R.Tally.most * 2 ^ c.args.width = mul-le-mul_left g.R.Tally.most (omega (arith, c.count_at-count.ensures.1)) in
    (rw c.rows_at.ensures c.requires.0, rw (c.rows_at.ensures, c.count_at-count.ensures.0) c.requires.1, c.requires.2, omega (arith, l, c.requires.4))

pub returns : goal.returns
returns g c =
    let (z, _) = summed_rows (g.R.Tally.zeros c.args.row.now) _ c.rows_zeros.ensures.0 in
    (rw (← c.rows_at.ensures, ← c.count_at-count.ensures.0) (λ i. c.reserved_zeros-reserved.ensures i + z i), omega arith)
