use Prim.Native.Nat.{◌+◌, ◌*◌, ◌≤◌}
use mathlib.Core.Path.{refl}
use native.Mathlib.Omega.{arith}
use native.Mathlib.Nat.{mul-le-mul_right}
use Rattle.wire.proofs.Writing.Passes.{fill_start, fill_row_lem, fill_turn, fill_end, rows_turn, rows_end, all_of}
use Rattle.wire.proofs.Writing.Plain.{next_column, row_left, none_left, column_fits}
use Rattle.wire.proofs.written.fill_rows.Goals as goal

pub loop-b-init : goal.loop-b-init
loop-b-init g c = (rw c.columns-columns.ensures.0 refl, omega arith, rw all_of (fill_start c.requires.3))

pub overflow_mul-last : goal.overflow_mul-last
overflow_mul-last g c = rw c.columns-columns.ensures.0 (omega (arith, column_fits (c.args.first + c.args.count) g.R.Rows.columns (omega (arith, c.requires.2)) (rw c.columns-columns.ensures.0 at c.columns-columns.ensures.1)))

pub overflow_mul-b : goal.overflow_mul-b
overflow_mul-b g c = rw c.columns-columns.ensures.0 (omega (arith, column_fits c.args.first g.R.Rows.columns (omega (arith, c.requires.2)) (rw c.columns-columns.ensures.0 at c.columns-columns.ensures.1)))

pub fill-at-requires : goal.fill-at-requires
fill-at-requires g c =
    let l = row_left c.loop-b.i (c.args.first + c.args.count) g.R.Rows.columns c.loop-b.invariant.0 (rw c.columns-columns.ensures.0 at c.loop-b-test.true) in
    let h : (c.loop-b.i + 1) * g.R.Rows.columns ≤ (c.args.first + c.args.count) * g.R.Rows.columns = mul-le-mul_right g.R.Rows.columns (omega (arith, l)) in
    (omega (arith, h, c.requires.0), c.requires.1, fill_row_lem (g.R.Rows.acts c.args.rows.now c.loop-b.i) _ c.loop-b.invariant.2 (rows_turn (g.R.Rows.acts c.args.rows.now) c.loop-b.i (c.args.first + c.args.count) l), c.loop-b.invariant.0)

pub overflow_add-i : goal.overflow_add-i
overflow_add-i g c = omega (arith, c.loop-b.invariant.1, c.requires.2)

pub overflow_add-b : goal.overflow_add-b
overflow_add-b g c =
    let k = rw c.columns-columns.ensures.0 at c.columns-columns.ensures.1 in
    omega (arith, c.columns-columns.ensures.0, c.loop-b.invariant.0, column_fits c.loop-b.i g.R.Rows.columns (omega (arith, c.loop-b.invariant.1, c.requires.2)) k, k)

pub loop-b-smaller : goal.loop-b-smaller
loop-b-smaller g c = omega (arith, c.loop-b-test.true, c.columns-columns.ensures.2)

pub loop-b-preserved : goal.loop-b-preserved
loop-b-preserved g c =
    let l = row_left c.loop-b.i (c.args.first + c.args.count) g.R.Rows.columns c.loop-b.invariant.0 (rw c.columns-columns.ensures.0 at c.loop-b-test.true) in (
      rw c.columns-columns.ensures.0 (next_column c.loop-b.i g.R.Rows.columns c.loop-b.invariant.0),
      omega (arith, l),
      fill_turn c.loop-b.invariant.2 (rows_turn (g.R.Rows.acts c.args.rows.now) c.loop-b.i (c.args.first + c.args.count) l) c.fill-at.auto.out c.fill-at.ensures,
    )

pub returns : goal.returns
returns g c =
    let e = none_left c.loop-b.i (c.args.first + c.args.count) g.R.Rows.columns (rw c.columns-columns.ensures.0 at c.columns-columns.ensures.2) c.loop-b.invariant.0
    (rw c.columns-columns.ensures.0 at c.loop-b-test.false) c.loop-b.invariant.1 in
    fill_end c.loop-b.invariant.2 (rows_end (g.R.Rows.acts c.args.rows.now) c.loop-b.i (c.args.first + c.args.count) e)
