use Prim.Native.Nat.{◌+◌, ◌*◌, ◌≤◌}
use mathlib.Core.Path.{refl}
use native.Mathlib.Omega.{arith}
use native.Mathlib.Nat.{add-zero, mul-le-mul_right}
use Rattle.wire.proofs.Writing.Plain.{next_behind, row_left, none_left, column_fits, going_start, going_turn, run_odd, run_end, quick_few, few_left}
use Rattle.wire.proofs.written.plain_run.Goals as goal

pub loop-b-init : goal.loop-b-init
loop-b-init g c = (rw (c.columns-columns.ensures.0, add-zero) refl, going_start _ g.R.Rows.most c.args.count)

pub overflow_mul-last : goal.overflow_mul-last
overflow_mul-last g c = rw c.columns-columns.ensures.0 (omega (arith, column_fits (c.args.first + c.args.count) g.R.Rows.columns (omega (arith, c.requires.2)) (rw c.columns-columns.ensures.0 at c.columns-columns.ensures.1)))

pub overflow_mul-b : goal.overflow_mul-b
overflow_mul-b g c = rw c.columns-columns.ensures.0 (omega (arith, column_fits c.args.first g.R.Rows.columns (omega (arith, c.requires.2)) (rw c.columns-columns.ensures.0 at c.columns-columns.ensures.1)))

pub plain-k-requires : goal.plain-k-requires
plain-k-requires g c =
    let l = row_left (c.args.first + c.loop-b.i) (c.args.first + c.args.count) g.R.Rows.columns c.loop-b.invariant.0 (rw c.columns-columns.ensures.0 at c.loop-b-test.true) in
    let h : (c.args.first + c.loop-b.i + 1) * g.R.Rows.columns ≤ (c.args.first + c.args.count) * g.R.Rows.columns = mul-le-mul_right g.R.Rows.columns (omega (arith, l)) in
    (omega (arith, h, c.requires.0), c.requires.1, c.loop-b.invariant.0)

pub returns-then-k-eq0 : goal.returns-then-k-eq0
returns-then-k-eq0 g c =
    let l = row_left (c.args.first + c.loop-b.i) (c.args.first + c.args.count) g.R.Rows.columns c.loop-b.invariant.0 (rw c.columns-columns.ensures.0 at c.loop-b-test.true) in
    run_odd c.loop-b.invariant.1 c.plain-k.ensures (omega (arith, l)) c.if-k-eq0.true

pub overflow_cast-bytes : goal.overflow_cast-bytes
overflow_cast-bytes g c =
    let l = row_left (c.args.first + c.loop-b.i) (c.args.first + c.args.count) g.R.Rows.columns c.loop-b.invariant.0 (rw c.columns-columns.ensures.0 at c.loop-b-test.true) in
    omega (arith, quick_few c.plain-k.ensures, c.loop-b.invariant.1.few, few_left g.R.Rows.most c.loop-b.i c.args.count (omega (arith, l)), c.requires.3)

pub overflow_add-bytes : goal.overflow_add-bytes
overflow_add-bytes g c =
    let l = row_left (c.args.first + c.loop-b.i) (c.args.first + c.args.count) g.R.Rows.columns c.loop-b.invariant.0 (rw c.columns-columns.ensures.0 at c.loop-b-test.true) in
    omega (arith, quick_few c.plain-k.ensures, c.loop-b.invariant.1.few, few_left g.R.Rows.most c.loop-b.i c.args.count (omega (arith, l)), c.requires.3)

pub overflow_add-i : goal.overflow_add-i
overflow_add-i g c = omega (arith, c.loop-b.invariant.1.within)

pub overflow_add-b : goal.overflow_add-b
overflow_add-b g c =
    let k = rw c.columns-columns.ensures.0 at c.columns-columns.ensures.1 in
    omega (arith, c.columns-columns.ensures.0, c.loop-b.invariant.0, column_fits (c.args.first + c.loop-b.i) g.R.Rows.columns (omega (arith, c.loop-b.invariant.1.within, c.requires.2)) k, k)

pub loop-b-smaller : goal.loop-b-smaller
loop-b-smaller g c = omega (arith, c.loop-b-test.true, c.columns-columns.ensures.2)

pub loop-b-preserved : goal.loop-b-preserved
loop-b-preserved g c =
    let l = row_left (c.args.first + c.loop-b.i) (c.args.first + c.args.count) g.R.Rows.columns c.loop-b.invariant.0 (rw c.columns-columns.ensures.0 at c.loop-b-test.true) in
    let z = c.if-k-eq0.false in
    (rw c.columns-columns.ensures.0 (next_behind c.args.first c.loop-b.i g.R.Rows.columns c.loop-b.invariant.0), going_turn c.loop-b.invariant.1 c.plain-k.ensures (omega (arith, l)) (omega (arith, z)))

pub returns : goal.returns
returns g c =
    let e = none_left (c.args.first + c.loop-b.i) (c.args.first + c.args.count) g.R.Rows.columns (rw c.columns-columns.ensures.0 at c.columns-columns.ensures.2) c.loop-b.invariant.0
    (rw c.columns-columns.ensures.0 at c.loop-b-test.false) (omega (arith, c.loop-b.invariant.1.within)) in
    run_end c.loop-b.invariant.1 (omega (arith, e))
