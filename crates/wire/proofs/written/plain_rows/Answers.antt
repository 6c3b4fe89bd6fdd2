use Prim.Native.Nat.{◌+◌, ◌-◌, ◌*◌, ◌≤◌}
use mathlib.Core.Path.{◌≡◌, refl}
use native.Mathlib.Omega.{arith}
use native.Mathlib.Nat.{add-zero, mul-le-mul_right}
use Rattle.wire.proofs.Writing.Plain.{next_behind, column_fits, going_start, going_turn, going_odd, going_end, quick_few, few_left}
use Rattle.wire.proofs.written.plain_rows.Goals as goal

pub loop-left-init : goal.loop-left-init
loop-left-init g c =
    let e : c.args.count - c.args.count ≡ 0 = omega arith in
    (omega arith, rw (c.columns-columns.ensures.0, e, add-zero) refl, rw e (going_start _ g.R.Rows.most c.args.count))

pub overflow_mul-b : goal.overflow_mul-b
overflow_mul-b g c = rw c.columns-columns.ensures.0 (omega (arith, column_fits c.args.first g.R.Rows.columns (omega (arith, c.requires.2)) (rw c.columns-columns.ensures.0 at c.columns-columns.ensures.1)))

pub plain-k-requires : goal.plain-k-requires
plain-k-requires g c =
    let h : (c.args.first + (c.args.count - c.loop-left.left) + 1) * g.R.Rows.columns ≤ (c.args.first + c.args.count) * g.R.Rows.columns = mul-le-mul_right g.R.Rows.columns (omega (arith, c.loop-left.invariant.0)) in
    (omega (arith, h, c.requires.0), c.requires.1, c.loop-left.invariant.1)

pub returns-then-k-eq0 : goal.returns-then-k-eq0
returns-then-k-eq0 g c = going_odd c.loop-left.invariant.2 c.plain-k.ensures c.if-k-eq0.true

pub overflow_add-bytes : goal.overflow_add-bytes
overflow_add-bytes g c =
    omega (arith, c.loop-left.invariant.2.few, quick_few c.plain-k.ensures, few_left g.R.Rows.most (c.args.count - c.loop-left.left) c.args.count (omega (arith, c.loop-left.invariant.0)), c.requires.3)

pub overflow_add-b : goal.overflow_add-b
overflow_add-b g c =
    let k = rw c.columns-columns.ensures.0 at c.columns-columns.ensures.1 in
    omega (arith, c.columns-columns.ensures.0, c.loop-left.invariant.1, column_fits (c.args.first + (c.args.count - c.loop-left.left)) g.R.Rows.columns (omega (arith, c.requires.2)) k, k)

pub loop-left-preserved : goal.loop-left-preserved
loop-left-preserved g c =
    let z = c.if-k-eq0.false in
    let e : c.args.count - (c.loop-left.left - 1) ≡ c.args.count - c.loop-left.left + 1 = omega (arith, c.loop-left.invariant.0) in (
      omega (arith, c.loop-left.invariant.0),
      rw (c.columns-columns.ensures.0, e) (next_behind c.args.first (c.args.count - c.loop-left.left) g.R.Rows.columns c.loop-left.invariant.1),
      rw e (going_turn c.loop-left.invariant.2 c.plain-k.ensures (omega (arith, c.loop-left.invariant.0)) (omega (arith, z))),
    )

pub returns : goal.returns
returns g c =
    let e : c.args.count - c.loop-left.left ≡ c.args.count = omega arith in
    going_end {i = c.args.count} (rw e at c.loop-left.invariant.2) (omega arith)
