-- `written::check_rows` meets its contract: the plain rows, and the row that is not.
use Prim.Native.Nat.{suc, ◌+◌, ◌*◌, ◌≤◌}
use native.Mathlib.Omega.{arith}
use native.Mathlib.Nat.{mul-suc, mul-le-mul_left, mul-le-mul_right}
use Rattle.wire.proofs.Layouts.Families.{kids_checked, kids_stopped}
use Rattle.wire.proofs.written.check_rows.Goals as goal

pub check-requires : goal.check-requires
check-requires g c =
    let i = c.plain_rows-p.result.rows in
    let h : (c.args.first + i + 1) * g.R.Rows.columns ≤ (c.args.first + c.args.count) * g.R.Rows.columns = mul-le-mul_right g.R.Rows.columns (omega arith) in
    let l : g.R.Rows.most * suc i ≤ g.R.Rows.most * c.args.count = mul-le-mul_left g.R.Rows.most (omega arith) in
    (omega (arith, h, c.requires.0), c.requires.1, omega (arith, c.plain_rows-p.ensures.few, mul-suc g.R.Rows.most i, l, c.requires.3))

pub overflow_add-at : goal.overflow_add-at
overflow_add-at g c =
    let l : g.R.Rows.most * c.plain_rows-p.result.rows ≤ g.R.Rows.most * c.args.count = mul-le-mul_left g.R.Rows.most c.plain_rows-p.ensures.within in
    omega (arith, c.plain_rows-p.ensures.few, l, c.requires.3)

pub returns-then-p-count : goal.returns-then-p-count
returns-then-p-count g c = kids_stopped (g.R.Rows.acts c.args.rows.now) c.args.first c.args.count c.plain_rows-p.ensures c.args.n c.if-p-count.true c.check.ensures

pub returns-else-p-count : goal.returns-else-p-count
returns-else-p-count g c = kids_checked (g.R.Rows.acts c.args.rows.now) c.args.first c.args.count c.plain_rows-p.ensures c.args.n c.if-p-count.false
