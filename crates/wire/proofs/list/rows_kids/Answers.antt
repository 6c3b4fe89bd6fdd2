use native.Mathlib.Omega.{arith}
use Rattle.wire.proofs.Handed.{handed}
use Rattle.wire.proofs.Reading.Loops.{sum_start, sum_turn, sum_cut, sum_end, all_left, one_less_left, most_left}
use Rattle.wire.proofs.list.rows_kids.Goals as goal

pub loop-init : goal.loop-init
loop-init g c = rw all_left (sum_start (g.R.Count.reads c.args.row.now) (g.R.Count.kids c.args.row.now) g.R.Count.most c.args.body.now c.args.at c.args.count c.requires.0)

pub kids-requires : goal.kids-requires
kids-requires g c = c.loop.invariant.carries.inside

pub overflow_add-kids : goal.overflow_add-kids
overflow_add-kids g c = omega (arith, c.loop.invariant.small, most_left g.R.Count.most c.args.count c.loop.counter (omega arith), c.in_ok-n.ensures.small, c.requires.1)

pub returns-in_err-n : goal.returns-in_err-n
returns-in_err-n g c =
    rw (handed c.from_residual.result c.from_residual.ensures.1)
    (sum_cut (g.R.Count.reads c.args.row.now) (g.R.Count.kids c.args.row.now) g.R.Count.most c.args.body.now c.args.at c.args.count c.loop.invariant (omega arith) c.in_err-n.ensures)

pub loop-preserved : goal.loop-preserved
loop-preserved g c =
    rw one_less_left
    (sum_turn (g.R.Count.reads c.args.row.now) (g.R.Count.kids c.args.row.now) g.R.Count.most c.args.body.now c.args.at c.args.count c.loop.invariant (omega arith) c.in_ok-n.ensures)

pub returns : goal.returns
returns g c = sum_end (g.R.Count.reads c.args.row.now) (g.R.Count.kids c.args.row.now) g.R.Count.most c.args.body.now c.args.at c.args.count c.loop.invariant (omega arith)
