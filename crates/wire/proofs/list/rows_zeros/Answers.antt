use native.Mathlib.Omega.{arith}
use Rattle.wire.proofs.Reading.Loops.{sum_start, sum_next, sum_turn, sum_end, all_left, one_less_left, most_left}
use Rattle.wire.proofs.list.rows_zeros.Goals as goal

pub loop-init : goal.loop-init
loop-init g c = rw all_left (sum_start (g.R.Tally.reads c.args.row.now) (g.R.Tally.zeros c.args.row.now) g.R.Tally.most c.args.body.now c.args.at c.args.count c.requires.0)

pub zeros-z-requires : goal.zeros-z-requires
zeros-z-requires g c =
    let i = c.loop.invariant in
    let w = c.requires in
    (i.carries.inside, sum_next (g.R.Tally.reads c.args.row.now) i (omega arith) w.1, w.2)

pub overflow_add-zeros : goal.overflow_add-zeros
overflow_add-zeros g c = omega (arith, c.loop.invariant.small, most_left g.R.Tally.most c.args.count c.loop.counter (omega arith), c.zeros-z.ensures.1, c.requires.3)

pub loop-preserved : goal.loop-preserved
loop-preserved g c =
    rw one_less_left
    (sum_turn (g.R.Tally.reads c.args.row.now) (g.R.Tally.zeros c.args.row.now) g.R.Tally.most c.args.body.now c.args.at c.args.count c.loop.invariant (omega arith)
    (record { is = c.zeros-z.ensures.0; small = c.zeros-z.ensures.1 }))

pub returns : goal.returns
returns g c =
    let x = sum_end (g.R.Tally.reads c.args.row.now) (g.R.Tally.zeros c.args.row.now) g.R.Tally.most c.args.body.now c.args.at c.args.count c.loop.invariant (omega arith) in
    (x.is, x.small)
