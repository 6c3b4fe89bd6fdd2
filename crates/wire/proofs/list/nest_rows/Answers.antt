use native.Mathlib.Omega.{arith}
use Rattle.wire.proofs.Reading.Loops.{all_left, one_less_left, most_left}
use Rattle.wire.proofs.Reading.Nest.{nest_start, nest_ready, nest_turn, nest_end}
use Rattle.wire.proofs.list.nest_rows.Goals as goal

pub loop-init : goal.loop-init
loop-init g c =
    let a = c.args in
    let n = g.R.Nest in
    let r = a.row.now in
    rw all_left (nest_start (n.reads r) (n.size r) (n.columns r) n.COLUMNS (n.kids r) n.KID_COLUMNS a.body.now a.at a.count a.outer.now a.inner.now c.requires.0)

pub store-requires : goal.store-requires
store-requires g c =
    let a = c.args in
    let n = g.R.Nest in
    let r = a.row.now in
    let i = c.loop.invariant in (
      nest_ready (n.reads r) (n.size r) (n.columns r) n.COLUMNS (n.kids r) n.KID_COLUMNS a.body.now a.at a.count a.outer.now a.inner.now i (omega arith),
      c.requires.1,
      omega (arith, i.long_outer, i.place, c.requires.2, most_left n.COLUMNS a.count c.loop.counter (omega arith)),
    )

pub loop-preserved : goal.loop-preserved
loop-preserved g c =
    let a = c.args in
    let n = g.R.Nest in
    let r = a.row.now in
    let w = c.store.ensures in
    rw (one_less_left, c.COLUMNS-to.ensures)
    (nest_turn (n.reads r) (n.size r) (n.columns r) n.COLUMNS (n.kids r) n.KID_COLUMNS a.body.now a.at a.count a.outer.now a.inner.now c.loop.invariant (omega arith)
    w.reads w.weighs w.wide w.tall w.on w.outer w.inner)

pub returns : goal.returns
returns g c =
    let a = c.args in
    let n = g.R.Nest in
    let r = a.row.now in
    nest_end (n.reads r) (n.size r) (n.columns r) n.COLUMNS (n.kids r) n.KID_COLUMNS a.body.now a.at a.count a.outer.now a.inner.now c.loop.invariant (omega arith)
