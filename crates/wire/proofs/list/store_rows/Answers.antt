use mathlib.Core.Path.{refl, sym}
use native.Mathlib.Omega.{arith}
use Rattle.wire.proofs.Reading.Loops.{fill_next, fill_end, first_done, all_left, one_less_left, most_left}
use Rattle.wire.proofs.list.store_rows.Goals as goal

pub loop-init : goal.loop-init
loop-init g c = let w = c.requires in rw all_left (record { inside = w.0; long = refl; place = refl; sound = w.1; end = refl; stored = refl })

pub store-pos-requires : goal.store-pos-requires
store-pos-requires g c =
    let i = c.loop.invariant in
    let a = c.args in
    (i.inside, first_done (g.R.Store.reads a.row.now) a.body.now _ c.loop.pos (omega arith) i.sound, c.requires.2, omega (arith, i.long, i.place, c.requires.3, most_left g.R.Store.COLUMNS a.count c.loop.counter (omega arith)))

pub loop-preserved : goal.loop-preserved
loop-preserved g c =
    let a = c.args in
    let w = c.store-pos.ensures in
    rw (one_less_left, c.COLUMNS-to.ensures)
    (fill_next (g.R.Store.reads a.row.now) (g.R.Store.columns a.row.now) g.R.Store.COLUMNS a.body.now a.at a.count _ a.column c.loop.table c.loop.pos _ c.loop.to c.loop.invariant (omega arith) (sym w.reads) w.wide refl w.stored)

pub returns : goal.returns
returns g c =
    let a = c.args in
    fill_end (g.R.Store.reads a.row.now) (g.R.Store.columns a.row.now) g.R.Store.COLUMNS a.body.now a.at a.count _ a.column c.loop.table c.loop.pos _ c.loop.to c.loop.invariant (omega arith)
