-- `multi_stream::parsing::main_rows` meets its contract: two bytes, and as many groups as the second says.
use mathlib.Core.Path.{refl, sym}
use native.Mathlib.Omega.{arith}
use Rattle.wire.proofs.Handed.{handed}
use Rattle.wire.proofs.Reading.Walk.{run_ret}
use Rattle.wire.proofs.Reading.Loops.{summed_done, summed_short}
use Rattle.wire.proofs.Layouts.Straight.{ones_past}
use Rattle.multi_stream.specs.Read.{main}
use Rattle.multi_stream.proofs.Parsed.{main_cut, groups_cut, groups_summed}
use Rattle.multi_stream.proofs.parsing.main_rows.Goals as goal

pub returns-in_err-n : goal.returns-in_err-n
returns-in_err-n c =
    rw (c.if-present.true, handed c.from_residual.result c.from_residual.ensures.1) (summed_short (main_cut _ _ c.in_err-n.ensures))

pub bounds-body-at : goal.bounds-body-at
bounds-body-at c = let w = ones_past 2 _ _ c.requires c.in_ok-n.ensures in omega (arith, w.inside)

pub measure_groups-requires : goal.measure_groups-requires
measure_groups-requires c = let w = ones_past 2 _ _ c.requires c.in_ok-n.ensures in omega (arith, w.is, w.inside)

pub returns-in_err-k : goal.returns-in_err-k
returns-in_err-k c =
    rw (c.if-present.true, handed c.from_residual-in_err-k.result c.from_residual-in_err-k.ensures.1)
    (groups_cut _ _ c.requires c.in_ok-n.ensures c.wide.ensures c.part-count.ensures c.in_err-k.ensures)

pub returns-in_ok-k : goal.returns-in_ok-k
returns-in_ok-k c =
    rw c.if-present.true (groups_summed _ _ c.requires c.in_ok-n.ensures c.wide.ensures c.part-count.ensures c.in_ok-k.ensures)

pub returns-else-present : goal.returns-else-present
unfolding main
returns-else-present c =
    rw c.if-present.false (summed_done (sym (run_ret _ _ _)) refl (omega arith))
