-- The conditions of a preset: as many as its third byte says, behind it.
use native.Mathlib.Omega.{arith}
use Rattle.wire.proofs.Handed.{handed}
use Rattle.presets.proofs.Taken.{three, three_lack, preset_lacks, preset_got}
use Rattle.presets.proofs.parsing.PresetCount.kids.Goals as goal

pub returns-in_err-n : goal.returns-in_err-n
returns-in_err-n c = rw (handed c.from_residual.result c.from_residual.ensures.1) (three_lack _ _ c.requires c.in_err-n.ensures)

pub bounds-body-at : goal.bounds-body-at
bounds-body-at c = let h = (three _ _ c.requires c.in_ok-n.ensures).there in omega arith

pub rows_end-requires : goal.rows_end-requires
rows_end-requires c = (three _ _ c.requires c.in_ok-n.ensures).inside

pub returns-in_err-next : goal.returns-in_err-next
returns-in_err-next c =
    rw (handed c.from_residual-in_err-next.result c.from_residual-in_err-next.ensures.1)
    (preset_lacks _ _ c.requires (three _ _ c.requires c.in_ok-n.ensures) c.count_of-count.ensures.0 c.in_err-next.ensures)

pub returns : goal.returns
returns c =
    preset_got _ _ c.requires (three _ _ c.requires c.in_ok-n.ensures) c.count_of-count.ensures.0 c.in_ok-next.ensures c.count_of-count.ensures.1
