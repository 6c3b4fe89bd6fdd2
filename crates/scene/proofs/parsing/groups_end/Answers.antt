-- `scene::parsing::groups_end` meets its contract: the byte of the section, if it is there, and the groups behind it.
use native.Mathlib.Omega.{arith}
use Rattle.wire.specs.Layout.{flat}
use Rattle.scene_groups.specs.Layout.{group}
use Rattle.wire.proofs.Handed.{handed}
use Rattle.scene.proofs.Sections.{begins, section_cut_off, section_ends}
use Rattle.scene.proofs.parsing.groups_end.Goals as goal

pub returns-in_err-n : goal.returns-in_err-n
returns-in_err-n c =
    rw (handed c.from_residual.result c.from_residual.ensures.1) (section_cut_off (flat 27 group) 1 7 1 _ _ _ c.size.ensures c.in_err-n.ensures)

pub count_at-requires : goal.count_at-requires
count_at-requires c = ((begins _ _ _ c.requires c.size.ensures c.in_ok-n.ensures).there_is, omega arith)

pub rows_end-requires : goal.rows_end-requires
rows_end-requires c = (begins _ _ _ c.requires c.size.ensures c.in_ok-n.ensures).inside

pub returns : goal.returns
returns c =
    section_ends (flat 27 group) 1 7 1 _ _ _ (begins _ _ _ c.requires c.size.ensures c.in_ok-n.ensures) c.count_at.ensures.0 c.rows_end.ensures
