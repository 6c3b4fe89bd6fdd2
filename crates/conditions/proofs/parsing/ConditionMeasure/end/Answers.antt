-- A condition ends behind its byte, or behind its detail.
use mathlib.Core.Path.{refl, sym, ◌∙◌}
use Rattle.wire.specs.Straight.{ones}
use Rattle.wire.proofs.Handed.{handed}
use Rattle.wire.proofs.Layouts.Straight.{behind_one, ends_cut}
use Rattle.conditions.proofs.Taken.{condition_ends, with_detail, no_detail_lem}
use Rattle.conditions.proofs.parsing.ConditionMeasure.end.Goals as goal

pub returns-in_err-n : goal.returns-in_err-n
returns-in_err-n c =
    rw (handed c.from_residual.result c.from_residual.ensures.1) (ends_cut (ones 1) _ _ _ c.in_err-n.ensures ∙ sym (condition_ends _ _))

pub bounds-body-at : goal.bounds-body-at
bounds-body-at c = (behind_one _ _ c.requires c.in_ok-n.ensures).there

pub detail_end-requires : goal.detail_end-requires
detail_end-requires c = (behind_one _ _ c.requires c.in_ok-n.ensures).inside

pub returns-then-part-eq1 : goal.returns-then-part-eq1
returns-then-part-eq1 c = with_detail (behind_one _ _ c.requires c.in_ok-n.ensures) c.wide.ensures c.part.ensures c.if-part-eq1.true c.detail_end.ensures

pub returns-else-part-eq1 : goal.returns-else-part-eq1
returns-else-part-eq1 c = no_detail_lem (behind_one _ _ c.requires c.in_ok-n.ensures) c.wide.ensures c.part.ensures c.if-part-eq1.false refl
