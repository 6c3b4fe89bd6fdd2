-- The reads of a group end here: three bytes, the single bytes of its parts, and the language as one read.
use mathlib.Core.Path.{refl, sym, ◌∙◌}
use native.Mathlib.Omega.{arith}
use Rattle.wire.specs.Straight.{ones}
use Rattle.wire.proofs.Handed.{handed}
use Rattle.wire.proofs.Layouts.Straight.{ends_cut}
use Rattle.scene_groups.proofs.Groups.{group_ends, three, singly, singly_cut, with_language, no_language_lem}
use Rattle.scene_groups.proofs.parsing.GroupMeasure.end.Goals as goal

pub returns-in_err-n : goal.returns-in_err-n
returns-in_err-n c = rw (handed c.from_residual.result c.from_residual.ensures.1) (ends_cut (ones 3) _ _ _ c.in_err-n.ensures ∙ sym (group_ends _ _))

pub bounds-body-at : goal.bounds-body-at
bounds-body-at c = let h = (three _ _ c.requires c.in_ok-n.ensures).there in omega arith

pub head-requires-2 : goal.head-requires-2
head-requires-2 c = ((three _ _ c.requires c.in_ok-n.ensures).inside, omega (arith, c.singles.ensures.1))

pub returns-in_err-m : goal.returns-in_err-m
returns-in_err-m c =
    rw (handed c.from_residual-in_err-m.result c.from_residual-in_err-m.ensures.1)
    (singly_cut _ (three _ _ c.requires c.in_ok-n.ensures) c.wide-flags.ensures c.singles.ensures.0 c.in_err-m.ensures)

pub bytes_end-requires : goal.bytes_end-requires
bytes_end-requires c =
    ((singly _ (three _ _ c.requires c.in_ok-n.ensures) c.wide-flags.ensures c.singles.ensures.0 c.in_ok-m.ensures).inside, omega arith)

pub returns-then-part-eq1 : goal.returns-then-part-eq1
returns-then-part-eq1 c =
    with_language (singly _ (three _ _ c.requires c.in_ok-n.ensures) c.wide-flags.ensures c.singles.ensures.0 c.in_ok-m.ensures) c.wide-flags.ensures
    c.part.ensures c.if-part-eq1.true c.bytes_end.ensures

pub returns-else-part-eq1 : goal.returns-else-part-eq1
returns-else-part-eq1 c =
    no_language_lem (singly _ (three _ _ c.requires c.in_ok-n.ensures) c.wide-flags.ensures c.singles.ensures.0 c.in_ok-m.ensures) c.wide-flags.ensures
    c.part.ensures c.if-part-eq1.false refl
