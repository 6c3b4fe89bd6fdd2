-- `scene::write` meets its contract: without a section the head and the trailing run; else the check pass, the answer, and the fill pass.
use mathlib.Core.List.{[], ◌∷◌}
use mathlib.Core.Bool.{not}
use mathlib.Core.Path.{ap, ◌∙◌}
use Rattle.wire.proofs.Handed.{handed}
use Rattle.frame.specs.Kind.{Lent}
use Rattle.frame.proofs.Bare.{bare_writes}
use Rattle.frame.proofs.Entries.{writes_refused, fillable, writes_done}
use Rattle.scene_kind.specs.Kind.{kind}
use Rattle.scene_writing.specs.Write.{head_bytes}
use Rattle.scene_writing.proofs.Writes.{scene_acts_lem, bare_acts}
use Rattle.scene.proofs.write.Goals as goal

pub returns-then-not-sections : goal.returns-then-not-sections
unfolding kind
returns-then-not-sections c =
    let m = c.args.m in
    let t : Lent = c.args.groups.now ∷ c.args.switch_groups.now ∷ c.args.members.now ∷ c.args.presets.now ∷ c.args.conditions.now ∷ [] in
    bare_writes kind m t c.args.store.now _ (head_bytes m) (scene_acts_lem m t c.args.store.now ∙ bare_acts m t (ap not c.if-not-sections.true))
    (c.write_bare.ensures.of (head_bytes m) c.head_bytes.ensures)

pub returns-in_err-n : goal.returns-in_err-n
returns-in_err-n c = rw (handed c.from_residual.result c.from_residual.ensures.1) (writes_refused kind _ _ _ c.check-p.ensures _ _ c.in_err-n.ensures)

pub fill-requires : goal.fill-requires
fill-requires c = fillable kind _ _ _ c.check-p.ensures _ c.in_ok-n.ensures

pub returns : goal.returns
returns c = writes_done kind _ _ _ c.check-p.ensures _ c.in_ok-n.ensures c.fill.ensures
