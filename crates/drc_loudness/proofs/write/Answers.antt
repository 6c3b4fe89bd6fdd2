-- `drc_loudness::write` meets its contract: without info the head and the trailing run; else the check pass, the answer, and the fill pass.
use mathlib.Core.List.{[], ◌∷◌}
use mathlib.Core.Path.{◌∙◌}
use Rattle.wire.proofs.Handed.{handed}
use Rattle.frame.specs.Kind.{Lent}
use Rattle.frame.proofs.Bare.{bare_writes}
use Rattle.frame.proofs.Entries.{writes_refused, fillable, writes_done}
use Rattle.drc_kind.specs.Kind.{kind}
use Rattle.drc_writing.specs.Write.{head_fields}
use Rattle.drc_writing.proofs.Writes.{drc_acts_lem, bare_acts}
use Rattle.drc_loudness.proofs.write.Goals as goal

pub returns-then-not-m : goal.returns-then-not-m
unfolding kind
returns-then-not-m c =
    let m = c.args.m in
    let t : Lent = c.args.instructions.now ∷ c.args.additional.now ∷ c.args.loudness.now ∷ c.args.downmixes.now ∷ [] in
    bare_writes kind m t c.args.store.now _ (head_fields m) (drc_acts_lem m t c.args.store.now ∙ bare_acts m t c.args.store.now c.if-not-m.true)
    (c.write_bare.ensures.of (head_fields m) c.head_bytes.ensures)

pub returns-in_err-n : goal.returns-in_err-n
returns-in_err-n c = rw (handed c.from_residual.result c.from_residual.ensures.1) (writes_refused kind _ _ _ c.check-p.ensures _ _ c.in_err-n.ensures)

pub fill-requires : goal.fill-requires
fill-requires c =
    fillable kind _ _ _ c.check-p.ensures _ c.in_ok-n.ensures

pub returns : goal.returns
returns c =
    writes_done kind _ _ _ c.check-p.ensures _ c.in_ok-n.ensures c.fill.ensures
