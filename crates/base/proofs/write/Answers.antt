-- `base::write` meets its contract: without sets the head and the trailing run; else what is answered after the check pass, and the fill pass.
use mathlib.Core.List.{[]}
use mathlib.Core.Path.{◌∙◌}
use native.Mathlib.Omega.{arith}
use Rattle.wire.proofs.Handed.{handed}
use Rattle.frame.proofs.Bare.{heads, bare_writes}
use Rattle.frame.proofs.Entries.{writes_refused, fillable, writes_done}
use Rattle.base.specs.Write.{head_fields}
use Rattle.base.specs.Kind.{kind}
use Rattle.base.proofs.Mirrored.{written_so, bare_acts}
use Rattle.base.proofs.write.Goals as goal

pub write_bare-requires : goal.write_bare-requires
write_bare-requires c =
    heads (head_fields c.args.m) c.head_bytes.ensures (omega arith)

pub returns-then-not-m : goal.returns-then-not-m
unfolding kind
returns-then-not-m c =
    let m = c.args.m in
    bare_writes kind m [] c.args.store.now _ (head_fields m) (written_so m c.args.store.now [] ∙ bare_acts m c.args.store.now c.if-not-m.true)
    (c.write_bare.ensures.of (head_fields m) c.head_bytes.ensures)

pub returns-in_err-n : goal.returns-in_err-n
returns-in_err-n c = rw (handed c.from_residual.result c.from_residual.ensures.1) (writes_refused kind _ _ _ c.check.ensures _ _ c.in_err-n.ensures)

pub fill-requires : goal.fill-requires
fill-requires c = fillable kind _ _ _ c.check.ensures _ c.in_ok-n.ensures

pub returns : goal.returns
returns c = writes_done kind _ _ _ c.check.ensures _ c.in_ok-n.ensures c.fill.ensures
