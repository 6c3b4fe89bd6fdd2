-- `text_label::write` meets its contract: what is answered after the check pass, and the fill pass.
use Rattle.wire.proofs.Handed.{handed}
use Rattle.frame.proofs.Entries.{writes_refused, fillable, writes_done}
use Rattle.text_label.specs.Kind.{kind}
use Rattle.text_label.proofs.write.Goals as goal

pub returns-in_err-n : goal.returns-in_err-n
returns-in_err-n c = rw (handed c.from_residual.result c.from_residual.ensures.1) (writes_refused kind _ _ _ c.check.ensures _ _ c.in_err-n.ensures)

pub fill-requires : goal.fill-requires
fill-requires c = fillable kind _ _ _ c.check.ensures _ c.in_ok-n.ensures

pub returns : goal.returns
returns c = writes_done kind _ _ _ c.check.ensures _ c.in_ok-n.ensures c.fill.ensures
