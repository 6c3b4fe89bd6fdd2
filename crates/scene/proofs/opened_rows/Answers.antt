-- `scene::opened_rows` meets its contract: the sections, or why there are none.
use native.Mathlib.Omega.{arith}
use Rattle.wire.proofs.Handed.{handed}
use Rattle.frame.proofs.Entries.{measures_short, reads_unmeasured}
use Rattle.scene_kind.specs.Kind.{kind}
use Rattle.scene.proofs.opened_rows.Goals as goal

pub returns-in_err-p : goal.returns-in_err-p
unfolding kind
returns-in_err-p c =
    rw (handed c.from_residual.result c.from_residual.ensures.1)
    (record { gives = reads_unmeasured kind _ (measures_short kind _ (omega (arith, c.requires)) c.in_err-p.ensures.finds) _ })
