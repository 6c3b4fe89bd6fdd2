-- `scene::opened` meets its contract: the first look decides, or the rows are read.
use native.Mathlib.Omega.{arith}
use Rattle.wire.proofs.Handed.{handed}
use Rattle.frame.proofs.Entries.{measures_long, measures_short, reads_unmeasured}
use Rattle.scene_kind.specs.Kind.{kind}
use Rattle.scene.proofs.Bare.{bare_opens}
use Rattle.scene.proofs.opened.Goals as goal

pub returns-then-body-gt65535 : goal.returns-then-body-gt65535
returns-then-body-gt65535 c = record { gives = reads_unmeasured kind _ (measures_long kind _ c.if-body-gt65535.true) _ }

pub returns-in_err-bare : goal.returns-in_err-bare
unfolding kind
returns-in_err-bare c =
    rw (handed c.from_residual.result c.from_residual.ensures.1)
    (record { gives = reads_unmeasured kind _ (measures_short kind _ (omega (arith, c.if-body-gt65535.false)) c.in_err-bare.ensures.sees) _ })

pub returns-in-Some : goal.returns-in-Some
returns-in-Some c = bare_opens (rw c.in-Some.is at c.in_ok-bare.ensures).sees (omega (arith, c.if-body-gt65535.false)) _ _ _ _ _
