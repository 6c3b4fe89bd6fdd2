-- `scene::tally` meets its contract: the zeros of the sections, or why there are none.
use native.Mathlib.Omega.{arith}
use Rattle.wire.proofs.Handed.{handed}
use Rattle.frame.proofs.Entries.{measures_long, measures_short, tallies_unmeasured}
use Rattle.scene_kind.specs.Kind.{kind}
use Rattle.scene.proofs.tally.Goals as goal

pub returns-then-body-gt65535 : goal.returns-then-body-gt65535
returns-then-body-gt65535 c = tallies_unmeasured kind _ (measures_long kind _ c.if-body-gt65535.true)

pub returns-in_err-p : goal.returns-in_err-p
unfolding kind
returns-in_err-p c =
    rw (handed c.from_residual.result c.from_residual.ensures.1)
    (tallies_unmeasured kind _ (measures_short kind _ (omega (arith, c.if-body-gt65535.false)) c.in_err-p.ensures.finds))
