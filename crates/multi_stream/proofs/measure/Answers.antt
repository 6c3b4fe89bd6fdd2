-- `multi_stream::measure` meets its contract: what the walk along the body sums up.
use native.Mathlib.Omega.{arith}
use lib.ListN.{length}
use Rattle.wire.proofs.Handed.{handed}
use Rattle.frame.proofs.Entries.{measures_long, measures_by, measures_cut}
use Rattle.multi_stream.specs.Rows.{MultiStream}
use Rattle.multi_stream.specs.Kind.{kind}
use Rattle.multi_stream.specs.Contract.{sized}
use Rattle.multi_stream.proofs.Sighted.{sizes_are}
use Rattle.multi_stream.proofs.measure.Goals as goal

pub returns-then-body-gt65535 : goal.returns-then-body-gt65535
returns-then-body-gt65535 c =
    measures_long kind _ c.if-body-gt65535.true

pub overflow_cast-result : goal.overflow_cast-result
overflow_cast-result c =
    record { fits = omega (arith, c.in_ok-groups.ensures.small) }

pub returns : goal.returns
returns c =
    measures_by kind (λ (t : MultiStream). length t.1.0) _ c.if-body-gt65535.false sized sizes_are c.in_ok-groups.ensures.is

pub returns-in_err-groups : goal.returns-in_err-groups
returns-in_err-groups c =
    rw (handed c.from_residual.result c.from_residual.ensures.1)
    (measures_cut kind (λ (t : MultiStream). length t.1.0) _ c.if-body-gt65535.false c.in_err-groups.ensures.is)
