-- `base::measure` meets its contract: where the walk along the body ends.
use Rattle.wire.proofs.Handed.{handed}
use Rattle.frame.proofs.Entries.{measures_long, measures_by, measures_cut}
use Rattle.base.specs.Rows.{Tree}
use Rattle.base.specs.Kind.{kind}
use Rattle.base.specs.Contract.{sized}
use Rattle.base.proofs.Parsed.{sizes_are}
use Rattle.base.proofs.measure.Goals as goal

pub returns-then-body-gt65535 : goal.returns-then-body-gt65535
returns-then-body-gt65535 c =
    measures_long kind _ c.if-body-gt65535.true

pub returns : goal.returns
returns c =
    measures_by kind (λ (t : Tree). tt) _ c.if-body-gt65535.false (λ u k. sized k) sizes_are c.in_ok-k.ensures

pub returns-in_err-k : goal.returns-in_err-k
returns-in_err-k c = rw (handed c.from_residual.result c.from_residual.ensures.1) (measures_cut kind (λ (t : Tree). tt) _ c.if-body-gt65535.false c.in_err-k.ensures)
