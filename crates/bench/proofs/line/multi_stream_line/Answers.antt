-- What was measured and tallied, or the first refusal.
use Rattle.std.proofs.Common.{◌∙◌}
use Rattle.wire.proofs.Handed.{handed}
use Rattle.bench.proofs.Decided.{measure_refused, tally_refused, both}
use Rattle.bench.proofs.line.multi_stream_line.Goals as goal

pub returns-in_err-s : goal.returns-in_err-s
returns-in_err-s c = rw (handed c.from_residual.result c.from_residual.ensures.1) (measure_refused _ c.in_err-s.ensures.promised)

pub returns-in_err-tally : goal.returns-in_err-tally
returns-in_err-tally c =
    rw (handed c.from_residual-in_err-tally.result c.from_residual-in_err-tally.ensures.1) (tally_refused c.in_ok-s.ensures.promised c.in_err-tally.ensures.promised)

pub returns : goal.returns
returns c = c.told.ensures ∙ both c.in_ok-s.ensures.promised c.in_ok-tally.ensures.promised
