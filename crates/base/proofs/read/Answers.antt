-- `base::read` meets its contract: the measure and the record; there are no tables.
use mathlib.Core.List.{[]}
use Rattle.wire.proofs.Handed.{handed}
use Rattle.frame.specs.Entry.{lacking, filled}
use Rattle.frame.specs.Body.{tables}
use Rattle.frame.proofs.Entries.{reads_unmeasured, reads_filled}
use Rattle.base.specs.Kind.{kind}
use Rattle.base.proofs.read.Goals as goal

pub record_at-requires : goal.record_at-requires
record_at-requires c = c.in_ok-s.ensures

pub returns : goal.returns
unfolding kind tables lacking filled
returns c = search (reads_filled, c.in_ok-s.ensures)

pub returns-in_err-s : goal.returns-in_err-s
returns-in_err-s c = rw (handed c.from_residual.result c.from_residual.ensures.1) (reads_unmeasured kind _ c.in_err-s.ensures [])
