-- `multi_stream::tally` meets its contract: the reserved bits at 0 of the record.
use Rattle.wire.proofs.Handed.{handed}
use Rattle.frame.proofs.Entries.{tallies_topped, tallies_unmeasured}
use Rattle.multi_stream.specs.Kind.{kind}
use Rattle.multi_stream.specs.Contract.{zeros_of}
use Rattle.multi_stream.proofs.Sighted.{zeros_are}
use Rattle.multi_stream.proofs.tally.Goals as goal

pub returns : goal.returns
returns c = rw c.zero_bits.ensures (tallies_topped kind _ c.in_ok-s.ensures zeros_of zeros_are c.record_at.ensures)

pub returns-in_err-s : goal.returns-in_err-s
returns-in_err-s c = rw (handed c.from_residual.result c.from_residual.ensures.1) (tallies_unmeasured kind _ c.in_err-s.ensures)
