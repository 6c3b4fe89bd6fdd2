-- `text_label::tally` meets its contract: the reserved bits at 0 of a body that was measured.
use Rattle.wire.proofs.Handed.{handed}
use Rattle.frame.proofs.Entries.{tallies_unmeasured}
use Rattle.text_label.specs.Kind.{kind}
use Rattle.text_label.proofs.tally.Goals as goal

pub returns-in_err-s : goal.returns-in_err-s
returns-in_err-s c = rw (handed c.from_residual.result c.from_residual.ensures.1) (tallies_unmeasured kind _ c.in_err-s.ensures)
