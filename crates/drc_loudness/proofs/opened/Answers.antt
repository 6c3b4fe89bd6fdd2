-- `drc_loudness::opened` meets its contract: what stands before the lists, and what is behind it.
use Rattle.wire.proofs.Handed.{handed}
use Rattle.frame.proofs.Entries.{reads_unmeasured}
use Rattle.drc_kind.specs.Kind.{kind}
use Rattle.drc_loudness.proofs.Walked.{begins, headless}
use Rattle.drc_loudness.proofs.opened.Goals as goal

pub opened_behind-requires : goal.opened_behind-requires
opened_behind-requires c = begins c.args.body.now c.in_ok-n.ensures

pub returns-in_err-n : goal.returns-in_err-n
returns-in_err-n c =
    rw (handed c.from_residual.result c.from_residual.ensures.1)
    (record { gives = reads_unmeasured kind _ (headless c.args.body.now c.in_err-n.ensures) _ })
