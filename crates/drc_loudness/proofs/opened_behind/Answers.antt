-- `drc_loudness::opened_behind` meets its contract: without info it is done; else the walk decides, or the rows are read.
use native.Mathlib.Omega.{arith}
use Rattle.wire.proofs.Handed.{handed}
use Rattle.frame.proofs.Entries.{measures_long, measures_short, reads_unmeasured}
use Rattle.drc_kind.specs.Kind.{kind}
use Rattle.drc_loudness.proofs.Walked.{info_read, none_found}
use Rattle.drc_loudness.proofs.Found.{bare_opens}
use Rattle.drc_loudness.proofs.opened_behind.Goals as goal

pub returns-then-body-gt65535 : goal.returns-then-body-gt65535
returns-then-body-gt65535 c =
    record { gives = reads_unmeasured kind _ (measures_long kind _ c.if-body-gt65535.true) _ }

pub walk_lists-requires : goal.walk_lists-requires
walk_lists-requires c =
    info_read c.requires c.if-n-eq4.true

pub returns-in_err-p : goal.returns-in_err-p
returns-in_err-p c =
    rw (handed c.from_residual.result c.from_residual.ensures.1)
    (record { gives = reads_unmeasured kind _ (measures_short kind _ (omega (arith, c.if-body-gt65535.false)) c.in_err-p.ensures.finds) _ })

pub returns-else-n-eq4 : goal.returns-else-n-eq4
returns-else-n-eq4 c =
    bare_opens (none_found c.requires c.if-n-eq4.false c.nowhere.ensures)
    (omega (arith, c.if-body-gt65535.false)) _ _ _ _
