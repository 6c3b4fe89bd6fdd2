-- `drc_loudness::parsing::find_lists` meets its contract: what stands before the lists, and the lists.
use Rattle.wire.proofs.Handed.{handed}
use Rattle.drc_loudness.proofs.Walked.{head_cut, begins, info_read, none_found}
use Rattle.drc_loudness.proofs.parsing.find_lists.Goals as goal

pub returns-in_err-n : goal.returns-in_err-n
returns-in_err-n c =
    rw (handed c.from_residual.result c.from_residual.ensures.1) (record { finds = head_cut c.args.body.now c.in_err-n.ensures })

pub walk_lists-requires : goal.walk_lists-requires
walk_lists-requires c =
    info_read (begins c.args.body.now c.in_ok-n.ensures) c.if-n-eq4.true

pub returns-else-n-eq4 : goal.returns-else-n-eq4
returns-else-n-eq4 c =
    record { finds = (none_found (begins c.args.body.now c.in_ok-n.ensures) c.if-n-eq4.false c.nowhere.ensures).found }
