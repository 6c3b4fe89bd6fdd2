-- `mpegh_c::drc_loudness_body::mpegh_drc_loudness_write` meets its contract.
use Rattle.drc_kind.specs.Kind.{kind}
use Rattle.mpegh_c.proofs.Hosted.{writes}
use Rattle.mpegh_c.proofs.drc_loudness_body.mpegh_drc_loudness_write.Goals as goal

pub returns : goal.returns
returns c =
    writes kind c.write.ensures c.written_code.ensures
