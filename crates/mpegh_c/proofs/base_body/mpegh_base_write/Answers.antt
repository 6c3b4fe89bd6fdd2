-- `mpegh_c::base_body::mpegh_base_write` meets its contract.
use Rattle.base.specs.Kind.{kind}
use Rattle.mpegh_c.proofs.Hosted.{writes}
use Rattle.mpegh_c.proofs.base_body.mpegh_base_write.Goals as goal

pub returns : goal.returns
returns c =
    writes kind c.write.ensures c.written_code.ensures
