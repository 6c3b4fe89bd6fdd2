-- `mpegh_c::multi_stream_body::mpegh_multi_stream_write` meets its contract.
use Rattle.multi_stream.specs.Kind.{kind}
use Rattle.mpegh_c.proofs.Hosted.{writes}
use Rattle.mpegh_c.proofs.multi_stream_body.mpegh_multi_stream_write.Goals as goal

pub returns : goal.returns
returns c =
    writes kind c.write.ensures c.written_code.ensures
