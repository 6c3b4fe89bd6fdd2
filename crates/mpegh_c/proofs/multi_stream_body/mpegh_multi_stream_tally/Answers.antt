-- `mpegh_c::multi_stream_body::mpegh_multi_stream_tally` meets its contract.
use Rattle.multi_stream.specs.Kind.{kind}
use Rattle.mpegh_c.proofs.Hosted.{tallies}
use Rattle.mpegh_c.proofs.multi_stream_body.mpegh_multi_stream_tally.Goals as goal

pub returns : goal.returns
returns c =
    tallies kind c.tally.ensures c.tallied_code.ensures
