-- `mpegh_c::text_label_body::mpegh_text_label_write` meets its contract.
use Rattle.text_label.specs.Kind.{kind}
use Rattle.mpegh_c.proofs.Hosted.{writes}
use Rattle.mpegh_c.proofs.text_label_body.mpegh_text_label_write.Goals as goal

pub returns : goal.returns
returns c =
    writes kind c.write.ensures c.written_code.ensures
