use Rattle.text_label.specs.Kind.{kind}
use Rattle.text_label.specs.Contract.{sized}
use Rattle.mpegh_c.proofs.Hosted.{unread_measured}
use Rattle.mpegh_c.proofs.text_label_body.unread.Goals as goal

pub returns : goal.returns
returns c = unread_measured kind (λ s. sized s.languages s.entries s.k) c.measure.result c.measure.ensures c.unread.ensures
