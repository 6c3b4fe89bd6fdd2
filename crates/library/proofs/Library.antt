-- The one theorem of the library: each of its parts is proved in the crate of its kind.
use Rattle.frame.proofs.Numbers as N
use Rattle.base.proofs.Claims as Base
use Rattle.scene.proofs.Claims as Scene
use Rattle.text_label.proofs.Claims as TextLabel
use Rattle.multi_stream.proofs.Claims as MultiStream
use Rattle.drc_loudness.proofs.Claims as DrcLoudness
use Rattle.library.specs.Library.{Library}
use Rattle.library.proofs.Starred as S

pub library : Library
library = record {
  base = Base.claims;
  scene = Scene.claims;
  text_label = TextLabel.claims;
  multi_stream = MultiStream.claims;
  drc_loudness = DrcLoudness.claims;
  told = N.told;
  base_fixed = Base.fixed;
  scene_fixed = Scene.fixed;
  text_label_fixed = TextLabel.fixed;
  multi_stream_fixed = MultiStream.fixed;
  drc_loudness_fixed = DrcLoudness.fixed;
  starred = S.starred;
}
