-- `plain` tests the three bytes and each part that is there.
use mathlib.Core.Bool.{◌&&◌}
use Rattle.scene_groups.proofs.writing.plain.Goals as goal

pub returns : goal.returns
returns c =
    λ i. c.head_fits.ensures i && (c.position_fits-position.ensures i &&
    (c.gain_fits-gain.ensures i && c.language_fits-language.ensures i))
