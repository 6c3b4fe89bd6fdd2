use mathlib.Core.Bool.{◌&&◌}
use mathlib.Core.Path.{◌∙◌}
use Rattle.scene_groups.proofs.Writes.{position_fit}
use Rattle.scene_groups.proofs.writing.position_columns_fit.Goals as goal

pub returns : goal.returns
returns c = (λ i. c.four_fit-azimuths.ensures i && (c.four_fit-elevations.ensures i && c.two_fit-distances.ensures i)) ∙ position_fit c.args.p
