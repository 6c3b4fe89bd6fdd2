use mathlib.Core.Path.{◌∙◌}
use Rattle.scene_groups.proofs.Writes.{gain_fit}
use Rattle.scene_groups.proofs.writing.gain_columns_fit.Goals as goal

pub returns : goal.returns
returns c = c.four_fit.ensures ∙ gain_fit c.args.g
