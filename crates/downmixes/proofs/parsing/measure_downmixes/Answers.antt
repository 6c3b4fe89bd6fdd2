-- `parsing::measure_downmixes` meets its contract: two reads of one byte for each row are one comparison.
use mathlib.Core.Path.{◌∙◌}
use Rattle.downmixes.proofs.Downmixes.{downmixes_end}
use Rattle.downmixes.proofs.parsing.measure_downmixes.Goals as goal

pub returns : goal.returns
returns c =
    c.head.ensures ∙ downmixes_end _ _ _
