-- `scene::parsing::rows_at` meets its contract.
use Rattle.scene.proofs.Sections.{rows_at_so}
use Rattle.scene.proofs.parsing.rows_at.Goals as goal

pub returns : goal.returns
returns c =
    rows_at_so _ _ c.size.ensures
