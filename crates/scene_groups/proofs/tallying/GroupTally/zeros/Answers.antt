-- A group is taken, and its reserved bits at 0 are counted.
use mathlib.Core.Path.{ap, ◌∙◌}
use mathlib.Core.List.{[], ◌∷◌}
use Rattle.wire.specs.Prog.{done}
use Rattle.wire.specs.Reads.{map_out}
use Rattle.wire.specs.Layout.{of, tally}
use Rattle.scene_groups.specs.Layout.{group}
use Rattle.scene_groups.proofs.tallying.GroupTally.zeros.Goals as goal

pub returns : goal.returns
returns c =
    let p = c.group_at-p in
    (ap (λ z. done z p.result.next) c.group_zeros.ensures.0 ∙ ap (map_out (λ r. tally (group ∷ []) (of r))) p.ensures, c.group_zeros.ensures.1)
