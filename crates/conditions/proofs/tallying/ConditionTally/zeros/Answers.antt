-- A condition is taken, and its reserved bits at 0 are counted.
use mathlib.Core.Path.{ap, ◌∙◌}
use mathlib.Core.List.{[], ◌∷◌}
use Rattle.wire.specs.Prog.{done}
use Rattle.wire.specs.Reads.{map_out}
use Rattle.wire.specs.Layout.{of, tally}
use Rattle.conditions.specs.Layout.{condition}
use Rattle.conditions.proofs.tallying.ConditionTally.zeros.Goals as goal

pub returns : goal.returns
returns c =
    let p = c.condition_at-p in
    (ap (λ z. done z p.result.next) c.condition_zeros.ensures.0 ∙ ap (map_out (λ r. tally (condition ∷ []) (of r))) p.ensures, c.condition_zeros.ensures.1)
