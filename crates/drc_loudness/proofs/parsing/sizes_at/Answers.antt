-- `drc_loudness::parsing::sizes_at` meets its contract: the counts of the info, and what the walk counted.
use mathlib.Core.Path.{refl, ap}
use Rattle.drc_kind.specs.declared.rows.Info.{Info}
use Rattle.drc_loudness.proofs.Walked.{first_there}
use Rattle.drc_loudness.proofs.Found.{counted}
use Rattle.drc_loudness.proofs.parsing.sizes_at.Goals as goal

pub info_at-requires : goal.info_at-requires
info_at-requires c =
    (first_there c.requires.0, c.requires.0.head)

pub returns : goal.returns
returns c =
    counted c.requires.0 c.requires.1
    (ap (λ (i : Info). i.part) c.info_at.ensures) refl refl refl refl refl
