-- `drc_loudness::parsing::record_at` meets its contract: the columns from the first bytes, the trailing run from k.
use mathlib.Core.Path.{ap, ◌∙◌}
use native.Mathlib.Omega.{arith}
use Rattle.wire.specs.Bits.{part}
use Rattle.drc_loudness.proofs.Walked.{first_there}
use Rattle.drc_loudness.proofs.Found.{at_end, recorded}
use Rattle.drc_loudness.proofs.parsing.record_at.Goals as goal

pub bounds-body-0 : goal.bounds-body-0
bounds-body-0 c =
    omega (arith, first_there c.requires.0)

pub info_at-requires : goal.info_at-requires
info_at-requires c =
    (first_there c.requires.0, c.requires.0.head)

pub trailing_run-requires : goal.trailing_run-requires
trailing_run-requires c =
    (at_end c.requires.0, c.requires.1)

pub returns : goal.returns
returns c =
    recorded c.requires.0 c.requires.1
    (c.part.ensures ∙ ap (part 1 7) c.wide.ensures) c.info_at.ensures c.trailing_run.ensures
