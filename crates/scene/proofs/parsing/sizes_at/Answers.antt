-- `scene::parsing::sizes_at` meets its contract.
use mathlib.Core.Path.{refl, ap, ◌∙◌}
use native.Mathlib.Omega.{arith}
use Rattle.wire.specs.Bits.{part}
use Rattle.scene.proofs.Found.{groups_there, switches_there, presets_there, flags_so, counted}
use Rattle.scene.proofs.parsing.sizes_at.Goals as goal

pub count_at-requires : goal.count_at-requires
count_at-requires c =
    (groups_there c.requires.0 (c.part.ensures ∙ ap (part 7 1) c.wide-flags.ensures), omega arith)

pub count_at-requires-2 : goal.count_at-requires-2
count_at-requires-2 c =
    (switches_there c.requires.0 (c.part-2.ensures ∙ ap (part 6 1) c.wide-flags.ensures), omega arith)

pub count_at-requires-3 : goal.count_at-requires-3
count_at-requires-3 c =
    (presets_there c.requires.0 (c.part-3.ensures ∙ ap (part 5 1) c.wide-flags.ensures), omega arith)

pub returns : goal.returns
returns c =
    counted c.requires.0 c.requires.1
    (flags_so c.wide-flags.ensures c.part.ensures c.part-2.ensures c.part-3.ensures)
    c.count_at.ensures.0 c.count_at-2.ensures.0 refl c.count_at-3.ensures.0 refl refl
