-- `scene::parsing::fill` meets its contract: section after section.
use mathlib.Core.Path.{ap, ◌∙◌}
use Rattle.wire.specs.Bits.{part}
use Rattle.scene.proofs.Found.{flags_so}
use Rattle.scene.proofs.Stored.{groups_ask, switches_ask, presets_ask, stored}
use Rattle.scene.proofs.parsing.fill.Goals as goal

pub fill_groups_section-requires : goal.fill_groups_section-requires
fill_groups_section-requires c =
    groups_ask c.requires.0
    c.requires.1 _ _ _ _ _
    c.requires.2
    (c.part.ensures ∙ ap (part 7 1) c.wide-flags.ensures)

pub nest_section-requires : goal.nest_section-requires
nest_section-requires c =
    switches_ask c.requires.0 c.requires.1 _ _ _ _ _ c.requires.2 (c.part-s.ensures ∙ ap (part 6 1) c.wide-flags.ensures)

pub nest_section-requires-2 : goal.nest_section-requires-2
nest_section-requires-2 c =
    presets_ask c.requires.0 c.requires.1 _ _ _ _ _ c.requires.2 (c.part-q.ensures ∙ ap (part 5 1) c.wide-flags.ensures)

pub returns : goal.returns
returns c =
    stored c.requires.0 c.requires.1 _ _ _ _ _
    (flags_so c.wide-flags.ensures c.part.ensures c.part-s.ensures c.part-q.ensures)
    c.requires.2 c.fill_groups_section.ensures c.nest_section.ensures c.nest_section-2.ensures
