-- `scene::parsing::record_at` meets its contract: each field from its byte.
use mathlib.Core.Path.{ap, ◌∙◌}
use native.Mathlib.Omega.{arith}
use Rattle.wire.specs.Bits.{part}
use Rattle.scene.proofs.Found.{at_end, groups_there, switches_there, presets_there, flags_so, recorded}
use Rattle.scene.proofs.parsing.record_at.Goals as goal

pub section_at-requires : goal.section_at-requires
section_at-requires c =
    (groups_there c.requires.0 (c.part-g.ensures ∙ ap (part 7 1) c.wide-flags.ensures), omega arith)

pub reserved_at-requires : goal.reserved_at-requires
reserved_at-requires c =
    (switches_there c.requires.0 (c.part-s.ensures ∙ ap (part 6 1) c.wide-flags.ensures), omega arith, omega arith, omega arith)

pub section_at-requires-2 : goal.section_at-requires-2
section_at-requires-2 c =
    (switches_there c.requires.0 (c.part-s.ensures ∙ ap (part 6 1) c.wide-flags.ensures), omega arith)

pub reserved_at-requires-2 : goal.reserved_at-requires-2
reserved_at-requires-2 c =
    (presets_there c.requires.0 (c.part-q.ensures ∙ ap (part 5 1) c.wide-flags.ensures), omega arith, omega arith, omega arith)

pub section_at-requires-3 : goal.section_at-requires-3
section_at-requires-3 c =
    (presets_there c.requires.0 (c.part-q.ensures ∙ ap (part 5 1) c.wide-flags.ensures), omega arith)

pub reserved_at-requires-3 : goal.reserved_at-requires-3
reserved_at-requires-3 c =
    (groups_there c.requires.0 (c.part-g.ensures ∙ ap (part 7 1) c.wide-flags.ensures), omega arith, omega arith, omega arith)

pub trailing_run-requires : goal.trailing_run-requires
trailing_run-requires c =
    (at_end c.requires.0, c.requires.1)

pub returns : goal.returns
returns c =
    recorded c.requires.0
    c.requires.1
    (flags_so c.wide-flags.ensures c.part-g.ensures c.part-s.ensures c.part-q.ensures)
    (c.part.ensures ∙ ap (part 0 5) c.wide-flags.ensures)
    (c.part-2.ensures ∙ ap (part 0 8) c.wide.ensures)
    c.section_at.ensures c.reserved_at.ensures.0
    c.section_at-2.ensures c.reserved_at-2.ensures.0 c.section_at-3.ensures
    c.reserved_at-3.ensures.0 c.trailing_run.ensures
