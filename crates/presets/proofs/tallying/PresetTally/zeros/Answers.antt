-- The tally of a preset: its own reserved bits, and those of its conditions.
use mathlib.Core.Path.{refl, ap}
use mathlib.Core.List.{[], ◌∷◌}
use Rattle.wire.specs.Layout.{of, tally}
use Rattle.wire.proofs.Reading.Loops.{summed_rows}
use Rattle.conditions.specs.Layout.{condition}
use Rattle.presets.specs.declared.rows.GroupPreset.{GroupPreset}
use Rattle.wire.proofs.Fields.{part_below}
use Rattle.presets.proofs.Taken.{tally_asked, preset_tallied}
use borrow.Author.Rules.{rules}
use Rattle.presets.proofs.tallying.PresetTally.zeros.Goals as goal

pub preset_from-p-requires : goal.preset_from-p-requires
preset_from-p-requires c =
    (tally_asked _ _ c.requires.0 c.requires.1 refl).0

pub rows_zeros-c-requires : goal.rows_zeros-c-requires
rows_zeros-c-requires c =
    let (a, b) = tally_asked _ _ c.requires.0 c.requires.1 (ap (λ (p : GroupPreset). p.conditions.count) c.preset_from-p.ensures) in
    (a, b, tt, search rules)

pub returns : goal.returns
returns c =
    let k = ap (λ (p : GroupPreset). p.conditions.count) c.preset_from-p.ensures in
    let (z, n) = summed_rows (λ r. tally (condition ∷ []) (of r)) _ c.rows_zeros-c.ensures.0 in
    (preset_tallied _ _ c.requires.0 c.requires.1 c.preset_from-p.ensures k c.preset_zeros.ensures.0 z n, search (rules, part_below, k))
