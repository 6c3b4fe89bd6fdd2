-- A preset is stored: its conditions behind its three bytes, and its row.
use mathlib.Core.Path.{refl, ap, ◌∙◌}
use native.Mathlib.Omega.{arith}
use lib.Seq.{sets}
use Rattle.wire.proofs.Layouts.Families.{family_nested}
use Rattle.conditions.specs.Layout.{condition}
use Rattle.presets.specs.Layout.{preset}
use Rattle.presets.specs.declared.rows.GroupPreset.{GroupPreset}
use Rattle.presets.proofs.Taken.{asked, preset_filled, test_so}
use Rattle.presets.proofs.parsing.PresetNest.store.Goals as goal

pub preset_from-row-requires : goal.preset_from-row-requires
preset_from-row-requires c = (asked _ _ _ _ c.requires.0 refl).begun

pub store_rows-next-requires : goal.store_rows-next-requires
store_rows-next-requires c =
    let a = asked _ _ _ _ c.requires.0 (ap (λ (p : GroupPreset). p.conditions.count) c.preset_from-row.ensures) in
    (omega (arith, a.begun), a.sound, tt, a.room)

pub returns : goal.returns
returns c =
    let f = c.requires.0 in
    family_nested preset 13 condition _ _ _ f.begun test_so
    (preset_filled _ _ _ _ f c.preset_from-row.ensures (ap (λ (p : GroupPreset). p.conditions.count) c.preset_from-row.ensures) c.store_rows-next.ensures.0 c.store_rows-next.ensures.1)
    refl (c.put_row.ensures ∙ ap (sets c.args.outer.now c.args.to) c.columns.ensures)
