-- `MpegH3dAudioScene::columns` meets its contract: column by column.
use mathlib.Core.List.{[], ◌∷◌}
use Rattle.scene_kind.proofs.rows.MpegH3dAudioScene.columns.Goals as goal

pub returns : goal.returns
returns c =
    λ i. c.wide.ensures i ∷ c.wide-2.ensures i ∷ c.flag.ensures i ∷ c.args.self.groups.count ∷ c.wide-3.ensures i ∷ c.flag-2.ensures i ∷ c.args.self.switch_groups.count ∷ c.wide-4.ensures i ∷ c.flag-3.ensures i ∷ c.args.self.presets.count ∷ c.wide-5.ensures i ∷ c.args.self.trailing.offset ∷ c.args.self.trailing.length ∷ []
