-- The four ID types in the specification: each test takes two IDs of its own type, and no other.
use Rattle.std.specs.Prelude.{Bool, eqb}
use Rattle.wire.specs.declared.ids.GroupId.{GroupId}
use Rattle.wire.specs.declared.ids.SwitchGroupId.{SwitchGroupId}
use Rattle.wire.specs.declared.ids.GroupPresetId.{GroupPresetId}
use Rattle.wire.specs.declared.ids.DrcSetId.{DrcSetId}

abbrev pub same_group : GroupId → GroupId → Bool
same_group a b = eqb a.0 b.0

abbrev pub same_switch_group : SwitchGroupId → SwitchGroupId → Bool
same_switch_group a b = eqb a.0 b.0

abbrev pub same_group_preset : GroupPresetId → GroupPresetId → Bool
same_group_preset a b = eqb a.0 b.0

abbrev pub same_drc_set : DrcSetId → DrcSetId → Bool
same_drc_set a b = eqb a.0 b.0
