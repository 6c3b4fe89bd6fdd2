-- The scene body (kind 2) from its syntax tables: the top record in three pieces, each with the list of its section behind it.
use Rattle.wire.specs.Layout.{end}
use Rattle.frame.specs.Kind.{Kind}
use Rattle.frame.specs.Body as B
use Rattle.frame.specs.Body.{flat_row_type, family_rows, plainly, Pieces, last, list, ◌▸◌, Body}
use Rattle.scene_groups.specs.Layout.{group}
use Rattle.switch_groups.specs.Layout.{member, switch_group}
use Rattle.presets.specs.Layout.{preset}
use Rattle.conditions.specs.Layout.{condition}
use Rattle.scene_kind.specs.declared.rows.MpegH3dAudioScene.{MpegH3dAudioScene}
use Rattle.scene_kind.specs.Layout.{groups, switch_group_list, presets, absent}
use Rattle.scene_kind.specs.Rows.{fields, scene_of, retrail, bounds, Lists, Scene}

abbrev pub pieces : Pieces Lists Lists
pieces =
    list groups 3 (flat_row_type 1 27 group)
    ▸ list switch_group_list 6 (family_rows 2 3 plainly switch_group 2 member)
    ▸ list presets 9 (family_rows 4 5 plainly preset 13 condition)
    ▸ last end

abbrev pub body : Body Lists Lists MpegH3dAudioScene
body = record { columns = 11; pieces = pieces; absent = absent; fields = fields; made = scene_of; trailing = λ m. m.trailing; retrail = retrail; bounds = bounds }

unfoldable pub kind : Kind Scene MpegH3dAudioScene Scene
kind = B.kind body
