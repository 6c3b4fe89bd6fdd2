-- Records and rows of scene bodies: what the starred list compares with.
use Prim.Native.Nat.{ℕ}
use mathlib.Core.List.{List, ◌∷◌}
use mathlib.Core.Bool.{true, false}
use Rattle.wire.specs.Prog.{span}
use Rattle.scene_kind.specs.declared.rows.Section.{Section}
use Rattle.scene_kind.specs.declared.rows.MpegH3dAudioScene.{MpegH3dAudioScene}

abbrev pub missing : Section
missing = record { present = false; count = 0 }

abbrev pub listed : ℕ → Section
listed n = record { present = true; count = n }

-- 1F 07: no sections, reserved 1, 7, 7
abbrev pub no_sections : MpegH3dAudioScene
no_sections = record {
  reserved_flags = 31;
  scene_info_id = 7;
  groups = missing;
  reserved_switch_groups = 7;
  switch_groups = missing;
  reserved_presets = 7;
  presets = missing;
  reserved_groups = 1;
  trailing = span 2 0;
}

-- 80 07 00: groups present, none listed
abbrev pub no_groups : MpegH3dAudioScene
no_groups = record {
  reserved_flags = 0;
  scene_info_id = 7;
  groups = listed 0;
  reserved_switch_groups = 7;
  switch_groups = missing;
  reserved_presets = 7;
  presets = missing;
  reserved_groups = 0;
  trailing = span 3 0;
}

-- 40 00 01 02 00 85 05: one switch group, one member, ID 5
abbrev pub one_member : MpegH3dAudioScene
one_member = record {
  reserved_flags = 0;
  scene_info_id = 0;
  groups = missing;
  reserved_switch_groups = 0;
  switch_groups = listed 1;
  reserved_presets = 7;
  presets = missing;
  reserved_groups = 1;
  trailing = span 7 0;
}

-- its rows of tables 2 and 3, and what stands behind them
abbrev pub one_switch_group : List ℕ → List ℕ
one_switch_group behind = 0 ∷ 0 ∷ 1 ∷ 0 ∷ 0 ∷ 0 ∷ 1 ∷ 0 ∷ 5 ∷ behind

abbrev pub member5 : List ℕ → List ℕ
member5 behind = 1 ∷ 5 ∷ behind
