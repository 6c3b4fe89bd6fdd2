-- Records of the base bodies of document 01's bench: what the claims and the starred list compare with.
use mathlib.Core.Bool.{true}
use Rattle.wire.specs.Prog.{span}
use Rattle.base.specs.declared.rows.MpegH3dAudio.{MpegH3dAudio}
use Rattle.base.specs.Rows.{absent_sets, listed_sets}

-- 05 C0 3F: no sets, layout 63, k 3
abbrev pub no_sets : MpegH3dAudio
no_sets = record {
  profile_level_indication = 5;
  interactivity_enabled = true;
  compatible_sets = absent_sets;
  reserved_flags = 0;
  reserved_layout = 0;
  reference_channel_layout = 63;
  trailing = span 3 0;
}

-- 05 BF C6 00: sets present, none listed, layout 6
abbrev pub none_listed : MpegH3dAudio
none_listed = record {
  profile_level_indication = 5;
  interactivity_enabled = true;
  compatible_sets = listed_sets (span 4 0);
  reserved_flags = 63;
  reserved_layout = 3;
  reference_channel_layout = 6;
  trailing = span 4 0;
}
