-- Records and rows of DRC and loudness bodies: what the starred list compares with.
use Prim.Native.Nat.{ℕ}
use mathlib.Core.List.{List, ◌∷◌}
use mathlib.Core.Bool.{true}
use Rattle.wire.specs.Prog.{span}
use Rattle.drc_kind.specs.declared.rows.Info.{Info}
use Rattle.drc_kind.specs.declared.rows.MpegH3dAudioDrcLoudness.{MpegH3dAudioDrcLoudness}
use Rattle.drc_kind.specs.Rows.{no_info}

-- info whose reserved bits are 0, with so many rows of tables 9 and 11
abbrev pub listed : ℕ → ℕ → Info
listed instructions entries = record { present = true; part = record { reserved_drc = 0; reserved_loudness = 0; reserved_downmix = 0; drc_instructions = instructions; loudness_infos = entries; downmix_definitions = 0 } }

-- 01 01 00 00 01 00 00 00 00 00: one instruction
abbrev pub one_instruction : MpegH3dAudioDrcLoudness
one_instruction = record { reserved = 0; info = listed 1 0; trailing = span 10 0 }

-- its row of table 9, and what stands behind it: a plain scope of type 1
abbrev pub plain_scope : List ℕ → List ℕ
plain_scope behind = 0 ∷ 0 ∷ 1 ∷ 0 ∷ 0 ∷ 0 ∷ 0 ∷ 0 ∷ 0 ∷ 0 ∷ 0 ∷ 0 ∷ 0 ∷ 0 ∷ 0 ∷ 0 ∷ 0 ∷ 0 ∷ 0 ∷ 0 ∷ 0 ∷ 0 ∷ 0 ∷ 0 ∷ behind

-- 01 00 01 00 01 85 00: one loudness entry
abbrev pub one_entry : MpegH3dAudioDrcLoudness
one_entry = record { reserved = 0; info = listed 0 1; trailing = span 7 0 }

-- its row of table 11: a scope of type 1 with group 5, and no bytes, which would stand at 7
abbrev pub group_scope : List ℕ → List ℕ
group_scope behind = 0 ∷ 1 ∷ 1 ∷ 1 ∷ 5 ∷ 7 ∷ 0 ∷ behind

-- 00: no info
abbrev pub info_absent : MpegH3dAudioDrcLoudness
info_absent = record { reserved = 0; info = no_info; trailing = span 1 0 }
