-- Records and rows of text label bodies: what the claims and the starred list compare with.
use Prim.Native.Nat.{ℕ}
use mathlib.Core.List.{List, ◌∷◌}
use Rattle.wire.specs.Prog.{span}
use Rattle.text_label.specs.declared.rows.MpegH3dAudioTextLabel.{MpegH3dAudioTextLabel}

-- 07 F1 65 6E 67 80 E0 E1 E2 02 48 69: preset 2, payload at 10, length 2
abbrev pub one_preset : MpegH3dAudioTextLabel
one_preset = record { scene_info_id = 7; reserved = 15; languages = 1; trailing = span 12 0 }

-- its rows of tables 6 and 7, and what stands behind them
abbrev pub english : List ℕ → List ℕ
english behind = 0x65 ∷ 0x6E ∷ 0x67 ∷ 1 ∷ 0 ∷ 0 ∷ 7 ∷ 0 ∷ 0 ∷ 7 ∷ 0 ∷ 1 ∷ behind

abbrev pub preset2 : List ℕ → List ℕ
preset2 behind = 7 ∷ 2 ∷ 10 ∷ 2 ∷ behind

-- 07 00: no languages
abbrev pub no_languages : MpegH3dAudioTextLabel
no_languages = record { scene_info_id = 7; reserved = 0; languages = 0; trailing = span 2 0 }
