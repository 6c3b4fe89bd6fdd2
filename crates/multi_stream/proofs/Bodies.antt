-- Records and rows of multi_stream bodies: what the claims and the starred list compare with.
use Prim.Native.Nat.{ℕ}
use mathlib.Core.List.{List, ◌∷◌}
use Rattle.wire.specs.Prog.{span}
use Rattle.multi_stream.specs.declared.rows.MpegH3dAudioMultiStream.{MpegH3dAudioMultiStream}
use Rattle.multi_stream.specs.Rows.{present_main}

-- 81 80 82 07 08 85: group 3 main, group 4 in TS stream 5
abbrev pub two_groups : MpegH3dAudioMultiStream
two_groups = record {
  this_stream_id = 1;
  main = present_main (record { reserved_aux = 1; num_auxiliary_streams = 0; reserved_groups = 1; groups = 2 });
  trailing = span 6 0;
}

-- its rows of table 8, and what stands behind them
abbrev pub two_rows : List ℕ → List ℕ
two_rows behind = 3 ∷ 1 ∷ 0 ∷ 0 ∷ 0 ∷ 4 ∷ 0 ∷ 1 ∷ 1 ∷ 5 ∷ behind

-- 81 00 00: no groups
abbrev pub no_groups : MpegH3dAudioMultiStream
no_groups = record {
  this_stream_id = 1;
  main = present_main (record { reserved_aux = 0; num_auxiliary_streams = 0; reserved_groups = 0; groups = 0 });
  trailing = span 3 0;
}
