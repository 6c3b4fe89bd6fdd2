-- The reserved bits at 0 of a target loudness that is there: those of its bytes, and the first half of the lower pair; the last bit of its last byte is none of them.
use Rattle.std.specs.Prelude.{ℕ, ◌+◌, eqb}
use Rattle.wire.specs.Bits.{zeros}
use Rattle.wire.specs.Act.{pick}
use Rattle.target_loudness.specs.declared.rows.TargetLoudnessLower.{TargetLoudnessLower}
use Rattle.target_loudness.specs.declared.rows.DrcTargetLoudness.{DrcTargetLoudness}

abbrev pub lower_zeros : TargetLoudnessLower → ℕ
lower_zeros l = pick (eqb l.present 1) (zeros 2 l.reserved) 0

abbrev pub target_zeros : DrcTargetLoudness → ℕ
target_zeros t = pick (eqb t.present 1) (zeros 1 t.reserved_upper + (lower_zeros t.lower + zeros 1 t.reserved_depends)) 0
