-- The bits at 0 of the parts of a condition that are there.
use Rattle.std.specs.Prelude.{ℕ, ◌+◌, eqb}
use Rattle.wire.specs.Bits.{zeros}
use Rattle.wire.specs.Act.{pick}
use Rattle.conditions.specs.declared.rows.PresetPosition.{PresetPosition}

abbrev pub position_zeros : PresetPosition → ℕ
position_zeros p = pick (eqb p.present 1) (zeros 2 p.reserved_el + zeros 4 p.reserved_dist) 0
