-- The bits at 0 of the parts of a group that are there.
use Rattle.std.specs.Prelude.{ℕ, ◌+◌}
use Rattle.wire.specs.Bits.{zeros}
use Rattle.scene_groups.specs.declared.rows.PositionInteractivity.{PositionInteractivity}
use Rattle.scene_groups.specs.declared.rows.GainInteractivity.{GainInteractivity}

abbrev pub position_zeros : PositionInteractivity → ℕ
position_zeros p = zeros 1 p.reserved_min_az + zeros 1 p.reserved_max_az + (zeros 3 p.reserved_min_el + zeros 3 p.reserved_max_el)

abbrev pub gain_zeros : GainInteractivity → ℕ
gain_zeros g = zeros 2 g.reserved_min + zeros 3 g.reserved_max
