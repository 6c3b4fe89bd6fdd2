-- A row of one byte, a reserved bit and seven bits, as a syntax table: a member of a switch group (row of table 3), or an additional downmix ID of a DRC instruction (row of table 10).
use Rattle.std.specs.Prelude.{[], ◌∷◌}
use Rattle.wire.specs.Layout.{Layout, end, one, ◌▹◌, num, reserved}

unfoldable pub pair : Layout
pair = one (reserved 1 0 ∷ num 7 1 ∷ []) ▹ end
