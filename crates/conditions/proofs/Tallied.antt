-- The tally of a condition: the reserved bits of a detail that is there, and of its position.
use Prim.Native.Nat.{◌+◌}
use mathlib.Core.Path.{◌≡◌, refl}
use mathlib.Core.List.{[], ◌∷◌, ◌++◌, flatten}
use mathlib.Core.Bool.{Bool, true, false}
use native.Mathlib.Nat.{add-zero, zero-add}
use lib.Dec.{eqb}
use Rattle.wire.specs.Lists.{sum}
use Rattle.wire.specs.Bits.{zeros}
use Rattle.wire.specs.Act.{pick}
use Rattle.wire.specs.Layout.{Cell, column, idle, Columns, shown, cells, tally}
use Rattle.conditions.specs.Layout.{condition}
use Rattle.conditions.specs.Rows.{flag_cells, gain_cells, position_cells}

pub condition_tally : (g : Columns) → tally (condition ∷ []) g ≡ pick (eqb (g 1) 1) (zeros 4 (g 2) + pick (eqb (g 7) 1) (zeros 2 (g 9) + zeros 4 (g 11)) 0) 0
unfolding tally cells shown condition sum flatten
condition_tally g = simp (zero-add) (go (eqb (g 1) 1) (eqb (g 5) 1) (eqb (g 7) 1))
  where
    go : (x y z : Bool)
        → sum (λ (c : Cell). idle c (g (column c))) (pick x (flag_cells ++ (pick y (flatten gain_cells) [] ++ (pick z (flatten position_cells) [] ++ []))) [] ++ []) ≡ pick x (zeros 4 (g 2) + pick z (zeros 2 (g 9) + zeros 4 (g 11)) 0) 0
    go true true true = simp (zero-add, add-zero)
    go true true false = simp (zero-add, add-zero)
    go true false true = simp (zero-add, add-zero)
    go true false false = simp (zero-add, add-zero)
    go false y z = refl
