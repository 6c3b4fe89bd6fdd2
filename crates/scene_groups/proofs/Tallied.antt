-- The tally of a group: its reserved bits in the three bytes, and those of the parts that are there.
use Prim.Native.Nat.{ℕ, ◌+◌}
use mathlib.Core.Path.{◌≡◌, refl, ap}
use mathlib.Core.List.{[], ◌∷◌, flatten}
use mathlib.Core.Bool.{Bool, true, false}
use native.Mathlib.Nat.{add-zero, zero-add, add_assoc}
use lib.Dec.{eqb}
use Rattle.wire.specs.Lists.{sum}
use Rattle.wire.specs.Bits.{zeros}
use Rattle.wire.specs.Act.{pick}
use Rattle.wire.specs.Layout.{Cell, column, idle, Columns, shown, cells, tally}
use Rattle.scene_groups.specs.Layout.{group}
use Rattle.scene_groups.specs.Rows.{part_cells}

abbrev zeros_8 : Columns → ℕ
zeros_8 g = zeros 1 (g 8) + (zeros 1 (g 10) + (zeros 3 (g 12) + zeros 3 (g 14)))

abbrev zeros_19 : Columns → ℕ
zeros_19 g = zeros 2 (g 19) + zeros 3 (g 21)

parts_tally : (g : Columns) (x y z : Bool) → sum (λ (c : Cell). idle c (g (column c))) (part_cells x y z) ≡ pick x (zeros_8 g) 0 + pick y (zeros_19 g) 0
unfolding sum flatten
parts_tally g true true true = simp (zero-add, add-zero, add_assoc)
parts_tally g true true false = simp (zero-add, add-zero, add_assoc)
parts_tally g true false true = simp (zero-add, add-zero)
parts_tally g true false false = simp (zero-add, add-zero)
parts_tally g false true true = simp (zero-add, add-zero)
parts_tally g false true false = simp (zero-add, add-zero)
parts_tally g false false true = simp (zero-add)
parts_tally g false false false = refl

pub group_tally : (g : Columns) → tally (group ∷ []) g ≡ zeros 1 (g 0) + zeros 3 (g 2) + zeros 4 (g 5)
    + pick (eqb (g 7) 1) (zeros 1 (g 8) + zeros 1 (g 10) + (zeros 3 (g 12) + zeros 3 (g 14))) 0 + pick (eqb (g 18) 1) (zeros_19 g) 0
unfolding tally cells shown group sum flatten
group_tally g =
    let p = parts_tally g (eqb (g 7) 1) (eqb (g 18) 1) (eqb (g 23) 1) in
    simp (zero-add, add_assoc) (ap (λ (k : ℕ). zeros 1 (g 0) + (zeros 3 (g 2) + (zeros 4 (g 5) + k))) p)
