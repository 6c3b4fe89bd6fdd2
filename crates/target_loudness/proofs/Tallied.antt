-- The tally of a target loudness in its row, whatever the other columns are: its reserved bits, and those of a lower value that is there.
use Prim.Native.Nat.{◌+◌}
use mathlib.Core.Path.{◌≡◌, refl}
use mathlib.Core.List.{flatten}
use mathlib.Core.Bool.{Bool, true, false}
use native.Mathlib.Nat.{add-zero, zero-add}
use lib.Dec.{eqb}
use Rattle.wire.specs.Lists.{sum}
use Rattle.wire.specs.Bits.{zeros}
use Rattle.wire.specs.Act.{pick}
use Rattle.wire.specs.Layout.{Cell, column, idle, end, optional, ◌▹◌, Columns, shown}
use Rattle.target_loudness.specs.Layout.{target}
use Rattle.target_loudness.specs.Tally.{target_zeros}
use Rattle.target_loudness.specs.declared.rows.DrcTargetLoudness.{DrcTargetLoudness}
use Rattle.target_loudness.proofs.Writes.{part_cells}

-- the target loudness of a row
abbrev pub target_in : Columns → DrcTargetLoudness
target_in g = record {
  present = g 15;
  reserved_upper = g 16;
  upper = g 17;
  lower = record { present = g 18; reserved = g 19; value = g 20 };
  reserved_depends = g 21;
  depends_on_drc_set = record { 0 = g 22 };
  no_independent_use_or_reserved = g 23;
}

pub target_tally : (g : Columns) → sum (λ (c : Cell). idle c (g (column c))) (shown (optional 15 target ▹ end) g) ≡ target_zeros (target_in g)
unfolding shown sum flatten
target_tally g = go (eqb (g 15) 1) (eqb (g 18) 1)
  where
    go : (x y : Bool) → sum (λ (c : Cell). idle c (g (column c))) (part_cells x y)
        ≡ pick x (zeros 1 (g 16) + (pick y (zeros 2 (g 19)) 0 + zeros 1 (g 21))) 0
    go true true = simp (zero-add, add-zero)
    go true false = simp (zero-add, add-zero)
    go false y = refl
