-- `singles` counts the reads of one byte that the flags steer.
use mathlib.Core.Path.{refl}
use Rattle.wire.proofs.Fields.{part_below}
use Rattle.scene_groups.proofs.Groups.{singles_so}
use Rattle.scene_groups.proofs.parsing.singles.Goals as goal

pub returns : goal.returns
returns c =
    rw (← c.part.ensures, ← c.part-2.ensures) (singles_so _ _ _ (rw c.part.ensures (part_below 2 1 _))
    (rw c.part-2.ensures (part_below 1 1 _)) refl)
