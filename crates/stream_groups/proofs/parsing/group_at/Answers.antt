-- `group_at` takes the fields of the first byte, and those of the second outside the main stream.
use Prim.Native.Nat.{ℕ, ◌≤◌}
use mathlib.Core.Path.{◌≡◌}
use mathlib.Core.List.{List}
use mathlib.Core.Bool.{true}
use lib.ListN.{length}
use Rattle.wire.specs.Prog.{run}
use Rattle.wire.specs.Reads.{is_done}
use Rattle.wire.specs.Layout.{flat}
use Rattle.wire.proofs.Layouts.Straight.{Whole, flat_done}
use Rattle.stream_groups.specs.Layout.{group}
use Rattle.stream_groups.proofs.Taken.{first_there, second_there, main_done, outside_done}
use Rattle.stream_groups.proofs.parsing.group_at.Goals as goal

whole : (s : List ℕ) (at : ℕ) → (at ≤ length s) × (is_done (run (flat 5 group) s at) ≡ true) → Whole 5 group s at
whole s at w = flat_done 5 group s at w.0 w.1

pub bounds-body-at : goal.bounds-body-at
bounds-body-at c =
    first_there (whole _ _ c.requires)

pub returns-then-part-eq1 : goal.returns-then-part-eq1
returns-then-part-eq1 c =
    rw (c.in_main_stream.ensures, c.part.ensures) (main_done (whole _ _ c.requires) c.wide-e.ensures c.part-2.ensures c.if-part-eq1.true)

pub bounds-body-at-2 : goal.bounds-body-at-2
bounds-body-at-2 c =
    second_there (whole _ _ c.requires) c.wide-e.ensures c.part-2.ensures c.if-part-eq1.false

pub returns : goal.returns
returns c =
    let d = outside_done (whole _ _ c.requires) c.wide-e.ensures c.part-2.ensures c.if-part-eq1.false c.wide-x.ensures in
    rw (c.in_auxiliary_stream.ensures, c.part.ensures, c.part-3.ensures, c.part-4.ensures) d
