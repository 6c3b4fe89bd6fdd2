-- The invariant: all the stores, from the start, come to those that are left, from here.
use Prim.Native.Nat.{◌≤◌, ◌+◌, ◌-◌}
use mathlib.Core.Path.{◌≡◌}
use lib.ListN.{length, drop}
use lib.Seq.{sets, slice}
use Rattle.wire.proofs.pen.put_each.Given as goal

abbrev pub invariant-loop-i : goal.invariant-loop-i
invariant-loop-i l =
    (l.i ≤ l.count)
    × (length l.out ≡ length l.initial.out)
    × (sets l.initial.out l.n (slice l.from (l.from + l.count) l.store) ≡ sets l.out (l.n + l.i) (drop l.i (slice l.from (l.from + l.count) l.store)))

abbrev pub decreases-loop-i : goal.decreases-loop-i
decreases-loop-i l = l.count - l.i
