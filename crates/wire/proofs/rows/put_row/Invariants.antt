-- The invariant: all the stores, from the start, come to those that are left, from here.
use Prim.Native.Nat.{◌+◌, ◌-◌, ◌≤◌}
use mathlib.Core.Path.{◌≡◌}
use lib.ListN.{length, drop}
use lib.Seq.{sets}
use Rattle.wire.proofs.rows.put_row.Given as goal

abbrev pub invariant-loop-i : goal.invariant-loop-i
invariant-loop-i l =
    (l.i ≤ length l.row) × (length l.table ≡ length l.initial.table) × (sets l.table (l.at + l.i) (drop l.i l.row) ≡ sets l.initial.table l.at l.row)

abbrev pub decreases-loop-i : goal.decreases-loop-i
decreases-loop-i l = length l.row - l.i
