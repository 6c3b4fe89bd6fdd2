-- `spell::put_all` meets its contract.
use Prim.Native.Nat.{◌+◌}
use mathlib.Core.Path.{◌≡◌}
use lib.ListN.{length, drop}
use lib.Seq.{sets}
use Rattle.wire.specs.Spell.{lows}
use Rattle.wire.proofs.spell.put_all.Given as goal

abbrev pub invariant-loop-i : goal.invariant-loop-i
invariant-loop-i l = (length l.out ≡ length l.initial.out) × (sets l.out (l.n + l.i) (drop l.i (lows l.spelt)) ≡ sets l.initial.out l.n (lows l.spelt))
