-- `spell::first_odd` meets its contract.
use Rattle.wire.proofs.Writing.Spelling.{Looking}
use Rattle.wire.proofs.spell.first_odd.Given as goal

abbrev pub invariant-loop-i : goal.invariant-loop-i
invariant-loop-i l = Looking l.spelt l.i
