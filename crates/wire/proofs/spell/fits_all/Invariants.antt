-- `spell::fits_all` meets its contract.
use Rattle.wire.proofs.Writing.Spelling.{Fitting}
use Rattle.wire.proofs.spell.fits_all.Given as goal

abbrev pub invariant-loop-v : goal.invariant-loop-v
invariant-loop-v l = Fitting l.spelt l.all l.v-index
