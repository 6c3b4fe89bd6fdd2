use mathlib.Core.Path.{refl}
use Rattle.wire.proofs.Writing.Spelling.{fitting_turn, fitting_end}
use borrow.Author.Rules.{rules}
use Rattle.wire.proofs.spell.fits_all.Goals as goal

pub loop-v-init : goal.loop-v-init
loop-v-init c = λ fss r. refl

pub loop-v-preserved : goal.loop-v-preserved
loop-v-preserved c =
    fitting_turn c.args.spelt.now c.loop-v.all c.loop-v.v-index (search rules) c.loop-v.invariant

pub returns : goal.returns
returns c = record { of = fitting_end c.args.spelt.now c.loop-v.all c.loop-v.v-index (search rules) c.loop-v.invariant }
