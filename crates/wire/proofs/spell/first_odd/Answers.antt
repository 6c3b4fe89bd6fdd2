use mathlib.Core.Path.{◌≡◌}
use native.Mathlib.Nat.{add-zero}
use native.Mathlib.Omega.{arith}
use lib.ListN.{length}
use Rattle.wire.proofs.Writing.Spelling.{looking_turn, looking_odd, looking_end}
use borrow.Author.Rules.{rules}
use Rattle.wire.proofs.spell.first_odd.Goals as goal

pub loop-i-init : goal.loop-i-init
loop-i-init c = λ fss r n. rw add-zero

pub returns-then-v-ge65536 : goal.returns-then-v-ge65536
returns-then-v-ge65536 c = record { of = looking_odd c.args.spelt.now c.loop-i.i (search rules) (search rules) c.loop-i.invariant; within = search rules }

pub loop-i-preserved : goal.loop-i-preserved
loop-i-preserved c = looking_turn c.args.spelt.now c.loop-i.i (search rules) (search rules) c.loop-i.invariant

pub returns : goal.returns
returns c =
    let e : c.loop-i.i ≡ length c.args.spelt.now = omega arith in
    record { of = looking_end c.args.spelt.now (length c.args.spelt.now) (search rules) (rw e at c.loop-i.invariant); within = search rules }
