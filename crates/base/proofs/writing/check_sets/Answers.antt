-- `base::writing::check_sets` meets its contract, whatever the bytes of the sets are.
use mathlib.Core.List.{[], ◌∷◌}
use mathlib.Core.Path.{◌∙◌}
use native.Mathlib.Omega.{arith}
use Rattle.wire.specs.Bits.{field}
use Rattle.wire.specs.Act.{byte}
use Rattle.wire.specs.Pen.{Checked}
use Rattle.wire.proofs.Fields.{fit_one}
use Rattle.wire.proofs.Writing.Passes.{then, more, nothing}
use Rattle.base.specs.Write.{sets_acts}
use borrow.Author.Rules.{rules}
use Rattle.base.proofs.writing.check_sets.Goals as goal

pub run-requires : goal.run-requires
run-requires c =
    let counted : Checked (byte (field 8 c.args.sets.indications.length ∷ []) ∷ []) 1 c.args.p c.byte-p1.result = c.byte-p1.ensures.of (field 8 _ ∷ []) (c.fits.ensures ∙ fit_one 8 _) in
    (search rules, omega (arith, counted.near, c.requires))

pub returns-then-sets : goal.returns-then-sets
unfolding sets_acts
returns-then-sets c =
    let counted : Checked (byte (field 8 c.args.sets.indications.length ∷ []) ∷ []) 1 c.args.p c.byte-p1.result = c.byte-p1.ensures.of (field 8 _ ∷ []) (c.fits.ensures ∙ fit_one 8 _) in
    record {
      of = λ l e. rw c.if-sets.true (more 65536 (then counted
          (c.run.ensures.of l (rw c.if-sets.true at e))) (omega arith));
    }

pub returns-else-sets : goal.returns-else-sets
unfolding sets_acts
returns-else-sets c = record { of = λ l e. rw c.if-sets.false (nothing 65536 _) }
