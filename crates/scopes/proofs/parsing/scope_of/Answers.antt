-- `scopes::parsing::scope_of` meets its contract: a group, a preset, or neither.
use mathlib.Core.Path.{refl, ap, ◌∙◌}
use native.Mathlib.Omega.{arith}
use borrow.Author.Tests.{eq-eqb, ne_eqb}
use Rattle.wire.specs.Bits.{part}
use Rattle.scopes.specs.declared.rows.DrcScope.TheVariants.{Group, Preset}
use Rattle.scopes.proofs.Taken.{id_inside}
use Rattle.scopes.proofs.parsing.scope_of.Goals as goal

pub bounds-body-at : goal.bounds-body-at
bounds-body-at c =
    id_inside _ _ c.case_of-case.ensures c.if-case-eq1.true (omega arith) c.requires

pub returns-then-case-eq1 : goal.returns-then-case-eq1
returns-then-case-eq1 c =
    rw (← c.case_of-case.ensures, eq-eqb _ _ c.if-case-eq1.true)
    (λ i. Group c.args.kind ((c.part.ensures ∙ ap (part 7 1) c.wide-id.ensures) i)
    (record { 0 = (c.part-then-case-eq1.ensures ∙ ap (part 0 7) c.wide-id.ensures) i }))

pub bounds-body-at-then-case-eq2 : goal.bounds-body-at-then-case-eq2
bounds-body-at-then-case-eq2 c =
    id_inside _ _ c.case_of-case.ensures c.if-case-eq2.true (omega arith) c.requires

pub returns-then-case-eq2 : goal.returns-then-case-eq2
returns-then-case-eq2 c =
    rw (← c.case_of-case.ensures, ne_eqb _ _ c.if-case-eq1.false, eq-eqb _ _ c.if-case-eq2.true)
    (λ i. Preset ((c.part-then-case-eq2.ensures ∙ ap (part 5 3) c.wide-id-then-case-eq2.ensures) i) (record {
      0 = (c.part-then-case-eq2-2.ensures ∙ ap (part 0 5)
          c.wide-id-then-case-eq2.ensures) i;
    }))

pub returns : goal.returns
returns c =
    rw (← c.case_of-case.ensures, ne_eqb _ _ c.if-case-eq1.false, ne_eqb _ _ c.if-case-eq2.false) refl
