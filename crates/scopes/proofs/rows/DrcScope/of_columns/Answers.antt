-- `DrcScope::of_columns` tells the cases apart.
use mathlib.Core.Path.{refl}
use borrow.Author.Tests.{eq-eqb, ne_eqb}
use Rattle.scopes.proofs.rows.DrcScope.of_columns.Goals as goal

pub returns-then-case-eq0 : goal.returns-then-case-eq0
returns-then-case-eq0 c =
    rw (eq-eqb _ _ c.if-case-eq0.true) refl

pub returns-then-case-eq1 : goal.returns-then-case-eq1
returns-then-case-eq1 c =
    rw (ne_eqb _ _ c.if-case-eq0.false, eq-eqb _ _ c.if-case-eq1.true) refl

pub returns-then-case-eq2 : goal.returns-then-case-eq2
returns-then-case-eq2 c = search (ne_eqb, eq-eqb)

pub returns : goal.returns
returns c =
    rw (ne_eqb _ _ c.if-case-eq0.false, ne_eqb _ _ c.if-case-eq1.false, ne_eqb _ _ c.if-case-eq2.false) refl
