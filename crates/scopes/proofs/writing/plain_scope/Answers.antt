-- `scopes::writing::plain_scope` meets its contract: its bytes, or 0 where one of the tests fails.
use mathlib.Core.Path.{◌≡◌, refl, sym, ◌∙◌}
use Prim.Native.Nat.{◌^◌}
use mathlib.Core.Bool.{true}
use lib.Dec.{ltb}
use borrow.Author.Tests.{eq-eqb, eqb-true}
use Rattle.wire.specs.Bits.{fit}
use Rattle.wire.proofs.Writing.Plain.{no_quick}
use Rattle.scopes.proofs.Written.{scope_plain, scope_odd, unknown_odd}
use Rattle.scopes.proofs.writing.plain_scope.Goals as goal
use Rattle.scopes.proofs.writing.plain_scope.Goals.{else-fits-via-then-fits+else-case_of-eq0, else-fits-via-else-fits, else-two_fit-via-then-two_fit+then-fits-2+else-case_of-eq1, else-two_fit-via-then-two_fit+else-fits-2, else-two_fit-via-else-two_fit, else-two_fit-2-via-then-two_fit-2+else-case_of-eq2, else-two_fit-2-via-else-two_fit-2}

pub returns-then-not-fits : goal.returns-then-not-fits
returns-then-not-fits c =
    let a = c.args in
    scope_odd a.types.now a.reserved_type {s = a.scope} refl (λ z. no_quick (sym c.fits.ensures ∙ c.if-not-fits.true) z.type)

pub returns-then-case_of-eq0 : goal.returns-then-case_of-eq0
unfolding fit
returns-then-case_of-eq0 c =
    let type-fits : ltb c.args.reserved_type (2 ^ 6) ≡ true = sym c.fits.ensures ∙ c.if-not-fits.false in
    let a = c.args in
    scope_plain a.types.now a.reserved_type c.in-Plain.is
    (record { type = type-fits; id = refl; kind = sym c.fits-in-Plain.ensures ∙ c.if-fits.true; case = eq-eqb 0 _ (c.if-case_of-eq0.true ∙ c.case_of.ensures) }) refl

pub returns-else-fits : goal.returns-else-fits
returns-else-fits c =
    let a = c.args in
    scope_odd a.types.now a.reserved_type c.in-Plain.is
    (λ z. elim c.else-fits.branch [
      | else-fits-via-then-fits+else-case_of-eq0 w ↦ w.if-case_of-eq0.false (eqb-true _ _ z.case ∙ sym w.case_of.ensures)
      | else-fits-via-else-fits w ↦ no_quick (sym c.fits-in-Plain.ensures ∙ w.if-fits.false) z.kind
    ])

pub returns-then-case_of-eq1 : goal.returns-then-case_of-eq1
returns-then-case_of-eq1 c =
    let type-fits : ltb c.args.reserved_type (2 ^ 6) ≡ true = sym c.fits.ensures ∙ c.if-not-fits.false in
    let a = c.args in
    scope_plain a.types.now a.reserved_type c.in-Group.is
    (record { type = type-fits; id = sym c.two_fit.ensures ∙ c.if-two_fit.true; kind = sym c.fits-then-two_fit.ensures ∙ c.if-fits-2.true; case = eq-eqb 1 _ (c.if-case_of-eq1.true ∙ c.case_of-then-fits-2.ensures) }) refl

pub returns-else-two_fit : goal.returns-else-two_fit
returns-else-two_fit c =
    let a = c.args in
    scope_odd a.types.now a.reserved_type c.in-Group.is
    (λ z. elim c.else-two_fit.branch [
      | else-two_fit-via-then-two_fit+then-fits-2+else-case_of-eq1 w ↦ w.if-case_of-eq1.false (eqb-true _ _ z.case ∙ sym w.case_of-then-fits-2.ensures)
      | else-two_fit-via-then-two_fit+else-fits-2 w ↦ no_quick (sym w.fits-then-two_fit.ensures ∙ w.if-fits-2.false) z.kind
      | else-two_fit-via-else-two_fit w ↦ no_quick (sym c.two_fit.ensures ∙ w.if-two_fit.false) z.id
    ])

pub returns-then-case_of-eq2 : goal.returns-then-case_of-eq2
returns-then-case_of-eq2 c =
    let type-fits : ltb c.args.reserved_type (2 ^ 6) ≡ true = sym c.fits.ensures ∙ c.if-not-fits.false in
    let a = c.args in
    scope_plain a.types.now a.reserved_type c.in-Preset.is
    (record { type = type-fits; id = sym c.two_fit-in-Preset.ensures ∙ c.if-two_fit-2.true; kind = refl; case = eq-eqb 2 _ (c.if-case_of-eq2.true ∙ c.case_of-then-two_fit-2.ensures) }) refl

pub returns-else-two_fit-2 : goal.returns-else-two_fit-2
returns-else-two_fit-2 c =
    let a = c.args in
    scope_odd a.types.now a.reserved_type c.in-Preset.is
    (λ z. elim c.else-two_fit-2.branch [
      | else-two_fit-2-via-then-two_fit-2+else-case_of-eq2 w ↦ w.if-case_of-eq2.false (eqb-true _ _ z.case ∙ sym w.case_of-then-two_fit-2.ensures)
      | else-two_fit-2-via-else-two_fit-2 w ↦ no_quick (sym c.two_fit-in-Preset.ensures ∙ w.if-two_fit-2.false) z.id
    ])

pub returns-in-Unknown : goal.returns-in-Unknown
returns-in-Unknown c =
    let a = c.args in
    scope_odd a.types.now a.reserved_type c.in-Unknown.is (unknown_odd a.types.now a.reserved_type)
