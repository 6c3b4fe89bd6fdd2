-- `writing::gain_flag` meets its contract: it is the last of the four columns that stand side by side.
use Rattle.std.specs.Prelude.{Some}
use mathlib.Core.Bool.{Bool, true, false}
use mathlib.Core.Path.{refl, sym, ap, ◌∙◌}
use Rattle.wire.specs.Bits.{some_if}
use Rattle.wire.proofs.Fields.{some_so, none_so}
use Rattle.conditions.proofs.Writes.{flags_fit_lem}
use Rattle.conditions.proofs.writing.gain_flag.Goals as goal

pub returns-in_err-last : goal.returns-in_err-last
returns-in_err-last c =
    let a = c.args in
    c.from_residual.ensures ∙ ap (λ (b : Bool). some_if b a.gain) (flags_fit_lem a.reserved a.no_gain a.no_position a.gain a.position {x = false} (sym (none_so _ _ c.in_err-last.ensures)) refl)

pub returns-then-fits : goal.returns-then-fits
returns-then-fits c =
    let a = c.args in
    let (p, q) = some_so _ _ c.in_ok-last.ensures in
    ap Some q ∙ ap (λ (b : Bool). some_if b a.gain) (flags_fit_lem a.reserved a.no_gain a.no_position a.gain a.position {x = true} {y = true} (sym p) (sym c.if-fits.true ∙ c.fits.ensures))

pub returns-else-fits : goal.returns-else-fits
returns-else-fits c =
    let a = c.args in
    let (p, q) = some_so _ _ c.in_ok-last.ensures in
    ap (λ (b : Bool). some_if b a.gain) (flags_fit_lem a.reserved a.no_gain a.no_position a.gain a.position {x = true} {y = false} (sym p) (sym c.if-fits.false ∙ c.fits.ensures))
