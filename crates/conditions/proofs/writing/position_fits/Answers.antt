-- `writing::position_fits` meets its contract.
use Prim.Native.Nat.{◌^◌}
use lib.Dec.{ltb}
use mathlib.Core.Bool.{Bool, ◌&&◌}
use mathlib.Core.Path.{refl, sym, ap, ◌∙◌}
use Rattle.conditions.proofs.Writes.{position_fit}
use Rattle.conditions.proofs.writing.position_fits.Goals as goal

pub returns-then-four_fit : goal.returns-then-four_fit
returns-then-four_fit c =
    ap (λ (b : Bool). b && c.fits.result) (sym c.if-four_fit.true) ∙ position_fit c.args.p c.four_fit.ensures c.fits.ensures

pub returns-else-four_fit : goal.returns-else-four_fit
returns-else-four_fit c =
    ap (λ (b : Bool). b && ltb c.args.p.dist_factor (2 ^ 4)) (sym c.if-four_fit.false) ∙ position_fit c.args.p c.four_fit.ensures refl
