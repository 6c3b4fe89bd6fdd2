-- `writing::front_fits` meets its contract.
use Prim.Native.Nat.{◌^◌}
use lib.Dec.{ltb, leb}
use mathlib.Core.Bool.{Bool, ◌&&◌}
use mathlib.Core.Path.{refl, sym, ap, ◌∙◌}
use Rattle.presets.proofs.Writes.{front_fits}
use Rattle.presets.proofs.writing.front_fits.Goals as goal

pub returns-then-four_fit : goal.returns-then-four_fit
returns-then-four_fit c =
    let p = c.args.p in
    ap (λ (b : Bool). b && ((leb 1 p.conditions.count && leb p.conditions.count 16) && c.fits.result)) (sym c.if-four_fit.true)
    ∙ front_fits p c.four_fit.ensures c.fits.ensures

pub returns-else-four_fit : goal.returns-else-four_fit
returns-else-four_fit c =
    let p = c.args.p in
    ap (λ (b : Bool). b && ((leb 1 p.conditions.count && leb p.conditions.count 16) && ltb p.reserved_conditions (2 ^ 4))) (sym c.if-four_fit.false)
    ∙ front_fits p c.four_fit.ensures refl
