-- `writing::fields_fit` meets its contract: each test, or false where one before it failed.
use mathlib.Core.Path.{◌≡◌, sym, ap, ◌∙◌}
use mathlib.Core.Bool.{Bool, ◌&&◌}
use Prim.Native.Nat.{◌^◌}
use lib.Dec.{leb, ltb}
use Rattle.switch_groups.proofs.Writes.{id_fits, default_fits, fields_so}
use Rattle.switch_groups.proofs.writing.fields_fit.Goals as goal
use Rattle.switch_groups.proofs.writing.fields_fit.Goals.{then-four_fit, else-four_fit, then-fits, else-fits}

pub returns-then-g-le32 : goal.returns-then-g-le32
returns-then-g-le32 c =
    -- where the tests meet: the first two, and the first three
    let first_two : c.if-four_fit.value ≡ id_fits c.args.g && ltb c.args.g.reserved_members (2 ^ 3) = let g = c.args.g in
    let e = c.four_fit.ensures in
    elim c.if-four_fit.branch [
      | then-four_fit w ↦ w.value-is ∙ w.fits.ensures ∙ ap (λ (x : Bool). x && ltb g.reserved_members (2 ^ 3)) (sym w.if-four_fit.true ∙ e)
      | else-four_fit w ↦ w.value-is ∙ w.if-four_fit.false ∙ ap (λ (x : Bool). x && ltb g.reserved_members (2 ^ 3)) (sym w.if-four_fit.false ∙ e)
    ] in
    let first_three : let g = c.args.g in c.if-fits.value ≡ (id_fits g && ltb g.reserved_members (2 ^ 3)) && leb g.members.count 32 = let g = c.args.g in
    let e = first_two in
    elim c.if-fits.branch [
      | then-fits w ↦ w.value-is ∙ ap (λ (x : Bool). x && leb g.members.count 32) (sym w.if-fits.true ∙ e)
      | else-fits w ↦ w.value-is ∙ w.if-fits.false ∙ ap (λ (x : Bool). x && leb g.members.count 32) (sym w.if-fits.false ∙ e)
    ] in
    let g = c.args.g in
    c.two_fit.ensures ∙ ap (λ (x : Bool). x && default_fits g) (sym c.if-g-le32.true ∙ first_three) ∙ fields_so g

pub returns-else-g-le32 : goal.returns-else-g-le32
returns-else-g-le32 c =
    -- where the tests meet: the first two, and the first three
    let first_two : c.if-four_fit.value ≡ id_fits c.args.g && ltb c.args.g.reserved_members (2 ^ 3) = let g = c.args.g in
    let e = c.four_fit.ensures in
    elim c.if-four_fit.branch [
      | then-four_fit w ↦ w.value-is ∙ w.fits.ensures ∙ ap (λ (x : Bool). x && ltb g.reserved_members (2 ^ 3)) (sym w.if-four_fit.true ∙ e)
      | else-four_fit w ↦ w.value-is ∙ w.if-four_fit.false ∙ ap (λ (x : Bool). x && ltb g.reserved_members (2 ^ 3)) (sym w.if-four_fit.false ∙ e)
    ] in
    let first_three : let g = c.args.g in c.if-fits.value ≡ (id_fits g && ltb g.reserved_members (2 ^ 3)) && leb g.members.count 32 = let g = c.args.g in
    let e = first_two in
    elim c.if-fits.branch [
      | then-fits w ↦ w.value-is ∙ ap (λ (x : Bool). x && leb g.members.count 32) (sym w.if-fits.true ∙ e)
      | else-fits w ↦ w.value-is ∙ w.if-fits.false ∙ ap (λ (x : Bool). x && leb g.members.count 32) (sym w.if-fits.false ∙ e)
    ] in
    let g = c.args.g in
    c.if-g-le32.false ∙ ap (λ (x : Bool). x && default_fits g) (sym c.if-g-le32.false ∙ first_three) ∙ fields_so g
