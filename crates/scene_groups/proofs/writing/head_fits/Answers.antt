-- `head_fits` meets its contract: all ten columns of the three bytes are looked at.
use Prim.Native.Nat.{◌^◌}
use lib.Dec.{ltb}
use mathlib.Core.Bool.{◌&&◌}
use mathlib.Core.Path.{refl, sym, ◌∙◌}
use Rattle.scene_groups.specs.Rows.{group_cols, group_of}
use Rattle.scene_groups.specs.Write.{kind_fits}
use Rattle.scene_groups.proofs.Writes.{head_fits_lem}
use Rattle.scene_groups.proofs.writing.head_fits.Goals as goal

pub returns-then-kind_fits : goal.returns-then-kind_fits
returns-then-kind_fits c =
    let s = c.args in
    (λ i. sym c.if-id_fits.true i && (sym c.if-kind_fits.true i && (c.fits.result && c.fits-2.result)))
    ∙ head_fits_lem (group_cols (group_of s.groups.now s.b)) c.id_fits.ensures c.kind_fits.ensures
    (rw c.column.ensures at c.fits.ensures) (rw c.column-2.ensures at c.fits-2.ensures)

pub returns-else-kind_fits : goal.returns-else-kind_fits
returns-else-kind_fits c =
    let s = c.args in
    (λ i. sym c.if-id_fits.true i && (sym c.if-kind_fits.false i && (c.fits.result && c.fits-2.result)))
    ∙ head_fits_lem (group_cols (group_of s.groups.now s.b)) c.id_fits.ensures c.kind_fits.ensures
    (rw c.column.ensures at c.fits.ensures) (rw c.column-2.ensures at c.fits-2.ensures)

pub returns-else-id_fits : goal.returns-else-id_fits
returns-else-id_fits c =
    let s = c.args in
    let g = group_cols (group_of s.groups.now s.b) in
    (λ i. sym c.if-id_fits.false i && (kind_fits g && (ltb (g 18) (2 ^ 1) && ltb (g 23) (2 ^ 1)))) ∙ head_fits_lem g c.id_fits.ensures refl refl refl
