-- `base::parsing::record_at` meets its contract: the fields of the three bytes, the sets and the trailing run.
use mathlib.Core.Path.{refl}
use native.Mathlib.Omega.{arith}
use Rattle.frame.proofs.Entries.{within_measured}
use Rattle.base.specs.Kind.{kind}
use Rattle.base.proofs.Parsed.{sets_sound, tops_are}
use Rattle.base.proofs.parsing.record_at.Goals as goal

pub bounds-body-1 : goal.bounds-body-1
bounds-body-1 c =
    let h = (sets_sound _ c.requires).0 in omega (arith, h)

pub bounds-body-2 : goal.bounds-body-2
bounds-body-2 c =
    (sets_sound _ c.requires).0

pub bounds-body-0 : goal.bounds-body-0
bounds-body-0 c =
    let h = (sets_sound _ c.requires).0 in omega (arith, h)

pub sets_at-requires : goal.sets_at-requires
sets_at-requires c =
    rw (c.part-2.ensures, c.wide-b1.ensures) (sets_sound _ c.requires).1

pub trailing_run-requires : goal.trailing_run-requires
trailing_run-requires c =
    let w = within_measured kind _ c.requires in
    (w.before, w.all)

pub returns : goal.returns
returns c =
    let b1 = c.wide-b1.ensures in
    let b2 = c.wide-b2.ensures in tops_are _ c.requires _
    (omega (arith, c.type_inv.body 0)) (rw (c.part-2.ensures, b1) at c.sets_at.ensures)
    c.trailing_run.ensures (rw (c.part.ensures, c.part-3.ensures, c.part-4.ensures, c.part-5.ensures, b1, b2) refl)
