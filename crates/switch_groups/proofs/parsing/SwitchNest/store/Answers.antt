-- A switch group is stored: its first two bytes, its members, its default, and its row.
use mathlib.Core.Path.{refl, ap, ◌∙◌}
use native.Mathlib.Omega.{arith}
use lib.Seq.{sets}
use Rattle.wire.proofs.Layouts.Families.{family_nested}
use Rattle.switch_groups.specs.Layout.{member, switch_group}
use Rattle.switch_groups.proofs.Switches.{fills, two_there, members_ask, default_there, switch_filled}
use Rattle.switch_groups.proofs.parsing.SwitchNest.store.Goals as goal

pub bounds-body-at : goal.bounds-body-at
bounds-body-at c =
    let h = two_there _ _ _ _ c.requires.0 in omega (arith, h)

pub bounds-body-at-2 : goal.bounds-body-at-2
bounds-body-at-2 c =
    let h = two_there _ _ _ _ c.requires.0 in omega (arith, h)

pub fill_pairs-requires : goal.fill_pairs-requires
fill_pairs-requires c = members_ask _ _ _ _ c.requires.0 c.wide-b.ensures c.members_of-count.ensures.0

pub bounds-body-last : goal.bounds-body-last
bounds-body-last c = default_there _ _ _ _ c.requires.0 c.wide-b.ensures c.members_of-count.ensures.0

pub returns : goal.returns
returns c =
    let f = c.requires.0 in
    family_nested switch_group 2 member _ _ _ f.begun fills
    (switch_filled _ _ _ _ f c.wide-b.ensures c.members_of-count.ensures.0 c.wide-id.ensures c.wide.ensures c.switch_group_from-row.ensures c.fill_pairs.ensures)
    refl (c.put_row.ensures ∙ ap (sets c.args.outer.now c.args.to) c.columns.ensures)
