-- The tally of a switch group: its own reserved bits, and those of its members.
use Prim.Native.Nat.{◌+◌}
use mathlib.Core.Path.{ap, refl, ◌∙◌}
use native.Mathlib.Omega.{arith}
use Rattle.wire.specs.Bits.{zeros}
use Rattle.switch_groups.proofs.Switches.{two_known, members_known, default_known, switch_tallied}
use borrow.Author.Rules.{rules}
use Rattle.switch_groups.proofs.tallying.SwitchTally.zeros.Goals as goal

pub bounds-body-at : goal.bounds-body-at
bounds-body-at c =
    let h = two_known _ _ c.requires.0 c.requires.1 in omega (arith, h)

pub bounds-body-at-2 : goal.bounds-body-at-2
bounds-body-at-2 c =
    let h = two_known _ _ c.requires.0 c.requires.1 in omega (arith, h)

pub pairs_zeros-below-requires : goal.pairs_zeros-below-requires
pairs_zeros-below-requires c = search (rules, two_known, members_known)

pub bounds-body-last : goal.bounds-body-last
bounds-body-last c =
    default_known _ _ c.requires.0 c.requires.1
    c.wide-b.ensures c.members_of-count.ensures.0

pub returns : goal.returns
returns c =
    (switch_tallied _ _ c.requires.0 c.requires.1 c.wide-b.ensures c.members_of-count.ensures.0 c.wide-id.ensures c.wide-default.ensures (λ i. (c.idle_bits.ensures ∙ ap (zeros 1) c.part.ensures) i + (c.idle_bits-2.ensures ∙ ap (zeros 3) c.part-2.ensures) i + (c.idle_bits-3.ensures ∙ ap (zeros 1) c.part-3.ensures) i) c.pairs_zeros-below.ensures.0 refl, omega (arith, c.pairs_zeros-below.ensures.1, c.members_of-count.ensures.1))
