-- `scene::tallying::zero_bits` meets its contract: the flags, and section after section.
use mathlib.Core.Path.{refl, ap, ◌∙◌}
use native.Mathlib.Omega.{arith}
use Rattle.wire.specs.Bits.{part, zeros}
use Rattle.wire.specs.Reads.{is_done}
use Rattle.scene.proofs.Found.{groups_stand, switches_stand, presets_stand, at_switches, at_presets, flags_so}
use Rattle.scene.proofs.Tallied.{zeros_so}
use Rattle.scene.proofs.tallying.zero_bits.Goals as goal

pub section_zeros-g-requires : goal.section_zeros-g-requires
section_zeros-g-requires c =
    let e = c.part-2.ensures ∙ ap (part 7 1) c.wide-flags.ensures in let w = groups_stand c.requires.0 in rw e (w.there_is, ap is_done w.reads, tt, omega arith, omega arith, omega arith)

pub section_zeros-s-requires : goal.section_zeros-s-requires
section_zeros-s-requires c =
    let e = c.part-3.ensures ∙ ap (part 6 1) c.wide-flags.ensures in let w = switches_stand c.requires.0 in rw e (w.there_is, ap is_done w.reads, tt, omega arith, omega arith, omega (arith, at_switches c.requires.0, c.requires.1))

pub section_zeros-q-requires : goal.section_zeros-q-requires
section_zeros-q-requires c =
    let e = c.part-4.ensures ∙ ap (part 5 1) c.wide-flags.ensures in let w = presets_stand c.requires.0 in rw e (w.there_is, ap is_done w.reads, tt, omega arith, omega arith, omega (arith, at_presets c.requires.0, c.requires.1))

pub returns : goal.returns
returns c =
    zeros_so c.requires.0 c.requires.1
    (flags_so c.wide-flags.ensures c.part-2.ensures c.part-3.ensures c.part-4.ensures) refl
    (c.idle_bits-top.ensures ∙ ap (zeros 5) (c.part.ensures ∙ ap (part 0 5) c.wide-flags.ensures))
    c.section_zeros-g.ensures.0 c.section_zeros-s.ensures.0 c.section_zeros-q.ensures.0
