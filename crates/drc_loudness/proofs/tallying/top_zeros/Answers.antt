-- `drc_loudness::tallying::top_zeros` meets its contract: the first byte, and the counts where they are there.
use Prim.Native.Nat.{◌+◌}
use mathlib.Core.Path.{ap, ◌∙◌}
use native.Mathlib.Omega.{arith}
use Rattle.wire.specs.Bits.{part, zeros}
use Rattle.drc_loudness.proofs.Walked.{rows_near}
use Rattle.drc_loudness.proofs.Found.{top_with, top_alone}
use Rattle.drc_loudness.proofs.tallying.top_zeros.Goals as goal

pub bounds-body-0 : goal.bounds-body-0
bounds-body-0 c =
    omega (arith, c.requires.0, (rows_near c.args.body.now).0)

pub returns-then-info : goal.returns-then-info
returns-then-info c =
    (top_with c.args.body.now c.requires.1 c.if-info.true (λ j. (c.idle_bits-own.ensures ∙ ap (zeros 7) (c.part.ensures ∙ ap (part 1 7) c.wide.ensures)) j + ((c.idle_bits-drc.ensures ∙ ap (zeros 2) c.wide-then-info.ensures) j + ((c.idle_bits-loudness.ensures ∙ ap (zeros 2) c.wide-then-info-2.ensures) j + (c.idle_bits.ensures ∙ ap (zeros 3) c.wide-then-info-3.ensures) j))), omega (arith, c.idle_bits-own.ensures, c.idle_bits-drc.ensures, c.idle_bits-loudness.ensures, c.idle_bits.ensures))

pub returns-else-info : goal.returns-else-info
returns-else-info c =
    (top_alone c.args.body.now c.requires.1 c.if-info.false (c.idle_bits-own.ensures ∙ ap (zeros 7) (c.part.ensures ∙ ap (part 1 7) c.wide.ensures)), omega (arith, c.idle_bits-own.ensures))
