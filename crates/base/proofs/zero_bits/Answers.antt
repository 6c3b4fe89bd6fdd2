-- `base::zero_bits` meets its contract: the two counts and their sum.
use mathlib.Core.List.{flatten}
use native.Mathlib.Omega.{arith}
use Rattle.wire.specs.Lists.{sum}
use Rattle.wire.specs.Layout.{shown, cells, tally}
use Rattle.frame.specs.Body.{layouts}
use Rattle.base.specs.Layout.{head}
use Rattle.base.proofs.zero_bits.Goals as goal

pub returns : goal.returns
unfolding tally cells layouts head shown flatten sum
returns c =
    rw (c.idle_bits-flags.ensures, c.idle_bits-layout.ensures, c.wide.ensures, c.wide-2.ensures) (omega arith)
