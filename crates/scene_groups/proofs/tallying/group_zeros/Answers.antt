-- `group_zeros` is the tally of a group, and at most 21.
use Prim.Native.Nat.{◌+◌}
use mathlib.Core.Path.{sym, ◌∙◌}
use native.Mathlib.Omega.{arith}
use Rattle.scene_groups.specs.Rows.{group_cols}
use Rattle.scene_groups.proofs.Tallied.{group_tally}
use Rattle.scene_groups.proofs.tallying.group_zeros.Goals as goal

pub returns : goal.returns
returns c = (
  (λ i. c.idle_bits.ensures i + c.idle_bits-flags.ensures i + c.idle_bits-2.ensures i
      + c.position_zeros.ensures.0 i + c.gain_zeros.ensures.0 i)
      ∙ sym (group_tally (group_cols c.args.g)),
  omega arith,
)
