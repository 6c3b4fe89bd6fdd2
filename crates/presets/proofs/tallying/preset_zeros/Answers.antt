-- `tallying::preset_zeros` meets its contract.
use Prim.Native.Nat.{◌+◌}
use mathlib.Core.Path.{sym, ◌∙◌}
use native.Mathlib.Omega.{arith}
use Rattle.presets.specs.Rows.{preset_cols}
use Rattle.presets.proofs.Taken.{preset_tally}
use Rattle.presets.proofs.tallying.preset_zeros.Goals as goal

pub returns : goal.returns
returns c =
    ((λ i. c.idle_bits.ensures i + (c.idle_bits-2.ensures i + c.idle_bits-3.ensures i)) ∙ sym (preset_tally (preset_cols c.args.p)), omega arith)
