-- `tallying::own_zeros` meets its contract.
use Prim.Native.Nat.{◌+◌}
use mathlib.Core.Path.{sym, ◌∙◌}
use Rattle.instructions.proofs.Tallied.{own_tally}
use borrow.Author.Rules.{rules}
use Rattle.instructions.proofs.tallying.own_zeros.Goals as goal

pub returns : goal.returns
returns c =
    ((λ i. c.scope_zeros.ensures.0 i + c.idle_bits.ensures i + (c.idle_bits-2.ensures i + c.idle_bits-3.ensures i + c.target_zeros.ensures.0 i)) ∙ sym (own_tally c.args.d), search rules)
