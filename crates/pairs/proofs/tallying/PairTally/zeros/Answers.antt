use Prim.Native.Nat.{ℕ, ◌+◌}
use mathlib.Core.Path.{ap, sym, ◌∙◌}
use mathlib.Core.List.{[], ◌∷◌}
use native.Mathlib.Omega.{arith}
use Rattle.wire.specs.Bits.{part, zeros}
use Rattle.wire.specs.Layout.{of, tally}
use Rattle.wire.specs.Prog.{done}
use Rattle.wire.specs.Reads.{map_out}
use Rattle.pairs.specs.Layout.{pair}
use Rattle.pairs.proofs.Pairs.{pair_there, pair_run, pair_tally}
use Rattle.pairs.proofs.tallying.PairTally.zeros.Goals as goal

pub bounds-body-at : goal.bounds-body-at
bounds-body-at c = pair_there c.args.body.now c.args.at c.requires.0 c.requires.1

pub overflow_add-result : goal.overflow_add-result
overflow_add-result c = omega (arith, pair_there c.args.body.now c.args.at c.requires.0 c.requires.1)

pub returns : goal.returns
returns c =
    let e = c.idle_bits.ensures ∙ ap (zeros 1) (c.part.ensures ∙ ap (part 7 1) c.wide.ensures) ∙ sym (pair_tally _) in
    (ap (λ (z : ℕ). done z (c.args.at + 1)) e ∙ sym (ap (map_out (λ r. tally (pair ∷ []) (of r))) (pair_run c.args.body.now c.args.at c.requires.0 c.requires.1)), omega arith)
