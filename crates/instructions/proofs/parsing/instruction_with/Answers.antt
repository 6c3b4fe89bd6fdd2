-- `parsing::instruction_with` meets its contract: its columns follow from where its additional IDs begin.
use Prim.Native.Nat.{ℕ, ◌+◌, ◌≤◌}
use mathlib.Core.List.{List}
use mathlib.Core.Bool.{true}
use mathlib.Core.Path.{◌≡◌, refl}
use native.Mathlib.Omega.{arith}
use lib.ListN.{length}
use Rattle.wire.specs.Bits.{total}
use Rattle.wire.specs.Prog.{run}
use Rattle.wire.specs.Reads.{is_done}
use Rattle.wire.specs.Layout.{blank}
use Rattle.wire.specs.Straight.{spans}
use Rattle.instructions.specs.Layout.{settings, instructions}
use Rattle.instructions.proofs.Taken.{settings_total, settings_there, instruction_taken}
use Rattle.instructions.proofs.parsing.instruction_with.Goals as goal

-- the bytes before the additional IDs, which are four at least, are there
long : (s : List ℕ) (at : ℕ) {begins : ℕ} → at ≤ length s → is_done (run instructions s at) ≡ true → begins ≡ at + total (spans settings blank s at) → (4 ≤ begins) × (begins ≤ length s)
long s at h q b = let w = settings_there s at h q in let n = settings_total s at in (omega (arith, w, n, b), omega (arith, w, n, b))

pub overflow_sub-begins : goal.overflow_sub-begins
overflow_sub-begins c = omega (arith, long _ _ c.requires.0 c.requires.1 c.requires.2)

pub bounds-body-begins : goal.bounds-body-begins
bounds-body-begins c = omega (arith, long _ _ c.requires.0 c.requires.1 c.requires.2)

pub overflow_sub-begins-2 : goal.overflow_sub-begins-2
overflow_sub-begins-2 c = omega (arith, long _ _ c.requires.0 c.requires.1 c.requires.2)

pub bounds-body-begins-2 : goal.bounds-body-begins-2
bounds-body-begins-2 c = omega (arith, long _ _ c.requires.0 c.requires.1 c.requires.2)

pub scope_at-t-requires : goal.scope_at-t-requires
scope_at-t-requires c =
    let there = settings_there _ _ c.requires.0 c.requires.1 in omega (arith, there)

pub returns : goal.returns
returns c =
    (rw (c.part.ensures, c.part-2.ensures, c.part-3.ensures, c.part-4.ensures, c.part-5.ensures, c.part-count.ensures) (instruction_taken _ _ c.requires.0 c.requires.1 c.requires.2 c.requires.3 refl refl refl _ c.scope_at-t.ensures c.wide-set.ensures c.wide-downmix.ensures c.requires.4 c.requires.5), refl)
