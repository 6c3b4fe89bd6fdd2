use lib.Bits.{mask_lt}
use Prim.Native.Nat.{ℕ, ◌+◌}
use native.Mathlib.Omega.{arith}
use mathlib.Core.Path.{refl, sym, ap, ◌∙◌}
use native.Mathlib.Nat.{add-zero}
use lib.Bits.{and_mask}
use lib.ListN.{get_or, set, drop, length-set}
use lib.Seq.{sets}
use Rattle.wire.specs.Spell.{lows}
use Rattle.wire.proofs.Reading.Steps.{sets_turn, sets_end}
use Rattle.wire.proofs.Writing.Spelling.{lows_at, lows_long}
use Rattle.wire.proofs.spell.put_all.Goals as goal

pub loop-i-init : goal.loop-i-init
loop-i-init c = (refl, rw add-zero)

pub overflow_cast-out : goal.overflow_cast-out
overflow_cast-out c = omega (arith, mask_lt (get_or c.args.spelt.now c.loop-i.i 0) 8)

pub loop-i-preserved : goal.loop-i-preserved
loop-i-preserved c = let l = c.loop-i in let a = c.args in (simp length-set l.invariant.0, ap (λ (v : ℕ). sets (set l.out (a.n + l.i) v) (a.n + (l.i + 1)) (drop (l.i + 1) (lows a.spelt.now))) (and_mask _ 8 ∙ sym (lows_at a.spelt.now l.i)) ∙ sym (sets_turn l.out (lows a.spelt.now) a.n l.i (omega (arith, lows_long a.spelt.now))) ∙ l.invariant.1)

pub returns : goal.returns
returns c = let l = c.loop-i in let a = c.args in (omega arith, sym (sets_end l.out (lows a.spelt.now) (a.n + l.i) l.i (omega (arith, lows_long a.spelt.now))) ∙ l.invariant.1)
