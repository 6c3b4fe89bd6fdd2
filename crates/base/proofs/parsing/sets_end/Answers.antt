-- `base::parsing::sets_end` meets its contract. Where the flag says that there are sets: a place after the count, and the run behind it.
use Prim.Native.Nat.{ℕ, ◌≤◌}
use mathlib.Core.Bool.{Bool, false}
use mathlib.Core.Path.{◌≡◌, refl, ap}
use mathlib.Core.List.{List}
use lib.ListN.{length}
use native.Mathlib.Omega.{arith}
use Rattle.wire.specs.Prog.{done, u8, pass, ◌>>=◌, run}
use Rattle.wire.specs.Reads.{end_of}
use Rattle.wire.proofs.Handed.{handed}
use Rattle.wire.proofs.Reading.Walk.{From, onward, cut_off, finished}
use Rattle.base.specs.Read.{sets}
use Rattle.base.proofs.Parsed.{after_count}
use Rattle.base.proofs.parsing.sets_end.Goals as goal

begun : {absent : Bool} (s : List ℕ) (at : ℕ) → absent ≡ false → at ≤ length s → From (sets absent) s at (u8 >>= after_count) at
unfolding sets
begun s at e h = record { same = ap (λ (b : Bool). run (sets b) s at) e; inside = h }

-- the count is read: the run of the sets is left
counted : {absent : Bool} (s : List ℕ) (at : ℕ) {count first : ℕ} → absent ≡ false → at ≤ length s → done count first ≡ run u8 s at → From (sets absent) s at (after_count count) first
counted s at e h r = onward u8 _ (begun s at e h) r

pub returns-then-absent : goal.returns-then-absent
unfolding sets run
returns-then-absent c = rw c.if-absent.true refl

pub returns-in_err-count : goal.returns-in_err-count
returns-in_err-count c =
    rw (handed c.from_residual.result c.from_residual.ensures.1)
    (ap end_of (cut_off u8 _ (begun _ _ c.if-absent.false c.requires) c.in_err-count.ensures.is))

pub run_at-requires : goal.run_at-requires
run_at-requires c =
    ((counted _ _ c.if-absent.false c.requires c.in_ok-count.ensures.is).inside, omega (arith, c.in_ok-count.ensures.small))

pub returns-in_err-next : goal.returns-in_err-next
returns-in_err-next c =
    rw (handed c.from_residual-in_err-next.result c.from_residual-in_err-next.ensures.1)
    (ap end_of (cut_off (pass _) _ (counted _ _ c.if-absent.false c.requires c.in_ok-count.ensures.is) c.in_err-next.ensures))

pub returns : goal.returns
returns c =
    ap end_of (finished (onward (pass _) _ (counted _ _ c.if-absent.false c.requires c.in_ok-count.ensures.is) c.in_ok-next.ensures) refl)
