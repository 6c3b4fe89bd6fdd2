use mathlib.Core.Path.{refl, sym}
use native.Mathlib.Omega.{arith}
use Rattle.wire.proofs.Handed.{handed}
use Rattle.wire.proofs.Reading.Walk.{as_done, as_short}
use Rattle.wire.proofs.Reading.Loops.{carry_turn, carry_cut, carry_end, all_left, one_less_left}
use Rattle.wire.proofs.list.rows_end.Goals as goal

pub loop-init : goal.loop-init
loop-init g c = rw all_left (record { inside = c.requires; same = refl })

pub end-requires : goal.end-requires
end-requires g c = c.loop.invariant.inside

pub returns-in_err-pos : goal.returns-in_err-pos
returns-in_err-pos g c =
    rw (handed c.from_residual.result c.from_residual.ensures.1)
    (carry_cut c.loop.invariant (omega arith) (sym (as_short (λ x. tt) _ (sym c.in_err-pos.ensures))))

pub loop-preserved : goal.loop-preserved
loop-preserved g c =
    let (_, e, _) = as_done (λ x. tt) _ (sym c.in_ok-pos.ensures) in
    rw one_less_left (carry_turn c.loop.invariant (omega arith) (sym e) (λ l. refl))

pub returns : goal.returns
returns g c = carry_end c.loop.invariant (omega arith)
