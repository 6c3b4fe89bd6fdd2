-- `scene::parsing::first_look` meets its contract: the first bytes tell that a body is cut, or has no rows.
use native.Mathlib.Omega.{arith}
use Rattle.wire.proofs.Handed.{handed}
use Rattle.wire.proofs.Layouts.Straight.{ones_past}
use Rattle.scene.proofs.Walked.{head_cut}
use Rattle.scene.proofs.Found.{flags_so}
use Rattle.scene.proofs.Bare.{none_so}
use Rattle.scene.proofs.parsing.first_look.Goals as goal

pub returns-in_err-n : goal.returns-in_err-n
returns-in_err-n c = rw (handed c.from_residual.result c.from_residual.ensures.1) (record { sees = head_cut _ c.in_err-n.ensures })

pub bounds-body-0 : goal.bounds-body-0
bounds-body-0 c = let h = (ones_past 2 _ 0 (omega arith) c.in_ok-n.ensures).inside in omega arith

pub returns-then-flags-lt32 : goal.returns-then-flags-lt32
returns-then-flags-lt32 c = record { sees = none_so (ones_past 2 _ 0 (omega arith) c.in_ok-n.ensures) c.wide-flags.ensures c.if-flags-lt32.true }

pub first_section-requires : goal.first_section-requires
first_section-requires c =
    let i = (ones_past 2 _ 0 (omega arith) c.in_ok-n.ensures).inside in
    (i, flags_so c.wide-flags.ensures c.part.ensures c.part-2.ensures c.part-3.ensures, omega (arith, c.wide-flags.ensures, c.if-flags-lt32.false), omega (arith, c.type_inv.body 0))
