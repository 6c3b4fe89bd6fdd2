-- `writing::check_instruction` meets its contract: what stands before the additional IDs, and behind that the IDs and the rest.
use native.Mathlib.Omega.{arith}
use Rattle.wire.proofs.Handed.{handed}
use Rattle.instruction_writing.proofs.Writes.{front_behind, front_near, front_stopped, row_checked}
use Rattle.instruction_writing.proofs.writing.check_instruction.Goals as goal

pub returns-in_err-m : goal.returns-in_err-m
returns-in_err-m c =
    rw (handed c.from_residual.result c.from_residual.ensures.1) (front_stopped c.args.d c.args.additional.now c.in_err-m.ensures)

pub check_pairs-q-requires : goal.check_pairs-q-requires
check_pairs-q-requires c =
    ((front_behind c.args.d c.args.additional.now c.in_ok-m.ensures).inside, omega (arith, front_near c.args.d c.args.additional.now c.in_ok-m.ensures))

pub returns : goal.returns
returns c = row_checked c.args.d c.args.additional.now c.in_ok-m.ensures c.check_pairs-q.ensures c.check_effect.ensures
