-- The bits of an instruction: its own, and those of its additional IDs.
use mathlib.Core.Path.{refl}
use mathlib.Core.List.{[], ◌∷◌}
use native.Mathlib.Omega.{arith}
use Rattle.wire.specs.Layout.{of, flat, tally}
use Rattle.wire.specs.Prog.{run, many}
use Rattle.wire.proofs.Reading.Loops.{summed_rows}
use Rattle.instructions.specs.Layout.{additional}
use Rattle.instructions.proofs.Taken.{ids_there, ids_few}
use Rattle.instructions.proofs.Tallied.{instruction_tallied}
use Rattle.instructions.proofs.tallying.InstructionTally.zeros.Goals as goal

pub rows_zeros-below-requires : goal.rows_zeros-below-requires
rows_zeros-below-requires c =
    let a = c.args in
    let p = c.instruction_at-p in
    let (x, y) = ids_there a.body.now a.at 0 p.result.instruction c.requires.0 p.ensures.0 p.ensures.1 c.requires.1 in
    let n = ids_few a.body.now a.at 0 p.result.instruction c.requires.0 p.ensures.0 p.ensures.1 in
    (x, y, tt, omega (arith, n))

pub returns : goal.returns
returns c =
    let a = c.args in
    let p = c.instruction_at-p in
    let d = p.result.instruction in
    let n = ids_few a.body.now a.at 0 d c.requires.0 p.ensures.0 p.ensures.1 in
    let below = summed_rows (λ r. tally (additional ∷ []) (of r)) (run (many d.additional_downmix_ids.count (flat 2 additional)) a.body.now p.result.begins) c.rows_zeros-below.ensures.0 in
    (instruction_tallied a.body.now a.at d c.requires.0 p.ensures.0 p.ensures.1 c.own_zeros.ensures.0 below.0 refl, omega (arith, n, c.own_zeros.ensures.1, c.rows_zeros-below.ensures.1))
