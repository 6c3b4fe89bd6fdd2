-- `scene::parsing::first_section` meets its contract: cut before its first section, or a quick look whether it has rows.
use native.Mathlib.Omega.{arith}
use Rattle.wire.proofs.Handed.{handed}
use Rattle.scene.proofs.Bare.{rows_at_near, first_there, cut_so}
use Rattle.scene.proofs.parsing.first_section.Goals as goal

pub returns-in_err-head : goal.returns-in_err-head
returns-in_err-head c =
    rw (handed c.from_residual.result c.from_residual.ensures.1) (record { sees = cut_so _ c.requires.0 c.requires.2 c.requires.3 c.in_err-head.ensures })

pub count_at-requires : goal.count_at-requires
count_at-requires c = (omega (arith, first_there _ c.requires.0 c.in_ok-head.ensures, rows_at_near c.args.g 2), omega arith)
