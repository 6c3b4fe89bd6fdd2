-- `drc_writing::writing::check_lists` meets its contract: list after list, none behind a fault.
use Rattle.std.specs.Prelude.{Err}
use mathlib.Core.List.{List}
use mathlib.Core.Path.{refl}
use native.Mathlib.Omega.{arith}
use Rattle.wire.specs.Act.{Act}
use Rattle.wire.specs.Pen.{Checked}
use Rattle.wire.specs.declared.pen.Stopped.{Stopped}
use Rattle.wire.proofs.Handed.{handed}
use Rattle.wire.proofs.Writing.Passes.{then, more, stopped}
use Rattle.frame.specs.Entry.{first_table, other_tables}
use Rattle.drc_writing.proofs.writing.check_lists.Goals as goal

-- nothing behind a fault is looked at
halted : (q : List Act) {x : Stopped} → Checked q 0 (Err x) (Err x)
halted q {x} = stopped {f = x.0} {n = x.1} q 0 refl

pub returns-in_err-n1 : goal.returns-in_err-n1
unfolding first_table other_tables
returns-in_err-n1 c =
    rw (handed c.from_residual.result c.from_residual.ensures.1)
    (more 17450 (then c.in_err-n1.ensures (halted _)) (omega (arith, c.requires.0.instructions_few)))

pub returns-in_err-n2 : goal.returns-in_err-n2
unfolding first_table other_tables
returns-in_err-n2 c =
    rw (handed c.from_residual-in_err-n2.result c.from_residual-in_err-n2.ensures.1)
    (more 17450 (then c.in_ok-n1.ensures (then c.in_err-n2.ensures (halted _))) (omega (arith, c.requires.0.instructions_few, c.requires.0.entries_few)))

pub returns : goal.returns
unfolding first_table other_tables
returns c =
    more 17450 (then c.in_ok-n1.ensures (then c.in_ok-n2.ensures c.check_rows-3.ensures))
    (omega (arith, c.requires.0.instructions_few, c.requires.0.entries_few, c.requires.0.downmixes_few))
