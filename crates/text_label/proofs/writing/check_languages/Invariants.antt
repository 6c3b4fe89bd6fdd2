-- `writing::check_languages` meets its contract: what is left to check from a row on; a fault ends it.
use Prim.Native.Nat.{◌-◌, ◌*◌}
use Rattle.wire.specs.Act.{rows}
use Rattle.wire.specs.Pen.{At}
use Rattle.wire.proofs.Writing.Passes.{Checking}
use Rattle.text_label.specs.Write.{row_acts}
use Rattle.text_label.proofs.writing.check_languages.Given as goal

abbrev pub invariant-loop-i : goal.invariant-loop-i
invariant-loop-i l =
    Checking (rows (row_acts l.languages l.entries l.store) 0 l.count) (rows (row_acts l.languages l.entries l.store) l.i (l.count - l.i)) (48579 * l.i) (At l.initial.at) (At l.at)
