-- `writing::fill_languages` meets its contract: what is left to store from a row on.
use Prim.Native.Nat.{◌-◌}
use Rattle.wire.specs.Act.{rows}
use Rattle.wire.proofs.Writing.Passes.{Filling}
use Rattle.text_label.specs.Write.{row_acts}
use Rattle.text_label.proofs.writing.fill_languages.Given as goal

abbrev pub invariant-loop-i : goal.invariant-loop-i
invariant-loop-i l =
    Filling (rows (row_acts l.languages l.entries l.store) 0 l.count) (rows (row_acts l.languages l.entries l.store) l.i (l.count - l.i)) l.initial.at l.initial.out l.at l.out
