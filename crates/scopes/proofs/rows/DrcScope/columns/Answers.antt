-- `DrcScope::columns` gives the four columns of each case.
use mathlib.Core.Path.{sym, ap}
use Rattle.scopes.specs.Rows.{scope_row}
use Rattle.scopes.proofs.rows.DrcScope.columns.Goals as goal

pub returns-in-Plain : goal.returns-in-Plain
returns-in-Plain c =
    ap scope_row (sym c.in-Plain.is)

pub returns-in-Group : goal.returns-in-Group
returns-in-Group c =
    ap scope_row (sym c.in-Group.is)

pub returns-in-Preset : goal.returns-in-Preset
returns-in-Preset c =
    ap scope_row (sym c.in-Preset.is)

pub returns-in-Unknown : goal.returns-in-Unknown
returns-in-Unknown c =
    ap scope_row (sym c.in-Unknown.is)
