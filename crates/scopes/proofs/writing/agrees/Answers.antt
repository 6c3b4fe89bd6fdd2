-- `scopes::writing::agrees` meets its contract.
use mathlib.Core.Path.{sym, ap, ◌∙◌}
use lib.Dec.{eqb}
use Rattle.scopes.specs.Layout.{case_at}
use Rattle.scopes.specs.Rows.{case_is}
use Rattle.scopes.proofs.writing.agrees.Goals as goal

pub returns-in-Plain : goal.returns-in-Plain
returns-in-Plain c =
    λ i. eqb (ap case_is (sym c.in-Plain.is) i) ((c.case_of-case.ensures ∙ ap
    (case_at c.args.types.now) c.kind_of.ensures) i)

pub returns-in-Group : goal.returns-in-Group
returns-in-Group c =
    λ i. eqb (ap case_is (sym c.in-Group.is) i) ((c.case_of-case.ensures ∙ ap
    (case_at c.args.types.now) c.kind_of.ensures) i)

pub returns-in-Preset : goal.returns-in-Preset
returns-in-Preset c =
    λ i. eqb (ap case_is (sym c.in-Preset.is) i) ((c.case_of-case.ensures ∙ ap
    (case_at c.args.types.now) c.kind_of.ensures) i)

pub returns-in-Unknown : goal.returns-in-Unknown
returns-in-Unknown c =
    λ i. eqb (ap case_is (sym c.in-Unknown.is) i) ((c.case_of-case.ensures ∙ ap
    (case_at c.args.types.now) c.kind_of.ensures) i)
