-- `writing::plain_gain` meets its contract.
use mathlib.Core.Path.{◌∙◌}
use Rattle.wire.proofs.Fields.{fit_one}
use Rattle.conditions.proofs.Writes.{fit_line}
use Rattle.conditions.proofs.writing.plain_gain.Goals as goal

pub returns-then-there : goal.returns-then-there
returns-then-there c = rw c.if-there.true (rw c.of_columns-c.ensures at c.fits.ensures ∙ fit_one 8 _ ∙ fit_line _)
