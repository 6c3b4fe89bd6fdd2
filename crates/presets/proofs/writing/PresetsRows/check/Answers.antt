use Rattle.presets.proofs.Writes.{row_acts_lem}
use Rattle.presets.proofs.writing.PresetsRows.check.Goals as goal

pub returns : goal.returns
returns c = rw (c.of_columns-p.ensures, row_acts_lem) at c.check_preset.ensures
