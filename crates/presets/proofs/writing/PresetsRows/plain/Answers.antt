use Rattle.presets.proofs.Writes.{row_acts_lem}
use Rattle.presets.proofs.writing.PresetsRows.plain.Goals as goal

pub returns : goal.returns
returns c = rw (c.of_columns-p.ensures, c.requires.2, row_acts_lem) at c.plain_bytes.ensures
