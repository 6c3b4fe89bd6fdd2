use Rattle.presets.proofs.Writes.{row_acts_lem}
use Rattle.presets.proofs.writing.PresetsRows.fill.Goals as goal

pub fill_preset-requires : goal.fill_preset-requires
fill_preset-requires c = rw (c.of_columns-p.ensures, c.requires.3, row_acts_lem) c.requires.2

pub returns : goal.returns
returns c = rw (c.of_columns-p.ensures, c.requires.3, row_acts_lem) at c.fill_preset.ensures
