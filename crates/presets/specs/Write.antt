-- What the functions that write a preset promise: its bytes, and its actions.
use Rattle.std.specs.Prelude.{ℕ, ◌/◌, List, length}
use Rattle.wire.specs.Bits.{Field}
use Rattle.wire.specs.Act.{Act}
use Rattle.wire.specs.Layout.{broken_acts}
use Rattle.wire.specs.Spell.{fields_of}
use Rattle.conditions.specs.Write.{row_acts}
use Rattle.presets.specs.Layout.{preset}
use Rattle.presets.specs.Rows.{preset_cols, head_cells}
use Rattle.presets.specs.declared.rows.GroupPreset.{GroupPreset}

abbrev pub head_fields : GroupPreset → List (List Field)
head_fields p = fields_of (preset_cols p) head_cells

-- a preset whose conditions are rows of the table u
abbrev pub preset_acts : GroupPreset → List ℕ → List Act
preset_acts p u = broken_acts preset (length u / 13) (row_acts u) (preset_cols p)
