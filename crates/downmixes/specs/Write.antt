-- What the functions that write downmix definitions promise: the fields of the bytes, and the actions of a row.
use Rattle.std.specs.Prelude.{ℕ, List}
use Rattle.wire.specs.Bits.{Field}
use Rattle.wire.specs.Act.{Act}
use Rattle.wire.specs.Layout.{at, flat_acts}
use Rattle.wire.specs.Spell.{fields_of}
use Rattle.downmixes.specs.Layout.{downmix}
use Rattle.downmixes.specs.Rows.{downmix_cols, downmix_cells}
use Rattle.downmixes.specs.declared.rows.DownmixDefinition.{DownmixDefinition}

abbrev pub downmix_fields : DownmixDefinition → List (List Field)
downmix_fields d = fields_of (downmix_cols d) downmix_cells

-- row i of table 12
abbrev pub row_acts : List ℕ → ℕ → List Act
row_acts t i = flat_acts downmix (at 4 t i)
