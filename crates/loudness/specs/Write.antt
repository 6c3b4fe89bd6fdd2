-- What the functions that write loudness entries promise: the actions of an entry, and those of a row, which is read through the scope that its columns make.
use Rattle.std.specs.Prelude.{ℕ, List}
use Rattle.wire.specs.Act.{Act}
use Rattle.wire.specs.Layout.{at, bearing_acts}
use Rattle.scopes.specs.Rows.{scoped}
use Rattle.loudness.specs.Layout.{entry}
use Rattle.loudness.specs.Rows.{entry_cols}
use Rattle.loudness.specs.declared.rows.LoudnessInfoEntry.{LoudnessInfoEntry}

abbrev pub entry_acts : List ℕ → LoudnessInfoEntry → List Act
entry_acts store e = bearing_acts entry store (entry_cols e)

-- row i of table 11
abbrev pub row_acts : List ℕ → List ℕ → ℕ → List Act
row_acts t store i = bearing_acts entry store (scoped (at 7 t i))
