-- The reserved bits at 0 of a list of labels.
use Rattle.std.specs.Prelude.{ℕ, ◌+◌, ◌-◌}
use Rattle.wire.specs.Lists.{sum}
use Rattle.wire.specs.Bits.{zeros}
use Rattle.wire.specs.Layout.{borne_tally}
use Rattle.labels.specs.Layout.{label}
use Rattle.labels.specs.Read.{Labels}

-- before its count, and before the ID of each entry
abbrev pub labels_tally : ℕ → Labels → ℕ
labels_tally w d = zeros (8 - w) d.reserved + sum (borne_tally (label w)) d.entries
