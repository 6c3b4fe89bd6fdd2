-- `base::tally` meets its contract: the measure, and the reserved bits of the record.
use mathlib.Core.List.{flatten}
use mathlib.Core.Path.{sym}
use native.Mathlib.Nat.{add-zero}
use Rattle.wire.specs.Lists.{sum, each}
use Rattle.wire.specs.Layout.{of, shown, cells, tally}
use Rattle.wire.proofs.Handed.{handed}
use Rattle.frame.specs.Body.{layouts, with_place, zeros}
use Rattle.frame.proofs.Entries.{tallies_unmeasured, tallies_topped}
use Rattle.base.specs.Layout.{head}
use Rattle.base.specs.Rows.{fields}
use Rattle.base.specs.Kind.{pieces, kind}
use Rattle.base.proofs.tally.Goals as goal

pub record_at-requires : goal.record_at-requires
record_at-requires c = c.in_ok-s.ensures

pub returns : goal.returns
unfolding kind with_place each tally cells layouts head shown flatten sum zeros
returns c =
    rw c.zero_bits.ensures (tallies_topped kind _ c.in_ok-s.ensures (λ m. tally (layouts pieces) (of (fields m)))
    (λ t p. sym (add-zero (tally (layouts pieces) (of t.0)))) c.record_at.ensures)

pub returns-in_err-s : goal.returns-in_err-s
returns-in_err-s c = rw (handed c.from_residual.result c.from_residual.ensures.1) (tallies_unmeasured kind _ c.in_err-s.ensures)
