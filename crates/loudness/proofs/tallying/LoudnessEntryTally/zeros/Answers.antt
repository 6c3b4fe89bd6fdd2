use mathlib.Core.Path.{ap, sym, ◌∙◌}
use Prim.Native.Nat.{ℕ}
use Rattle.wire.specs.Prog.{done, run}
use Rattle.wire.specs.Reads.{map_out}
use Rattle.wire.specs.Layout.{borne_row, borne_tally}
use Rattle.wire.proofs.Reading.Walk.{as_done}
use Rattle.loudness.specs.Layout.{entry, entries}
use Rattle.loudness.proofs.Taken.{entry_tally}
use Rattle.loudness.proofs.tallying.LoudnessEntryTally.zeros.Goals as goal

pub returns : goal.returns
returns c =
    let (x, e, q) = as_done (borne_row entry) (run entries c.args.body.now c.args.at) (sym c.entry_at-p.ensures) in
    (ap (λ (z : ℕ). done z c.entry_at-p.result.next) (c.scope_zeros.ensures.0 ∙ entry_tally c.entry_at-p.result.row x q) ∙ sym (ap (map_out (borne_tally entry)) e), c.scope_zeros.ensures.1)
