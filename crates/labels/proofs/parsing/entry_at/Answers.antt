-- `parsing::entry_at` meets its contract: the two bytes of an entry that was measured, and where its label stands.
use native.Mathlib.Omega.{arith}
use Rattle.labels.proofs.Taken.{entry_there, entry_taken}
use Rattle.labels.proofs.parsing.entry_at.Goals as goal

pub bounds-body-at : goal.bounds-body-at
bounds-body-at c = omega (arith, entry_there _ _ _ c.requires.0 c.requires.2)

pub bounds-body-at-2 : goal.bounds-body-at-2
bounds-body-at-2 c = omega (arith, entry_there _ _ _ c.requires.0 c.requires.2)

pub payload_at-requires : goal.payload_at-requires
payload_at-requires c =
    omega (arith, entry_there _ _ _ c.requires.0 c.requires.2, c.requires.1)

pub returns : goal.returns
returns c = search entry_taken
