-- `scene::tallying::reserved_zeros` meets its contract.
use Rattle.scene.proofs.Sections.{byte_there, zeros_there, zeros_absent}
use Rattle.scene.proofs.tallying.reserved_zeros.Goals as goal

pub bounds-body-at : goal.bounds-body-at
bounds-body-at c =
    byte_there _ _ _ c.if-flag-eq1.true c.requires.0

pub returns-then-flag-eq1 : goal.returns-then-flag-eq1
returns-then-flag-eq1 c =
    zeros_there _ _ _ _ _ c.if-flag-eq1.true c.wide.ensures c.part.ensures c.idle_bits.ensures

pub returns-else-flag-eq1 : goal.returns-else-flag-eq1
returns-else-flag-eq1 c =
    zeros_absent _ _ _ _ _ c.if-flag-eq1.false
