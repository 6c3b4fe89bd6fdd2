-- `scene_writing::writing::count_byte` meets its contract.
use Rattle.wire.specs.Spell.{none, more}
use Rattle.scene_writing.proofs.writing.count_byte.Goals as goal

pub returns : goal.returns
returns c =
    more (rw c.wide.ensures at c.two.ensures) none
