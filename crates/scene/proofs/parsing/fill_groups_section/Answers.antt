-- `scene::parsing::fill_groups_section` meets its contract.
use native.Mathlib.Nat.{zero-add}
use Rattle.scene.proofs.parsing.fill_groups_section.Goals as goal

pub store_rows-requires : goal.store_rows-requires
store_rows-requires c = rw (c.rows_at.ensures, c.count_at-count.ensures.0, zero-add) (c.requires.0, c.requires.1, tt, c.requires.2)

pub returns : goal.returns
returns c =
    rw (← c.rows_at.ensures, ← c.count_at-count.ensures.0) c.store_rows.ensures.1
