-- The rows behind the byte of a section fill both tables.
use Rattle.scene.proofs.parsing.nest_section.Goals as goal

pub nest_rows-requires : goal.nest_rows-requires
nest_rows-requires g c = rw (c.rows_at.ensures, c.count_at-count.ensures.0) (c.requires.0, c.requires.1, c.requires.2)

pub returns : goal.returns
returns g c = rw (← c.rows_at.ensures, ← c.count_at-count.ensures.0) c.nest_rows.ensures
