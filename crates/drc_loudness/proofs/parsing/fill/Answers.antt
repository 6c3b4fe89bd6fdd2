-- `drc_loudness::parsing::fill` meets its contract: table after table.
use mathlib.Core.Path.{ap}
use Rattle.drc_kind.specs.declared.rows.Info.{Info}
use Rattle.drc_loudness.proofs.Walked.{first_there}
use Rattle.drc_loudness.proofs.Stored.{instructions_ask, entries_ask, downmixes_ask, stored}
use Rattle.drc_loudness.proofs.parsing.fill.Goals as goal

pub info_at-requires : goal.info_at-requires
info_at-requires c =
    (first_there c.requires.0, c.requires.0.head)

pub rows_at-at-requires : goal.rows_at-at-requires
rows_at-at-requires c =
    first_there c.requires.0

pub nest_rows-requires : goal.nest_rows-requires
nest_rows-requires c =
    instructions_ask c.requires.0
    c.requires.1 _ _ _ _
    c.requires.2
    (ap (λ (i : Info). i.part) c.info_at.ensures) c.rows_at-at.ensures

pub store_rows-requires : goal.store_rows-requires
store_rows-requires c =
    entries_ask c.requires.0 c.requires.1 _ _ _ _ c.requires.2 (ap (λ (i : Info). i.part) c.info_at.ensures)

pub store_rows-requires-2 : goal.store_rows-requires-2
store_rows-requires-2 c =
    downmixes_ask c.requires.0 c.requires.1 _ _ _ _ c.requires.2 (ap (λ (i : Info). i.part) c.info_at.ensures)

pub returns : goal.returns
returns c =
    stored c.requires.0 c.requires.1 _ _ _ _ (ap (λ (i : Info). i.part) c.info_at.ensures) c.rows_at-at.ensures c.requires.2
    c.nest_rows.ensures c.store_rows.ensures.1 c.store_rows-2.ensures.1
