-- `drc_loudness::parsing::walk_lists` meets its contract: list after list, each where the one before it ends.
use Rattle.wire.proofs.Handed.{handed}
use Rattle.drc_loudness.proofs.Walked.{instructions_found, instructions_cut, entries_found, entries_cut, all_found, downmixes_cut}
use Rattle.drc_loudness.proofs.Found.{there_few}
use Rattle.drc_loudness.proofs.parsing.walk_lists.Goals as goal

pub returns-in_err-additional : goal.returns-in_err-additional
returns-in_err-additional c =
    rw (handed c.from_residual.result c.from_residual.ensures.1)
    (record { finds = instructions_cut _ c.requires.1 c.requires.0 c.info_there-info.ensures c.in_err-additional.ensures })

pub rows_end-requires : goal.rows_end-requires
rows_end-requires c = (instructions_found _ c.requires.1 c.requires.0 c.info_there-info.ensures c.in_ok-additional.ensures).on.place.inside

pub returns-in_err-downmixes : goal.returns-in_err-downmixes
returns-in_err-downmixes c =
    rw (handed c.from_residual-in_err-downmixes.result c.from_residual-in_err-downmixes.ensures.1)
    (record { finds = entries_cut (instructions_found _ c.requires.1 c.requires.0 c.info_there-info.ensures c.in_ok-additional.ensures) c.info_there-info.ensures c.in_err-downmixes.ensures })

pub measure_downmixes-requires : goal.measure_downmixes-requires
measure_downmixes-requires c =
    let w = entries_found (instructions_found _ c.requires.1 c.requires.0 c.info_there-info.ensures c.in_ok-additional.ensures) c.info_there-info.ensures c.in_ok-downmixes.ensures in
    (w.on.place.inside, rw c.info_there-info.ensures (there_few c.args.body.now).downmixes)

pub returns-in_err-k : goal.returns-in_err-k
returns-in_err-k c =
    let w = entries_found (instructions_found _ c.requires.1 c.requires.0 c.info_there-info.ensures c.in_ok-additional.ensures) c.info_there-info.ensures c.in_ok-downmixes.ensures in
    rw (handed c.from_residual-in_err-k.result c.from_residual-in_err-k.ensures.1) (record { finds = downmixes_cut w c.info_there-info.ensures c.in_err-k.ensures })

pub returns : goal.returns
returns c =
    let w = entries_found (instructions_found _ c.requires.1 c.requires.0 c.info_there-info.ensures c.in_ok-additional.ensures) c.info_there-info.ensures c.in_ok-downmixes.ensures in
    record { finds = all_found w c.info_there-info.ensures c.in_ok-k.ensures }
