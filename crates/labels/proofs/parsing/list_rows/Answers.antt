-- `parsing::list_rows` meets its contract: the count, and where that many entries end.
use Rattle.wire.proofs.Handed.{handed}
use Rattle.labels.proofs.Taken.{count_lacks, count_got, entries_lack, list_counted}
use Rattle.labels.proofs.parsing.list_rows.Goals as goal

pub returns-in_err-b : goal.returns-in_err-b
returns-in_err-b c = rw (handed c.from_residual.result c.from_residual.ensures.1) (count_lacks _ _ _ c.requires.0 c.in_err-b.ensures)

pub rows_end-requires : goal.rows_end-requires
rows_end-requires c = count_got c.args.w _ _ c.requires.0 c.in_ok-b.ensures

pub returns-in_err-next : goal.returns-in_err-next
returns-in_err-next c =
    rw (handed c.from_residual-in_err-next.result c.from_residual-in_err-next.ensures.1)
    (entries_lack _ _ _ c.requires.0 c.in_ok-b.ensures c.part-count.ensures c.in_err-next.ensures)

pub returns : goal.returns
returns c = list_counted _ _ _ c.requires.0 c.in_ok-b.ensures c.part-count.ensures c.requires.1 c.in_ok-next.ensures
