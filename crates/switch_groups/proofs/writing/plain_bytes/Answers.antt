-- `writing::plain_bytes` meets its contract: a fault of its own, one of a member, or none.
use Rattle.switch_groups.proofs.Writes.{row_uncounted, row_odd, row_behind, row_plain, row_odd_kid}
use Rattle.switch_groups.proofs.writing.plain_bytes.Goals as goal
use Rattle.switch_groups.proofs.writing.plain_bytes.Goals.{else-counted-via-then-counted+else-fields_fit, else-counted-via-else-counted}

pub plain_pairs-requires : goal.plain_pairs-requires
plain_pairs-requires c =
    let a = c.args in
    (row_behind a.members.now a.g c.in_table.ensures c.if-counted.true c.fields_fit.ensures c.if-fields_fit.true).inside

pub returns-then-plain_pairs-count : goal.returns-then-plain_pairs-count
returns-then-plain_pairs-count c = search row_plain

pub returns-else-plain_pairs-count : goal.returns-else-plain_pairs-count
returns-else-plain_pairs-count c = search row_odd_kid

pub returns-else-counted : goal.returns-else-counted
returns-else-counted c =
    let a = c.args in
    elim c.else-counted.branch [
      | else-counted-via-then-counted+else-fields_fit w ↦ row_odd a.members.now a.g c.in_table.ensures w.if-counted.true w.fields_fit.ensures w.if-fields_fit.false
      | else-counted-via-else-counted w ↦ row_uncounted a.members.now a.g c.in_table.ensures w.if-counted.false
    ]
