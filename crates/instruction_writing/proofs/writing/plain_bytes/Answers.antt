-- `writing::plain_bytes` meets its contract: a fault of its own, one of an additional ID, or none.
use native.Mathlib.Omega.{arith}
use Rattle.instruction_writing.proofs.Writes.{tested, row_plain, row_odd_kid, row_odd}
use Rattle.instruction_writing.proofs.writing.plain_bytes.Goals as goal

pub overflow_add-result : goal.overflow_add-result
overflow_add-result c =
    let w = tested c.args.d c.args.additional.now
    c.in_table-inside.ensures c.plain_scope-head.ensures c.settings_bytes.ensures c.fits_all.ensures
    c.effect_fits.ensures c.if-inside-head.true in omega (arith, w.short)

pub overflow_add-result-then-plain_pairs-count : goal.overflow_add-result-then-plain_pairs-count
overflow_add-result-then-plain_pairs-count c =
    let w = tested c.args.d c.args.additional.now
    c.in_table-inside.ensures c.plain_scope-head.ensures c.settings_bytes.ensures c.fits_all.ensures
    c.effect_fits.ensures c.if-inside-head.true in omega (arith, w.short, w.small.few)

pub effect_long-requires : goal.effect_long-requires
effect_long-requires c =
    let w = tested c.args.d c.args.additional.now
    c.in_table-inside.ensures c.plain_scope-head.ensures c.settings_bytes.ensures c.fits_all.ensures
    c.effect_fits.ensures c.if-inside-head.true in (w.sound, w.small.flag)

pub overflow_add-result-then-plain_pairs-count-2 : goal.overflow_add-result-then-plain_pairs-count-2
overflow_add-result-then-plain_pairs-count-2 c =
    let w = tested c.args.d c.args.additional.now
    c.in_table-inside.ensures c.plain_scope-head.ensures c.settings_bytes.ensures c.fits_all.ensures
    c.effect_fits.ensures c.if-inside-head.true in omega (arith, w.short, w.small.few, c.effect_long.ensures.1)

pub returns-then-plain_pairs-count : goal.returns-then-plain_pairs-count
returns-then-plain_pairs-count c = search row_plain

pub returns-else-plain_pairs-count : goal.returns-else-plain_pairs-count
returns-else-plain_pairs-count c = search row_odd_kid

pub returns-else-inside-head : goal.returns-else-inside-head
returns-else-inside-head c = search row_odd
