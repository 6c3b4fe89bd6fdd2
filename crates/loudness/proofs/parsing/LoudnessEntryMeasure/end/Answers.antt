-- An entry is measured: the type byte, then the ID and the length, which are one comparison, then the bytes.
use native.Mathlib.Omega.{arith}
use Rattle.wire.proofs.Handed.{handed}
use Rattle.loudness.proofs.Taken.{ids_so, type_lacks, type_got, size_lacks, size_got, entry_ends}
use borrow.Author.Rules.{rules}
use Rattle.loudness.proofs.parsing.LoudnessEntryMeasure.end.Goals as goal

pub returns-in_err-n : goal.returns-in_err-n
returns-in_err-n c = rw (handed c.from_residual.result c.from_residual.ensures.1) (type_lacks _ _ c.in_err-n.ensures)

pub bounds-body-at : goal.bounds-body-at
bounds-body-at c = let w = type_got _ _ c.in_ok-n.ensures c.requires in omega (arith, w)

pub head-requires-2 : goal.head-requires-2
head-requires-2 c = ((type_got _ _ c.in_ok-n.ensures c.requires).1, omega (arith, c.id_bytes-ids.ensures.1))

pub returns-in_err-m : goal.returns-in_err-m
returns-in_err-m c =
    rw (handed c.from_residual-in_err-m.result c.from_residual-in_err-m.ensures.1)
    (size_lacks _ _ c.in_ok-n.ensures (ids_so c.args.body.now c.args.at c.id_bytes-ids.ensures.0 c.id_types.ensures c.part.ensures c.wide.ensures) c.in_err-m.ensures)

pub overflow_add-n : goal.overflow_add-n
overflow_add-n c =
    let w = size_got _ _ c.in_ok-n.ensures (ids_so c.args.body.now c.args.at c.id_bytes-ids.ensures.0 c.id_types.ensures c.part.ensures c.wide.ensures) c.requires c.in_ok-m.ensures in
    omega (arith, w)

pub bounds-body-n : goal.bounds-body-n
bounds-body-n c =
    let w = size_got _ _ c.in_ok-n.ensures (ids_so c.args.body.now c.args.at c.id_bytes-ids.ensures.0 c.id_types.ensures c.part.ensures c.wide.ensures) c.requires c.in_ok-m.ensures in
    omega (arith, w)

pub bytes_end-requires : goal.bytes_end-requires
bytes_end-requires c =
    ((size_got _ _ c.in_ok-n.ensures (ids_so c.args.body.now c.args.at c.id_bytes-ids.ensures.0 c.id_types.ensures c.part.ensures c.wide.ensures) c.requires c.in_ok-m.ensures).1, search rules)

pub returns : goal.returns
returns c =
    entry_ends _ _ c.in_ok-n.ensures (ids_so c.args.body.now c.args.at c.id_bytes-ids.ensures.0 c.id_types.ensures c.part.ensures c.wide.ensures) c.requires c.in_ok-m.ensures c.wide-2.ensures c.bytes_end.ensures
