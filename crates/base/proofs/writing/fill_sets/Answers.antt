-- `base::writing::fill_sets` meets its contract: the count, then the bytes from the store.
use mathlib.Core.List.{List, [], ◌∷◌}
use mathlib.Core.Path.{sym}
use borrow.Author.Tests.{leb-true}
use Rattle.wire.specs.Bits.{field, join}
use Rattle.wire.specs.Prog.{Within}
use Rattle.wire.specs.Act.{Act, byte, copy}
use Rattle.wire.specs.Pen.{Ready}
use Rattle.wire.proofs.Fields.{fits_cons, join_first}
use Rattle.wire.proofs.Writing.Passes.{Filling, fill_start, fill_byte, fill_last, fill_none, byte_ready, run_room}
use Rattle.base.specs.Write.{listed, sets_acts}
use Rattle.base.proofs.writing.fill_sets.Goals as goal

pub put-n1-requires : goal.put-n1-requires
unfolding sets_acts
put-n1-requires c =
    -- the bytes of the sets, and both actions
    let run : List Act = copy (listed c.args.sets c.args.store.now) ∷ [] in
    let all : List Act = byte (field 8 c.args.sets.indications.length ∷ []) ∷ run in
    let ready : Ready all c.args.n c.args.out.now = rw c.if-sets.true at c.requires.1 in
    let r = byte_ready ready in ((fits_cons 8 _ [] r.0).0, r.1)

pub copy-requires : goal.copy-requires
unfolding sets_acts join
copy-requires c =
    let stands : Within c.args.store.now c.args.sets.indications = leb-true _ _ (rw c.if-sets.true at c.requires.0) in
    -- the bytes of the sets, and both actions
    let run : List Act = copy (listed c.args.sets c.args.store.now) ∷ [] in
    let all : List Act = byte (field 8 c.args.sets.indications.length ∷ []) ∷ run in
    let ready : Ready all c.args.n c.args.out.now = rw c.if-sets.true at c.requires.1 in
    let counted : Filling all run c.args.n c.args.out.now c.put-n1.result c.put-n1.new.out = fill_byte (fill_start ready) (sym (join_first 8 _ [])) c.put-n1.ensures in
    let h = stands in (h, run_room _ _ _ h counted.ready)

pub returns-then-sets : goal.returns-then-sets
unfolding sets_acts join
returns-then-sets c =
    -- the bytes of the sets, and both actions
    let run : List Act = copy (listed c.args.sets c.args.store.now) ∷ [] in
    let all : List Act = byte (field 8 c.args.sets.indications.length ∷ []) ∷ run in
    let ready : Ready all c.args.n c.args.out.now = rw c.if-sets.true at c.requires.1 in
    let counted : Filling all run c.args.n c.args.out.now c.put-n1.result c.put-n1.new.out = fill_byte (fill_start ready) (sym (join_first 8 _ [])) c.put-n1.ensures in
    rw c.if-sets.true (search (fill_last, counted))

pub returns-else-sets : goal.returns-else-sets
unfolding sets_acts
returns-else-sets c = rw c.if-sets.false (fill_none _ _)
