-- `drc_writing::writing::fill_info` meets its contract: the bytes of the counts, then the lists.
use Prim.Native.Nat.{ℕ}
use mathlib.Core.List.{List}
use mathlib.Core.Bool.{true}
use mathlib.Core.Path.{◌≡◌}
use Rattle.wire.specs.Pen.{Ready}
use Rattle.wire.specs.Spell.{Spelt, FillsAll}
use Rattle.wire.proofs.Writing.Passes.{Filling, fill_last}
use Rattle.wire.proofs.Writing.Plain.{ready_part, fill_part_lem}
use Rattle.frame.specs.Kind.{Lent}
use Rattle.drc_kind.specs.declared.rows.Info.{Info}
use Rattle.drc_writing.specs.Write.{lent, store_of, count_fields, lists_acts, info_acts}
use Rattle.wire.proofs.Writing.Parts.{part_empty}
use Rattle.drc_writing.proofs.Writes.{listed, info_begins, info_clean}
use Rattle.drc_writing.proofs.writing.fill_info.Goals as goal

-- what is left behind the bytes of the counts
behind_counts : (i : Info) (lent : Lent) (store : List ℕ) {n m : ℕ} {o o' : List ℕ} {vs : List ℕ} → i.present ≡ true → Ready (info_acts i lent store) n o → Spelt (count_fields i.part) vs → FillsAll true vs n o m o'
    → Filling (info_acts i lent store) (lists_acts i.part lent store) n o m o'
behind_counts i lent store t w s x = fill_part_lem _ s (info_begins i lent store t w) x

pub fill_all-n1-requires : goal.fill_all-n1-requires
fill_all-n1-requires c =
    ready_part _ c.count_bytes.ensures
    (info_begins c.args.i (lent c.args.lists.now) (store_of c.args.lists.now) c.if-i.true c.requires.1)

pub fill_lists-requires : goal.fill_lists-requires
fill_lists-requires c =
    let t = lent c.args.lists.now in
    (listed c.args.i _ _ _ c.if-i.true c.requires.0 (info_clean c.args.i t (store_of c.args.lists.now) c.if-i.true c.requires.1), (behind_counts c.args.i t (store_of c.args.lists.now) c.if-i.true c.requires.1 c.count_bytes.ensures c.fill_all-n1.ensures).ready)

pub returns-then-i : goal.returns-then-i
returns-then-i c =
    let t = lent c.args.lists.now in
    fill_last (behind_counts c.args.i t (store_of c.args.lists.now) c.if-i.true c.requires.1 c.count_bytes.ensures c.fill_all-n1.ensures) c.fill_lists.ensures

pub returns-else-i : goal.returns-else-i
unfolding info_acts
returns-else-i c = part_empty _ _ c.if-i.false
