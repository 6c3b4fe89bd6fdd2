-- `drc_writing::writing::fill_fields` meets its contract: the byte of the record, and the info.
use Prim.Native.Nat.{ℕ}
use mathlib.Core.List.{List, ◌++◌, map}
use mathlib.Core.Bool.{true}
use Rattle.wire.specs.Act.{byte, when}
use Rattle.wire.specs.Pen.{Ready}
use Rattle.wire.specs.Spell.{Spelt, FillsAll}
use Rattle.wire.proofs.Writing.Passes.{Filling, fill_start, fill_demand, fill_last, demanded}
use Rattle.wire.proofs.Writing.Plain.{ready_part, fill_part_lem}
use Rattle.frame.specs.Kind.{Lent}
use Rattle.frame.specs.Entry.{first_table, other_tables}
use Rattle.drc_kind.specs.declared.rows.MpegH3dAudioDrcLoudness.{MpegH3dAudioDrcLoudness}
use Rattle.drc_writing.specs.Write.{lent, store_of, head_fields, info_acts, drc_acts}
use Rattle.drc_writing.proofs.writing.fill_fields.Goals as goal

-- what is left behind the demands, and behind the byte of the record
module _ (m : MpegH3dAudioDrcLoudness) (lent : Lent) (store : List ℕ) {o : List ℕ} (w : Ready (drc_acts m lent store) 0 o) where
  begun : Filling (drc_acts m lent store) (when true (map byte (head_fields m)) ++ info_acts m.info lent store) 0 o 0 o
  unfolding drc_acts
  begun = fill_demand (fill_demand (fill_demand (fill_start w)))

  behind_head : {vs : List ℕ} {n : ℕ} {o' : List ℕ} → Spelt (head_fields m) vs → FillsAll true vs 0 o n o' → Filling (drc_acts m lent store) (info_acts m.info lent store) 0 o n o'
  behind_head s x = fill_part_lem _ s begun x

pub fill_all-n1-requires : goal.fill_all-n1-requires
fill_all-n1-requires c =
    ready_part _ c.head_bytes.ensures (begun c.args.m (lent c.args.lists.now) (store_of c.args.lists.now) c.requires)

pub fill_info-requires : goal.fill_info-requires
unfolding drc_acts first_table other_tables
fill_info-requires c =
    (demanded c.requires, (behind_head c.args.m (lent c.args.lists.now) (store_of c.args.lists.now) c.requires c.head_bytes.ensures c.fill_all-n1.ensures).ready)

pub returns : goal.returns
returns c =
    fill_last (behind_head c.args.m (lent c.args.lists.now) (store_of c.args.lists.now) c.requires c.head_bytes.ensures c.fill_all-n1.ensures)
    c.fill_info.ensures
