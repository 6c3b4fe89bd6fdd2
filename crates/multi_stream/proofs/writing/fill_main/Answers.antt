-- `multi_stream::writing::fill_main` meets its contract: two bytes, then the groups.
use Prim.Native.Nat.{ℕ}
use mathlib.Core.List.{List, map, ◌++◌}
use native.Mathlib.Nat.{zero-add}
use native.Mathlib.Omega.{arith}
use Rattle.wire.specs.Act.{Act, byte, when, rows}
use Rattle.wire.proofs.Writing.Passes.{Filling, fill_last}
use Rattle.wire.proofs.Writing.Plain.{ready_part, fill_part_lem}
use Rattle.wire.proofs.Writing.Parts.{part_begins, part_empty, rows_there}
use mathlib.Core.Bool.{true}
use mathlib.Core.Path.{◌≡◌}
use Rattle.stream_groups.specs.Write.{row_acts}
use Rattle.wire.specs.Pen.{Ready}
use Rattle.wire.specs.Spell.{Spelt, FillsAll}
use Rattle.multi_stream.specs.declared.rows.MainStream.{MainStream}
use Rattle.multi_stream.specs.Write.{main_fields, main_acts}
use Rattle.multi_stream.proofs.writing.fill_main.Goals as goal

module _ (main : MainStream) (groups : List ℕ) {n : ℕ} {o : List ℕ} (t : main.present ≡ true) (x : Ready (main_acts main groups) n o) where
  abbrev in_groups : List Act
  in_groups = rows (row_acts groups) 0 main.part.groups

  begun : Filling (main_acts main groups) (when true (map byte (main_fields main.part)) ++ in_groups) n o n o
  unfolding main_acts
  begun = part_begins main.present (map byte (main_fields main.part)) in_groups t x

  -- behind its two bytes
  behind : {vs : List ℕ} {n₁ : ℕ} {o₁ : List ℕ} → Spelt (main_fields main.part) vs → FillsAll true vs n o n₁ o₁ → Filling (main_acts main groups) in_groups n o n₁ o₁
  behind s w = fill_part_lem in_groups {there = true} s begun w

pub fill_all-n1-requires : goal.fill_all-n1-requires
fill_all-n1-requires c = ready_part _ c.main_bytes.ensures (begun c.args.main c.args.groups.now c.if-main.true c.requires.1)

pub fill_rows-requires : goal.fill_rows-requires
fill_rows-requires c = (
  rw zero-add (rows_there _ _ 5 _ (omega arith) c.requires.0 c.if-main.true),
  tt,
  omega (arith, c.well_formed),
  (behind c.args.main c.args.groups.now c.if-main.true c.requires.1 c.main_bytes.ensures c.fill_all-n1.ensures).ready,
)

pub returns-then-main : goal.returns-then-main
returns-then-main c = fill_last (behind c.args.main c.args.groups.now c.if-main.true c.requires.1 c.main_bytes.ensures c.fill_all-n1.ensures) c.fill_rows.ensures

pub returns-else-main : goal.returns-else-main
unfolding main_acts
returns-else-main c = part_empty _ _ c.if-main.false
