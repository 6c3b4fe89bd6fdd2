-- `drc_writing::writing::fill_lists` meets its contract: list after list.
use Prim.Native.Nat.{ℕ}
use mathlib.Core.List.{List, [], ◌∷◌, ◌++◌}
use mathlib.Core.Path.{◌≡◌, refl}
use native.Mathlib.Omega.{arith}
use lib.ListN.{length}
use Rattle.wire.specs.Act.{Act, rows}
use Rattle.wire.specs.Pen.{Ready, Filled}
use Rattle.wire.proofs.Writing.Passes.{Filling, fill_start, fill_row_lem, fill_turn, fill_last}
use Rattle.frame.specs.Entry.{first_table, other_tables}
use Rattle.instruction_writing.specs.Write as I
use Rattle.loudness.specs.Write as L
use Rattle.downmixes.specs.Write as D
use Rattle.drc_kind.specs.declared.rows.DrcLoudnessInfo.{DrcLoudnessInfo}
use Rattle.drc_writing.specs.Write.{lists_acts}
use Rattle.drc_writing.proofs.Writes.{instructions_stand, entries_stand, downmixes_stand}
use Rattle.drc_writing.proofs.writing.fill_lists.Goals as goal

-- ---- the actions, list by list, and what is left of them behind each

module _ (i : DrcLoudnessInfo) (a b l d store : List ℕ) where
  abbrev all : List Act
  all = lists_acts i (a ∷ b ∷ l ∷ d ∷ []) store

  abbrev in_instructions : List Act
  in_instructions = rows (I.row_acts a b) 0 i.drc_instructions

  abbrev in_entries : List Act
  in_entries = rows (L.row_acts l store) 0 i.loudness_infos

  abbrev in_downmixes : List Act
  in_downmixes = rows (D.row_acts d) 0 i.downmix_definitions

  module _ {n : ℕ} {o : List ℕ} (w : Ready all n o) where
    begun : Filling all (in_instructions ++ (in_entries ++ in_downmixes)) n o n o
    unfolding first_table other_tables
    begun = fill_start w

    instructions_ready : Ready in_instructions n o
    instructions_ready = fill_row_lem in_instructions _ begun refl

    module _ {n₁ : ℕ} {o₁ : List ℕ} (h : length o₁ ≡ length o) (x : Filled in_instructions n o n₁ o₁) where
      behind_instructions : Filling all (in_entries ++ in_downmixes) n o n₁ o₁
      behind_instructions = fill_turn begun refl h x

      entries_ready : Ready in_entries n₁ o₁
      entries_ready = fill_row_lem in_entries _ behind_instructions refl

      behind_entries : {n₂ : ℕ} {o₂ : List ℕ} → length o₂ ≡ length o₁ → Filled in_entries n₁ o₁ n₂ o₂ → Filling all in_downmixes n o n₂ o₂
      behind_entries k y = fill_turn behind_instructions refl k y

pub fill_rows-n1-requires : goal.fill_rows-n1-requires
fill_rows-n1-requires c =
    (omega (arith, instructions_stand c.requires.0), tt, omega (arith, c.requires.0.instructions_few), instructions_ready c.args.i _ _ _ _ _ c.requires.1)

pub fill_rows-n2-requires : goal.fill_rows-n2-requires
fill_rows-n2-requires c =
    (omega (arith, entries_stand c.requires.0), tt, omega (arith, c.requires.0.entries_few), entries_ready c.args.i _ _ _ _ _ c.requires.1 c.fill_rows-n1.auto.out c.fill_rows-n1.ensures)

pub fill_rows-requires : goal.fill_rows-requires
fill_rows-requires c =
    (omega (arith, downmixes_stand c.requires.0), tt, omega (arith, c.requires.0.downmixes_few), (behind_entries c.args.i _ _ _ _ _ c.requires.1 c.fill_rows-n1.auto.out c.fill_rows-n1.ensures c.fill_rows-n2.auto.out c.fill_rows-n2.ensures).ready)

pub returns : goal.returns
returns c =
    fill_last (behind_entries c.args.i _ _ _ _ _ c.requires.1 c.fill_rows-n1.auto.out c.fill_rows-n1.ensures c.fill_rows-n2.auto.out c.fill_rows-n2.ensures) c.fill_rows.ensures
