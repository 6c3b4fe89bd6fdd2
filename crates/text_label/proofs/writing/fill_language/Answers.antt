-- `writing::fill_language` meets its contract: the letters, and the three lists.
use Prim.Native.Nat.{ℕ}
use mathlib.Core.Path.{refl}
use mathlib.Core.List.{List, ◌++◌, map}
use mathlib.Core.Bool.{true}
use native.Mathlib.Omega.{arith}
use Rattle.wire.specs.Act.{Act, byte, when}
use Rattle.wire.specs.Pen.{Ready, Filled}
use Rattle.wire.specs.Spell.{Spelt, FillsAll}
use Rattle.wire.proofs.Writing.Passes.{Filling, fill_start, fill_demand, fill_row_lem, fill_turn, fill_last, demanded}
use Rattle.wire.proofs.Writing.Plain.{filled_long, ready_part, fill_part_lem}
use Rattle.labels.specs.Write.{list_acts}
use Rattle.text_label.specs.declared.rows.TextLabelLanguage.{TextLabelLanguage}
use Rattle.text_label.specs.Write.{letter_fields, language_acts}
use Rattle.text_label.proofs.Written.{Within, all_three}
use Rattle.text_label.proofs.writing.fill_language.Goals as goal

-- what is left after the letters, after the groups and after the switch groups
module _ (u store : List ℕ) (l : TextLabelLanguage) where
  abbrev last : List Act
  last = list_acts 5 u store l.presets

  abbrev last_two : List Act
  last_two = list_acts 5 u store l.switch_groups ++ last

  abbrev all_lists : List Act
  all_lists = list_acts 7 u store l.groups ++ last_two

module _ (u store : List ℕ) (l : TextLabelLanguage) {n : ℕ} {o : List ℕ} (x : Ready (language_acts u store l) n o) where
  within : Within l u
  unfolding language_acts
  within = all_three l u (demanded x)

  begun : Filling (language_acts u store l) (when true (map byte (letter_fields l.language)) ++ all_lists u store l) n o n o
  unfolding language_acts
  begun = fill_demand (fill_demand (fill_demand (fill_start x)))

  module _ {vs : List ℕ} (s : Spelt (letter_fields l.language) vs) {n₁ : ℕ} {o₁ : List ℕ} (a : FillsAll true vs n o n₁ o₁) where
    letters_filled : Filling (language_acts u store l) (all_lists u store l) n o n₁ o₁
    letters_filled = fill_part_lem (all_lists u store l) {there = true} s begun a

    module _ {n₂ : ℕ} {o₂ : List ℕ} (b : Filled (list_acts 7 u store l.groups) n₁ o₁ n₂ o₂) where
      groups_filled : Filling (language_acts u store l) (last_two u store l) n o n₂ o₂
      groups_filled = fill_turn letters_filled refl (filled_long b) b

      switch_groups_filled : {n₃ : ℕ} {o₃ : List ℕ} → Filled (list_acts 5 u store l.switch_groups) n₂ o₂ n₃ o₃ → Filling (language_acts u store l) (last u store l) n o n₃ o₃
      switch_groups_filled d = fill_turn groups_filled refl (filled_long d) d

pub fill_all-n1-requires : goal.fill_all-n1-requires
fill_all-n1-requires c = ready_part _ c.letter_bytes.ensures (begun c.args.entries.now c.args.store.now c.args.l c.requires)

pub fill_list-n2-requires : goal.fill_list-n2-requires
fill_list-n2-requires c =
    let w = c.requires in
    ((within _ _ _ w).groups, fill_row_lem _ _ (letters_filled _ _ _ w c.letter_bytes.ensures c.fill_all-n1.ensures) refl, omega arith)

pub fill_list-n3-requires : goal.fill_list-n3-requires
fill_list-n3-requires c =
    let w = c.requires in
    ((within _ _ _ w).switch_groups, fill_row_lem _ _ (groups_filled _ _ _ w c.letter_bytes.ensures c.fill_all-n1.ensures c.fill_list-n2.ensures) refl, omega arith)

pub fill_list-requires : goal.fill_list-requires
fill_list-requires c =
    let w = c.requires in
    ((within _ _ _ w).presets, (switch_groups_filled _ _ _ w c.letter_bytes.ensures c.fill_all-n1.ensures c.fill_list-n2.ensures c.fill_list-n3.ensures).ready, omega arith)

pub returns : goal.returns
returns c = fill_last (switch_groups_filled _ _ _ c.requires c.letter_bytes.ensures c.fill_all-n1.ensures c.fill_list-n2.ensures c.fill_list-n3.ensures) c.fill_list.ensures
