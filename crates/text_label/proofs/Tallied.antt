-- The reserved bits at 0 of a language that was measured: those of its three lists, one after the other.
use Prim.Native.Nat.{ℕ, ◌+◌, ◌≤◌}
use mathlib.Core.Path.{◌≡◌, sym, ap, ◌∙◌}
use mathlib.Core.List.{List, flatten}
use mathlib.Core.Bool.{true}
use native.Mathlib.Omega.{arith}
use lib.ListN.{length}
use lib.Seq.{slice}
use Rattle.wire.specs.Lists.{sum}
use Rattle.wire.specs.Prog.{done, run}
use Rattle.wire.specs.Reads.{map_out, is_done}
use Rattle.wire.specs.Layout.{cells, shown, tally}
use Rattle.wire.proofs.Reading.Walk.{is_done_lem}
use Rattle.frame.specs.Body.{layouts, zeros}
use Rattle.labels.specs.Read.{Labels, labels}
use Rattle.labels.specs.Contract.{labels_tally}
use Rattle.text_label.specs.Layout.{groups, switch_group_list, presets}
use Rattle.text_label.specs.Rows.{Language}
use Rattle.text_label.specs.Read.{language_is, language}
use Rattle.text_label.specs.Kind.{language_rows}
use Rattle.text_label.proofs.Parsed.{list_run, LanguageRun, language_run}

zeros_so : (l : List ℕ) (g s p : Labels) → language_rows.zeros (language_is l g s p) ≡ labels_tally 7 g + (labels_tally 5 s + labels_tally 5 p)
unfolding layouts tally cells shown groups switch_group_list presets sum flatten zeros
zeros_so l g s p = omega arith

-- of a list: where it ends, and its bits
module _ (w : ℕ) (s : List ℕ) (at : ℕ) {d : Labels} {m n next : ℕ} (r : run (labels w) s at ≡ done d m) (e : done n next ≡ map_out (labels_tally w) (run (labels w) s at)) where
  list_told : (n ≡ labels_tally w d) × (next ≡ m)
  list_told = let z : done n next ≡ done (labels_tally w d) m = e ∙ ap (map_out (labels_tally w)) r in ((cc z), (cc z))

module _ (s : List ℕ) (at : ℕ) (q : is_done (run language s at) ≡ true) where
  the_end : (l : Language) × (m : ℕ) × (run language s at ≡ done l m)
  the_end = is_done_lem (run language s at) q

  it : LanguageRun s at the_end.0 the_end.1
  it = language_run s at the_end.2

  pub groups_begin : at + 3 ≤ length s
  groups_begin = it.letters_there

  pub groups_done : is_done (run (labels 7) s (at + 3)) ≡ true
  groups_done = ap is_done it.groups_read

  module _ {a n₁ : ℕ} (x : done a n₁ ≡ map_out (labels_tally 7) (run (labels 7) s (at + 3))) where
    first : (a ≡ labels_tally 7 it.groups) × (n₁ ≡ it.groups_end_lem)
    first = list_told 7 s (at + 3) it.groups_read x

    second_read : run (labels 5) s n₁ ≡ done it.switch_groups it.switch_groups_end
    second_read = ap (run (labels 5) s) first.1 ∙ it.switch_groups_read

    pub switch_groups_begin : n₁ ≤ length s
    switch_groups_begin = omega (arith, (list_run 5 s n₁ second_read).inside)

    pub switch_groups_done : is_done (run (labels 5) s n₁) ≡ true
    switch_groups_done = ap is_done second_read

    module _ {b n₂ : ℕ} (y : done b n₂ ≡ map_out (labels_tally 5) (run (labels 5) s n₁)) where
      second : (b ≡ labels_tally 5 it.switch_groups) × (n₂ ≡ it.switch_groups_end)
      second = list_told 5 s n₁ second_read y

      third_read : run (labels 5) s n₂ ≡ done it.presets the_end.1
      third_read = ap (run (labels 5) s) second.1 ∙ it.presets_read

      pub presets_begin : n₂ ≤ length s
      presets_begin = omega (arith, (list_run 5 s n₂ third_read).inside)

      pub presets_done : is_done (run (labels 5) s n₂) ≡ true
      presets_done = ap is_done third_read

      pub language_tallied : {c n₃ all : ℕ} → done c n₃ ≡ map_out (labels_tally 5) (run (labels 5) s n₂) → all ≡ a + (b + c)
          → done all n₃ ≡ map_out language_rows.zeros (run language s at)
      language_tallied z q =
          let third = list_told 5 s n₂ third_read z in
          let v =
          q ∙ (λ i. first.0 i + (second.0 i + third.0 i)) ∙ sym (zeros_so (slice at (at + 3) s) it.groups it.switch_groups it.presets)
          ∙ ap language_rows.zeros (sym it.is) in
          (λ i. done (v i) (third.1 i)) ∙ sym (ap (map_out language_rows.zeros) the_end.2)
