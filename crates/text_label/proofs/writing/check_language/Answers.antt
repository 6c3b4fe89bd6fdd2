-- `writing::check_language` meets its contract: the ranges, the letters, and the three lists.
use mathlib.Core.Path.{◌≡◌, sym, ◌∙◌}
use Prim.Native.Nat.{ℕ}
use mathlib.Core.List.{List}
use mathlib.Core.Bool.{Bool, true}
use native.Mathlib.Omega.{arith}
use Rattle.wire.proofs.Writing.Passes.{then, more, passed, refused}
use Rattle.wire.proofs.Writing.Plain.{all_checked}
use Rattle.text_label.specs.declared.rows.TextLabelLanguage.{TextLabelLanguage}
use Rattle.text_label.specs.Write.{all_within, language_acts}
use Rattle.text_label.proofs.Written.{Within, all_three}
use Rattle.text_label.proofs.writing.check_language.Goals as goal

inside : (l : TextLabelLanguage) (u : List ℕ) {r : Bool} → r ≡ all_within l u → r ≡ true → Within l u
inside l u e q = all_three l u (sym e ∙ q)

pub check_list-p2-requires : goal.check_list-p2-requires
check_list-p2-requires c =
    ((inside c.args.l c.args.entries.now c.all_within.ensures c.if-all_within.true).groups, omega (arith, (all_checked c.letter_bytes.ensures c.check_all-p1.ensures).near, c.requires), omega arith)

pub check_list-p3-requires : goal.check_list-p3-requires
check_list-p3-requires c =
    ((inside c.args.l c.args.entries.now c.all_within.ensures c.if-all_within.true).switch_groups, omega (arith, (all_checked c.letter_bytes.ensures c.check_all-p1.ensures).near, c.check_list-p2.ensures.near, c.requires), omega arith)

pub check_list-requires : goal.check_list-requires
check_list-requires c =
    ((inside c.args.l c.args.entries.now c.all_within.ensures c.if-all_within.true).presets, omega (arith, (all_checked c.letter_bytes.ensures c.check_all-p1.ensures).near, c.check_list-p2.ensures.near, c.check_list-p3.ensures.near, c.requires), omega arith)

pub returns-then-all_within : goal.returns-then-all_within
unfolding language_acts
returns-then-all_within c =
    rw (sym c.all_within.ensures ∙ c.if-all_within.true)
    (passed _ _ (passed _ _ (passed _ _ (more 48579 (then (all_checked c.letter_bytes.ensures c.check_all-p1.ensures) (then c.check_list-p2.ensures (then c.check_list-p3.ensures c.check_list.ensures))) (omega arith)))))

pub returns-else-all_within : goal.returns-else-all_within
unfolding language_acts
returns-else-all_within c =
    rw (sym c.all_within.ensures ∙ c.if-all_within.false) (refused _ _ _ _)
