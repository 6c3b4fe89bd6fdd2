-- The rows of tables 6 and 7 of a body that was read: how many there are, that the counts of a language are those of its lists, and that the declared rows are found again in their table.
use Prim.Native.Nat.{ℕ, zero, suc, ◌*◌, ◌-◌}
use mathlib.Core.Path.{◌≡◌, sym, ap, subst, ◌∙◌}
use mathlib.Core.List.{List, [], ◌∷◌, ◌++◌, map, flatten}
use native.Mathlib.Omega.{arith}
use lib.ListN.{length, get_or, length-map}
use Rattle.wire.specs.Lists.{Every, all_nil, all_cons, each, firsts}
use Rattle.wire.specs.Prog.{done, run, many}
use Rattle.wire.specs.Layout.{of, at, row}
use Rattle.wire.proofs.Reading.Nest.{firsts_length}
use Rattle.wire.proofs.Reading.Loops.{many_next, many_none}
use Rattle.wire.proofs.Layouts.Rowed.{Wide, each_as, each_wide, found}
use Rattle.frame.specs.Ranges.{ranged, ranged_row}
use Rattle.text_label.specs.Rows.{language_of, Language, TextLabel}
use Rattle.text_label.specs.Read.{language}
use Rattle.text_label.specs.Kind.{lists, entries_of}
use Rattle.text_label.specs.Contract.{language_from}
use Rattle.text_label.proofs.Mirrored.{language_at, columns_so}
use Rattle.text_label.proofs.Parsed.{list_run, language_run, BodyRun}

-- ---- the counts of a language

pub record Counted (l : Language) : Type 0 where
  pub groups : get_or l.0 5 0 ≡ length l.1.0
  pub switch_groups : get_or l.0 8 0 ≡ length l.1.1.0
  pub presets : get_or l.0 11 0 ≡ length l.1.1.1.0

pub counted : (s : List ℕ) (at : ℕ) {l : Language} {m : ℕ} → run language s at ≡ done l m → Counted l
counted s at e =
    let r = language_run s at e in
    subst Counted (sym r.is)
    (record { groups = (list_run 7 s _ r.groups_read).counted; switch_groups = (list_run 5 s _ r.switch_groups_read).counted; presets = (list_run 5 s _ r.presets_read).counted })

-- of all that a loop read
many_counted : (s : List ℕ) (k at : ℕ) (ls : List Language) {m : ℕ} → run (many k language) s at ≡ done ls m → Every Counted ls
many_counted s zero at ls e = subst (Every Counted) (sym (many_none language s 0 at (omega arith) e).0) all_nil
many_counted s (suc k) at ls e =
    let n = many_next language s (suc k) at (omega arith) e in
    let j : suc k - 1 ≡ k = omega arith in
    subst (Every Counted) (sym n.is)
    (all_cons (counted s at n.reads) (many_counted s k n.middle n.rest (ap (λ (i : ℕ). run (many i language) s n.middle) (sym j) ∙ n.goes_on)))

pub all_counted : (s : List ℕ) {t : TextLabel} {k : ℕ} → BodyRun s t k → Every Counted t.1.0
all_counted s {t} b = many_counted s _ 2 t.1.0 b.reads

-- ---- the rows of table 6

abbrev pub size_of : Language → ℕ
size_of l = length (entries_of l)

abbrev pub rows_from : List Language → List (List ℕ)
rows_from ls = map (ranged_row 12 lists) (firsts size_of 0 ls)

pub rows_counted : (ls : List Language) → length (rows_from ls) ≡ length ls
rows_counted ls = length-map (firsts size_of 0 ls) (ranged_row 12 lists) ∙ firsts_length size_of 0 ls

pub rows_wide : (ls : List Language) → Every (Wide 12) (rows_from ls)
rows_wide ls = each_wide 12 (λ (q : ℕ × Language). ranged lists q.0 q.1.1 (of q.1.0)) (firsts size_of 0 ls)

-- the declared row with the columns of a row
row_is : (t : List ℕ) (i : ℕ) (r : List ℕ) → row 12 (at 12 t i) ≡ r → language_of t (i * 12) ≡ language_of r 0
unfolding each
row_is t i r e = sym (columns_so t (i * 12)) ∙ ap (λ (r : List ℕ). language_at (of r)) e ∙ columns_so r 0

-- table 6, whatever stands behind its rows
pub languages_found : (ls : List Language) (behind : List ℕ)
    → each (λ i. language_of (flatten (rows_from ls) ++ behind) (i * 12)) 0 (length ls) ≡ map (λ (q : ℕ × Language). language_from q.0 q.1) (firsts size_of 0 ls)
languages_found ls behind =
    let t : List ℕ = flatten (rows_from ls) ++ behind in
    let e = subst (λ (n : ℕ). each (λ i. row 12 (at 12 t i)) 0 n ≡ rows_from ls) (rows_counted ls) (found 12 (rows_from ls) (rows_wide ls) behind) in
    each_as (λ (q : ℕ × Language). Unit {0}) (ranged_row 12 lists) (λ i. row 12 (at 12 t i)) (λ i. language_of t (i * 12)) (λ q. language_from q.0 q.1)
    (λ i q e u. row_is t i (ranged_row 12 lists q) e) 0 (length ls) (firsts size_of 0 ls) e (every_one (firsts size_of 0 ls))
  where
    every_one : {A : Type 0} (l : List A) → Every (λ (x : A). Unit {0}) l
    every_one [] = all_nil
    every_one (x ∷ l) = all_cons tt (every_one l)
