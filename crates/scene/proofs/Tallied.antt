-- The tally of a body whose sections were found: the reserved bits of its record, and of the rows of each section.
use Prim.Native.Nat.{ℕ, ◌+◌, ◌<◌}
use mathlib.Core.Path.{◌≡◌, refl, ◌∙◌}
use mathlib.Core.List.{List, [], ◌∷◌, ◌++◌, flatten}
use mathlib.Core.Bool.{Bool, true, false}
use native.Mathlib.Omega.{arith}
use lib.ListN.{length, get_or}
use lib.Dec.{eqb}
use Rattle.wire.specs.Lists.{sum}
use Rattle.wire.specs.Bits.{part, zeros}
use Rattle.wire.specs.Prog.{run, many}
use Rattle.wire.specs.Reads.{rows_of}
use Rattle.wire.specs.Act.{pick}
use Rattle.wire.specs.Layout.{Cell, num, reserved, flag, column, idle, Columns, of, flat, shown, cells, tally, Family, family_tally}
use Rattle.frame.specs.Body as B
use Rattle.frame.specs.Numbers.{accepted}
use Rattle.frame.specs.Entry.{Tallies}
use Rattle.frame.proofs.Entries.{tallies_walked}
use Rattle.scene_groups.specs.Layout.{group}
use Rattle.switch_groups.specs.Layout.{member, switch_group, switch_group_list}
use Rattle.conditions.specs.Layout.{condition}
use Rattle.presets.specs.Layout.{preset, presets}
use Rattle.scene.specs.declared.parsing.Places.{Places}
use Rattle.scene_kind.specs.Layout as T
use Rattle.scene_kind.specs.Layout.{layouts}
use Rattle.scene_kind.specs.Kind.{kind}
use Rattle.scene.specs.Walk.{Flags, rows_at, count_at, reserved_at, reserved_zeros, groups_flag, switches_flag, presets_flag, Found, tree}
use Rattle.scene.proofs.Walked.{found_reads}
use Rattle.scene.proofs.Found.{groups_stand, switches_stand, presets_stand}

-- of a section, whether its byte is there
reserved_so : (r w ones : ℕ) (s : List ℕ) (v at : ℕ) → pick (eqb v 1) (zeros r (reserved_at r w ones s v at)) 0 ≡ reserved_zeros r w s v at
unfolding reserved_at reserved_zeros
reserved_so r w ones s v at = go (eqb v 1)
  where
    go : (x : Bool) → pick x (zeros r (pick x (part w r (get_or s at 0)) ones)) 0 ≡ pick x (zeros r (part w r (get_or s at 0))) 0
    go true = refl
    go false = refl

top_tally : (h : Columns)
    → tally layouts h ≡ zeros 5 (h 0) + (pick (eqb (h 2) 1) (zeros 1 (h 10)) 0 + (pick (eqb (h 5) 1) (zeros 3 (h 4)) 0 + pick (eqb (h 8) 1) (zeros 3 (h 7)) 0))
unfolding tally cells shown T.groups T.switch_group_list T.presets sum flatten
top_tally h = go (eqb (h 2) 1) (eqb (h 5) 1) (eqb (h 8) 1)
  where
    some : Bool → Bool → Bool → List Cell
    some a b c =
        (flag 2 ∷ flag 5 ∷ flag 8 ∷ reserved 5 0 ∷ num 8 1 ∷ (pick a (reserved 1 10 ∷ num 7 3 ∷ []) [] ++ []))
        ++ ((pick b (reserved 3 4 ∷ num 5 6 ∷ []) [] ++ []) ++ ((pick c (reserved 3 7 ∷ num 5 9 ∷ []) [] ++ []) ++ []))

    go : (a b c : Bool)
        → sum (λ (c : Cell). idle c (h (column c))) (some a b c) ≡ zeros 5 (h 0) + (pick a (zeros 1 (h 10)) 0 + (pick b (zeros 3 (h 4)) 0 + pick c (zeros 3 (h 7)) 0))
    go true true true = omega arith
    go true true false = omega arith
    go true false true = omega arith
    go true false false = omega arith
    go false true true = omega arith
    go false true false = omega arith
    go false false true = omega arith
    go false false false = omega arith

abbrev groups_tally : List (List ℕ) → ℕ
groups_tally l = sum (λ r. tally (group ∷ []) (of r)) l

abbrev switches_tally : List Family → ℕ
switches_tally l = sum (family_tally switch_group member) l

abbrev presets_tally : List Family → ℕ
presets_tally l = sum (family_tally preset condition) l

module _ {s : List ℕ} {p : Places} (f : Found s p) where
  zeros_found : kind.zeros (tree f)
      ≡ zeros 5 (part 0 5 (get_or s 0 0)) + (reserved_zeros 1 7 s (groups_flag s) 2 + (reserved_zeros 3 5 s (switches_flag s) p.switch_groups + reserved_zeros 3 5 s (presets_flag s) p.presets)) + groups_tally f.in_groups.rows
      + (switches_tally f.in_switches.rows + presets_tally f.in_presets.rows)
  unfolding kind B.layouts B.zeros
  zeros_found =
      let x = (groups_stand f).is in
      let y = (switches_stand f).is in
      let z = (presets_stand f).is in
      let a = (λ i. pick (eqb (groups_flag s) 1) (zeros 1 (x i).reserved) 0) ∙ reserved_so 1 7 1 s (groups_flag s) 2 in
      let b = (λ i. pick (eqb (switches_flag s) 1) (zeros 3 (y i).reserved) 0) ∙ reserved_so 3 5 7 s (switches_flag s) p.switch_groups in
      let c = (λ i. pick (eqb (presets_flag s) 1) (zeros 3 (z i).reserved) 0) ∙ reserved_so 3 5 7 s (presets_flag s) p.presets in
      let t = top_tally (of (tree f).0) ∙ (λ i. zeros 5 (part 0 5 (get_or s 0 0)) + (a i + (b i + c i))) in
      (λ i. t i + (groups_tally f.in_groups.rows + (switches_tally f.in_switches.rows + (presets_tally f.in_presets.rows + 0)))) ∙ omega arith

-- the sections with the flags as code has them
pub zeros_so : {s : List ℕ} {p : Places} → Found s p → length s < 65536 → {g t q : ℕ} → Flags s g t q → {r a x y z : ℕ} → r ≡ a + x + (y + z) → a ≡ zeros 5 (part 0 5 (get_or s 0 0))
    → x ≡ reserved_zeros 1 7 s g 2 + groups_tally (rows_of (run (many (count_at 7 s g 2) (flat 27 group)) s (rows_at g 2)))
    → y ≡ reserved_zeros 3 5 s t p.switch_groups + switches_tally (rows_of (run (many (count_at 5 s t p.switch_groups) switch_group_list) s (rows_at t p.switch_groups)))
    → z ≡ reserved_zeros 3 5 s q p.presets + presets_tally (rows_of (run (many (count_at 5 s q p.presets) presets) s (rows_at q p.presets))) → Tallies kind s (accepted r)
zeros_so {s} {p} f h w e a x y z =
    let x' =
    x
    ∙ (λ i. reserved_zeros 1 7 s (w.of_groups i) 2 + groups_tally (rows_of (run (many (count_at 7 s (w.of_groups i) 2) (flat 27 group)) s (rows_at (w.of_groups i) 2))))
    ∙ (λ i. reserved_zeros 1 7 s (groups_flag s) 2 + groups_tally (rows_of ((groups_stand f).reads i))) in
    let y' = y ∙ (λ i. reserved_zeros 3 5 s (w.of_switches i) p.switch_groups + switches_tally (rows_of (run (many (count_at 5 s (w.of_switches i) p.switch_groups) switch_group_list) s (rows_at (w.of_switches i) p.switch_groups))))
    ∙ (λ i. reserved_zeros 3 5 s (switches_flag s) p.switch_groups + switches_tally (rows_of ((switches_stand f).reads i))) in
    let z' = z ∙ (λ i. reserved_zeros 3 5 s (w.of_presets i) p.presets + presets_tally (rows_of (run (many (count_at 5 s (w.of_presets i) p.presets) presets) s (rows_at (w.of_presets i) p.presets))))
    ∙ (λ i. reserved_zeros 3 5 s (presets_flag s) p.presets + presets_tally (rows_of ((presets_stand f).reads i))) in
    tallies_walked kind s h (found_reads s p f) (omega (arith, e, a, x', y', z', zeros_found f))
