-- The layouts read what the Rust's own functions read, line by line: a scope, each row, and the body.
use Prim.Native.Nat.{ℕ, ◌+◌, ◌*◌}
use mathlib.Core.Path.{◌≡◌, refl, sym, ap, ◌∙◌}
use mathlib.Core.List.{List, [], ◌∷◌, ◌++◌}
use mathlib.Core.Bool.{Bool, true, false}
use lib.ListN.{get_or}
use lib.Dec.{eqb}
use Rattle.wire.specs.Lists.{each}
use Rattle.wire.specs.Bits.{part, total, split}
use Rattle.wire.specs.Prog.{Prog, ret, look, u8, pass, span, many, ◌>>=◌}
use Rattle.wire.specs.Act.{pick}
use Rattle.wire.specs.Layout.{Layout, end, one, optional, ◌▹◌, num, reserved, flag, Columns, blank, set, has, put, puts, reads, row, flat, Family, Borne}
use Rattle.wire.proofs.Reading.Runs.{bind_assoc}
use Rattle.wire.proofs.Fields.{part_below}
use Rattle.frame.specs.Body.{parse}
use Rattle.pairs.specs.Layout.{pair}
use Rattle.scopes.specs.Layout.{ids, scope}
use Rattle.scopes.proofs.Taken.{case_at_lem}
use Rattle.target_loudness.specs.Layout as L
use Rattle.instructions.specs.Layout as I
use Rattle.loudness.specs.Layout as E
use Rattle.downmixes.specs.Layout as D
use Rattle.drc_kind.specs.Layout.{head, counts}
use Rattle.drc_kind.specs.Rows.{Tree, tree_is}
use Rattle.drc_kind.specs.Read as R
use Rattle.drc_kind.specs.Read.{given, body_over}
use Rattle.drc_kind.specs.Kind.{kind}

abbrev none : ℕ → List ℕ
none n = each blank 0 n

-- ---- an instruction, from its last part back: the columns F so far are 0 in the parts that are left, and `fin` is what is done with the row

module _ (fin : List ℕ → Prog Family) where
  abbrev row24 : Columns → Prog Family
  row24 g = fin (row 24 g)

  -- the last byte of a target loudness
  abbrev depends : Layout
  depends = one (reserved 1 21 ∷ num 6 22 ∷ num 1 23 ∷ []) ▹ end

  abbrev with_lower : Columns → List ℕ → Prog Family
  with_lower F l = u8 >>= λ dep. fin (each F 0 19 ++ (l ++ (part 7 1 dep ∷ part 1 6 dep ∷ part 0 1 dep ∷ [])))

  lower_so : (F : Columns) → each F 19 2 ≡ none 2 → reads (optional 18 L.lower depends) F >>= row24 ≡ given (F 18) 2 R.lower >>= with_lower F
  unfolding reads puts put split total R.lower u8 ◌>>=◌ each
  lower_so F z = go (eqb (F 18) 1)
    where
      go : (x : Bool) → ◌≡◌ {A = Prog Family} ((pick x (reads L.lower F) (ret F) >>= λ g. reads depends g) >>= row24) (pick x R.lower (ret (none 2)) >>= with_lower F)
      go true = refl
      go false = λ i. look 1 (λ d. fin (each F 0 19 ++ (z i ++ (part 7 1 (get_or d 0 0) ∷ part 1 6 (get_or d 0 0) ∷ part 0 1 (get_or d 0 0) ∷ []))))

  abbrev with_target : Columns → List ℕ → Prog Family
  with_target F t = fin (each F 0 16 ++ t)

  target_so : (F : Columns) → each F 16 8 ≡ none 8 → reads (optional 15 L.target end) F >>= row24 ≡ given (F 15) 8 R.target >>= with_target F
  unfolding reads puts put split total R.target u8 ◌>>=◌ each
  target_so F z = go (eqb (F 15) 1)
    where
      headed : List ℕ → Columns
      headed b = puts ((reserved 1 16 ∷ num 6 17 ∷ flag 18 ∷ []) ∷ []) b F

      columns : List ℕ → List ℕ → ℕ → List ℕ
      columns b l dep = let u = get_or b 0 0 in part 7 1 u ∷ part 1 6 u ∷ part 0 1 u ∷ l ++ (part 7 1 dep ∷ part 1 6 dep ∷ part 0 1 dep ∷ [])

      apart : (b : List ℕ) → (given (part 0 1 (get_or b 0 0)) 2 R.lower >>= λ l. u8 >>= λ dep. ret (columns b l dep)) >>= with_target F
          ≡ given (part 0 1 (get_or b 0 0)) 2 R.lower >>= λ l. u8 >>= λ dep. with_target F (columns b l dep)
      apart b = bind_assoc (given (part 0 1 (get_or b 0 0)) 2 R.lower) (λ l. u8 >>= λ dep. ret (columns b l dep)) (with_target F)

      go : (x : Bool) → ◌≡◌ {A = Prog Family} ((pick x (reads L.target F) (ret F) >>= λ g. ret g) >>= row24) (pick x R.target (ret (none 8)) >>= with_target F)
      go true = λ i. look 1 (λ b. (bind_assoc (reads (optional 18 L.lower depends) (headed b)) (λ g. ret g) row24 ∙ lower_so (headed b) (λ i. get_or (z i) 3 0 ∷ get_or (z i) 4 0 ∷ []) ∙ sym (apart b)) i)
      go false = λ i. fin (each F 0 16 ++ z i)

  limiter_so : (F : Columns) → each F 14 1 ≡ none 1 → each F 16 8 ≡ none 8
      → reads (optional 13 I.limiter (optional 15 L.target end)) F >>= row24 ≡ given (F 13) 1 R.limiter >>= λ l. given (F 15) 8 R.target >>= λ t. fin (each F 0 14 ++ (l ++ (F 15 ∷ t)))
  unfolding reads puts put split total R.limiter u8 ◌>>=◌ each
  limiter_so F y z = go (eqb (F 13) 1)
    where
      rest : List ℕ → Prog Family
      rest l = given (F 15) 8 R.target >>= λ t. fin (each F 0 14 ++ (l ++ (F 15 ∷ t)))

      go : (x : Bool)
          → ◌≡◌ {A = Prog Family} ((pick x (reads I.limiter F) (ret F) >>= λ g. reads (optional 15 L.target end) g) >>= row24) (pick x R.limiter (ret (none 1)) >>= rest)
      go true = λ i. look 1 (λ a. target_so (puts ((num 8 14 ∷ []) ∷ []) a F) z i)
      go false = target_so F z ∙ (λ i. given (F 15) 8 R.target >>= λ t. fin (each F 0 14 ++ (y i ++ (F 15 ∷ t))))

  abbrev behind : Columns → Prog Family
  behind F = u8 >>= λ hi. u8 >>= λ lo. given (F 13) 1 R.limiter >>= λ l. given (F 15) 8 R.target >>= λ t. fin (each F 0 12 ++ ((hi * 256 + lo) ∷ F 13 ∷ (l ++ (F 15 ∷ t))))

  effect_so : (F : Columns) → each F 14 1 ≡ none 1 → each F 16 8 ≡ none 8 → reads I.effect F >>= row24 ≡ behind F
  unfolding reads u8 ◌>>=◌ each
  effect_so F y z = λ i. look 1 (λ a. look 1 (λ b. limiter_so (set 12 (get_or a 0 0 * 256 + get_or b 0 0) F) y z i))

-- ---- parse_scope, with the type byte before it; `next` goes on from its columns, and `then` from the type byte and the scope

abbrev typed : Columns → List ℕ → ℕ → Columns
typed F b case = set 1 case (puts ((reserved 6 0 ∷ num 2 2 ∷ []) ∷ []) b F)

abbrev with_group : Columns → List ℕ → List ℕ → Columns
with_group F b x = puts ((reserved 1 3 ∷ num 7 4 ∷ []) ∷ []) x (typed F b 1)

abbrev with_preset : Columns → List ℕ → List ℕ → Columns
with_preset F b x = puts ((reserved 3 3 ∷ num 5 4 ∷ []) ∷ []) x (typed F b 2)

module _ {B : Type 0} (types : List ℕ) (F : Columns) (next : Columns → Prog B) (then : ℕ → List ℕ → Prog B) where
  abbrev kind_of : List ℕ → ℕ
  kind_of b = part 0 2 (get_or b 0 0)

  scope_so : ((b x : List ℕ) → next (with_group F b x) ≡ then (get_or b 0 0) (1 ∷ kind_of b ∷ part 7 1 (get_or x 0 0) ∷ part 0 7 (get_or x 0 0) ∷ []))
      → ((b x : List ℕ) → next (with_preset F b x) ≡ then (get_or b 0 0) (2 ∷ kind_of b ∷ part 5 3 (get_or x 0 0) ∷ part 0 5 (get_or x 0 0) ∷ []))
      → ((b : List ℕ) → next (typed F b 0) ≡ then (get_or b 0 0) (0 ∷ kind_of b ∷ 0 ∷ 0 ∷ []))
      → reads (scope types) F >>= next ≡ u8 >>= λ t. R.scope types (part 0 2 t) >>= then t
  unfolding scope reads puts put split total R.scope u8 ◌>>=◌
  scope_so g p n = λ i. look 1 (λ b. (ap (of_case b) (case_at_lem types (kind_of b) (part_below 0 2 (get_or b 0 0))) ∙ go b (has (kind_of b) types) (eqb (kind_of b) 3)) i)
    where
      of_case : List ℕ → ℕ → Prog B
      of_case b c = reads ids (typed F b c) >>= next

      scopes : List ℕ → Bool → Bool → Prog (List ℕ)
      scopes b x y =
          pick x (u8 >>= λ i. ret (1 ∷ kind_of b ∷ part 7 1 i ∷ part 0 7 i ∷ []))
          (pick y (u8 >>= λ i. ret (2 ∷ kind_of b ∷ part 5 3 i ∷ part 0 5 i ∷ [])) (ret (0 ∷ kind_of b ∷ 0 ∷ 0 ∷ [])))

      go : (b : List ℕ) (x y : Bool) → of_case b (pick x 1 (pick y 2 0)) ≡ scopes b x y >>= then (get_or b 0 0)
      go b true y = λ i. look 1 (λ x. g b x i)
      go b false true = λ i. look 1 (λ x. p b x i)
      go b false false = n b

-- ---- parse_drc_instructions

additional_so : flat 2 I.additional ≡ R.additional
unfolding pair reads puts put split total R.additional u8 ◌>>=◌ each
additional_so = refl

-- what stands behind the scope before the additional IDs
abbrev settled : Layout
settled = one (reserved 2 5 ∷ num 6 6 ∷ []) ▹ one (reserved 1 7 ∷ num 7 8 ∷ []) ▹ one (reserved 3 9 ∷ num 3 11 ∷ flag 13 ∷ flag 15 ∷ []) ▹ end

abbrev to_ids : Columns → Prog Family
to_ids f = many (f 11) (flat 2 I.additional) >>= λ l. reads I.effect f >>= λ g. ret (row 24 g, l)

abbrev from_scope : ℕ → List ℕ → Prog Family
from_scope t sc =
    u8 >>= λ s. u8 >>= λ dm. u8 >>= λ c. many (part 2 3 c) R.additional >>= λ ids. u8 >>= λ hi. u8 >>= λ lo. given (part 1 1 c) 1 R.limiter >>= λ l. given (part 0 1 c) 8 R.target >>= λ t'.
    ret (part 2 6 t ∷ sc ++ (part 6 2 s ∷ part 0 6 s ∷ part 7 1 dm ∷ part 0 7 dm ∷ part 5 3 c ∷ 0 ∷ part 2 3 c ∷ (hi * 256 + lo) ∷ part 1 1 c ∷ l ++ (part 0 1 c ∷ t')), ids)

-- the columns G behind the scope
settled_so : (G : Columns) (t : ℕ) (sc : List ℕ) → each G 0 5 ≡ part 2 6 t ∷ sc → each G 10 1 ≡ none 1 → each G 14 1 ≡ none 1 → each G 16 8 ≡ none 8
    → reads settled G >>= to_ids ≡ from_scope t sc
unfolding reads puts put split total u8 ◌>>=◌ each
settled_so G t sc e x y z = λ i. look 1 (λ a. look 1 (λ b. look 1 (λ c. step a b c i)))
  where
    F : List ℕ → List ℕ → List ℕ → Columns
    F a b c = puts ((reserved 3 9 ∷ num 3 11 ∷ flag 13 ∷ flag 15 ∷ []) ∷ []) c (puts ((reserved 1 7 ∷ num 7 8 ∷ []) ∷ []) b (puts ((reserved 2 5 ∷ num 6 6 ∷ []) ∷ []) a G))

    step : (a b c : List ℕ)
        → to_ids (F a b c) ≡ many (part 2 3 (get_or c 0 0)) R.additional >>= λ ids. u8 >>= λ hi. u8 >>= λ lo. given (part 1 1 (get_or c 0 0)) 1 R.limiter >>= λ l. given (part 0 1 (get_or c 0 0)) 8 R.target >>= λ t'.
        ret
        (part 2 6 t ∷ sc ++ (part 6 2 (get_or a 0 0) ∷ part 0 6 (get_or a 0 0) ∷ part 7 1 (get_or b 0 0) ∷ part 0 7 (get_or b 0 0) ∷ part 5 3 (get_or c 0 0) ∷ 0 ∷ part 2 3 (get_or c 0 0) ∷ (hi * 256 + lo) ∷ part 1 1 (get_or c 0 0) ∷ l ++ (part 0 1 (get_or c 0 0) ∷ t')), ids)
    step a b c =
        (λ i. many (part 2 3 (get_or c 0 0)) (additional_so i) >>= λ l. effect_so (λ r. ret (r, l)) (F a b c) y z i)
        ∙ (λ i. many (part 2 3 (get_or c 0 0)) R.additional >>= λ ids. u8 >>= λ hi. u8 >>= λ lo. given (part 1 1 (get_or c 0 0)) 1 R.limiter >>= λ l. given (part 0 1 (get_or c 0 0)) 8 R.target >>= λ t'.
        ret
        (e i ++ (part 6 2 (get_or a 0 0) ∷ part 0 6 (get_or a 0 0) ∷ part 7 1 (get_or b 0 0) ∷ part 0 7 (get_or b 0 0) ∷ part 5 3 (get_or c 0 0) ∷ get_or (x i) 0 0 ∷ part 2 3 (get_or c 0 0) ∷ (hi * 256 + lo) ∷ part 1 1 (get_or c 0 0) ∷ l ++ (part 0 1 (get_or c 0 0) ∷ t')), ids))

pub instruction_so : I.instructions ≡ R.instruction
unfolding R.instruction reads puts put split total each
instruction_so =
    bind_assoc (reads (scope I.types) blank) (λ g. reads settled g) to_ids
    ∙ scope_so I.types blank (λ g. reads settled g >>= to_ids) from_scope (λ b x. settled_so (with_group blank b x) (get_or b 0 0) _ refl refl refl refl)
    (λ b x. settled_so (with_preset blank b x) (get_or b 0 0) _ refl refl refl refl)
    (λ b. settled_so (typed blank b 0) (get_or b 0 0) _ refl refl refl refl)

-- ---- the loudness entries and the downmix definitions

abbrev to_bytes : Columns → Prog Borne
to_bytes g = u8 >>= λ n. pass n >>= λ p. ret (row 7 g, span p n)

abbrev from_type : ℕ → List ℕ → Prog Borne
from_type t sc = u8 >>= λ n. pass n >>= λ p. ret (part 2 6 t ∷ sc ++ (0 ∷ 0 ∷ []), span p n)

pub entry_so : E.entries ≡ R.loudness
unfolding R.loudness reads puts put split total each ◌>>=◌
entry_so =
    bind_assoc (reads (scope E.types) blank) (λ g. ret g) to_bytes
    ∙ scope_so E.types blank to_bytes from_type (λ b x. refl) (λ b x. refl) (λ b. refl)

pub downmix_so : flat 4 D.downmix ≡ R.downmix
unfolding D.downmix reads puts put split total R.downmix u8 ◌>>=◌ each
downmix_so = refl

-- ---- the body, over any reader of each row

module _ (instruction : Prog Family) (entry : Prog Borne) (definition : Prog (List ℕ)) where
  abbrev pub to_lists : Columns → Prog Tree
  to_lists g = many (g 5) instruction >>= λ is. many (g 6) entry >>= λ ls. many (g 7) definition >>= λ ds. ret (tree_is (row 8 g) is ls ds)

  body_so : reads head blank >>= to_lists ≡ body_over instruction entry definition
  unfolding head reads puts put split total body_over u8 many ◌>>=◌ each
  body_so = λ i. look 1 (λ a. go a (eqb (part 0 1 (get_or a 0 0)) 1) i)
    where
      F : List ℕ → Columns
      F a = puts ((reserved 7 0 ∷ flag 1 ∷ []) ∷ []) a blank

      there : ℕ → Prog Tree
      there b0 =
          u8 >>= λ a. u8 >>= λ l. u8 >>= λ d. many (part 0 6 a) instruction >>= λ is. many (part 0 6 l) entry >>= λ ls. many (part 0 5 d) definition >>= λ ds.
          ret (tree_is (part 1 7 b0 ∷ part 0 1 b0 ∷ part 6 2 a ∷ part 6 2 l ∷ part 5 3 d ∷ part 0 6 a ∷ part 0 6 l ∷ part 0 5 d ∷ []) is ls ds)

      missing : ℕ → Prog Tree
      missing b0 = ret (tree_is (part 1 7 b0 ∷ part 0 1 b0 ∷ 0 ∷ 0 ∷ 0 ∷ 0 ∷ 0 ∷ 0 ∷ []) [] [] [])

      go : (a : List ℕ) (x : Bool)
          → ◌≡◌ {A = Prog Tree} ((pick x (reads counts (F a)) (ret (F a)) >>= λ g. ret g) >>= to_lists) (pick x (there (get_or a 0 0)) (missing (get_or a 0 0)))
      go a true = refl
      go a false = refl

-- nothing of the record is read between the lists
pub by_lists : kind.program ≡ reads head blank >>= to_lists I.instructions E.entries (flat 4 D.downmix)
unfolding kind parse reads ◌>>=◌
by_lists = refl

-- the body reads as the Rust's `parse`, over the layouts of its rows
pub parse_over : kind.program ≡ body_over I.instructions E.entries (flat 4 D.downmix)
parse_over = by_lists ∙ body_so I.instructions E.entries (flat 4 D.downmix)

-- and with those of its rows
pub mirrored : kind.program ≡ R.body
mirrored = parse_over ∙ (λ i. body_over (instruction_so i) (entry_so i) (downmix_so i))
