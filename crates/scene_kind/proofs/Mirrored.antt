-- The layouts read what the Rust's own functions read, line by line: each row, and the body.
use Prim.Native.Nat.{ℕ}
use mathlib.Core.Path.{◌≡◌, refl, sym, ◌∙◌}
use mathlib.Core.List.{List, [], ◌∷◌, ◌++◌}
use mathlib.Core.Bool.{Bool, true, false}
use lib.ListN.{get_or}
use lib.Dec.{eqb}
use Rattle.wire.specs.Lists.{each}
use Rattle.wire.specs.Bits.{part, total, split}
use Rattle.wire.specs.Prog.{Prog, ret, look, u8, u8s, many, ◌>>=◌}
use Rattle.wire.specs.Act.{pick}
use Rattle.wire.specs.Layout.{end, one, optional, num, reserved, flag, Columns, of, blank, put, puts, reads, row, flat, broken, Family}
use Rattle.wire.proofs.Lists.{second, third}
use Rattle.wire.proofs.Reading.Runs.{bind_assoc}
use Rattle.frame.specs.Body.{parse}
use Rattle.scene_groups.specs.Layout as G
use Rattle.pairs.specs.Layout.{pair}
use Rattle.switch_groups.specs.Layout as S
use Rattle.conditions.specs.Layout as C
use Rattle.presets.specs.Layout as P
use Rattle.scene_kind.specs.Layout as T
use Rattle.scene_kind.specs.Rows.{Scene, scene_is}
use Rattle.scene_kind.specs.Read as R
use Rattle.scene_kind.specs.Read.{given, all, Section, section, scene_over}
use Rattle.scene_kind.specs.Kind.{kind}

-- ---- a group, from its last part back: the columns F so far are 0 in the parts that are left

abbrev none : ℕ → List ℕ
none n = each blank 0 n

abbrev row27 : Columns → Prog (List ℕ)
row27 g = ret (row 27 g)

language_so : (F : Columns) → each F 24 3 ≡ none 3 → reads (optional 23 G.language end) F >>= row27 ≡ given (F 23) 3 R.language >>= λ l. ret (each F 0 24 ++ l)
unfolding reads puts put split total R.language u8s ◌>>=◌ each
language_so F z = go (eqb (F 23) 1)
  where
    go : (x : Bool) → ◌≡◌ {A = Prog (List ℕ)} ((pick x (reads G.language F) (ret F) >>= λ g. ret g) >>= row27) (pick x R.language (ret (none 3)) >>= λ l. ret (each F 0 24 ++ l))
    go true = λ i. look 3 (λ l. ret (each F 0 24 ++ (all (get_or l 0 0) ∷ all (second l i) ∷ all (third l i) ∷ [])))
    go false = λ i. ret (each F 0 24 ++ z i)

gain_so : (F : Columns) → each F 19 4 ≡ none 4 → each F 24 3 ≡ none 3
    → reads (optional 18 G.gain (optional 23 G.language end)) F >>= row27 ≡ given (F 18) 4 R.gain >>= λ g. given (F 23) 3 R.language >>= λ l. ret (each F 0 19 ++ (g ++ (F 23 ∷ l)))
unfolding reads puts put split total R.gain u8 ◌>>=◌ each
gain_so F y z = go (eqb (F 18) 1)
  where
    rest : List ℕ → Prog (List ℕ)
    rest g = given (F 23) 3 R.language >>= λ l. ret (each F 0 19 ++ (g ++ (F 23 ∷ l)))

    taken : List ℕ → List ℕ → Columns
    taken a b = puts ((reserved 3 21 ∷ num 5 22 ∷ []) ∷ []) b (puts ((reserved 2 19 ∷ num 6 20 ∷ []) ∷ []) a F)

    go : (x : Bool) → ◌≡◌ {A = Prog (List ℕ)} ((pick x (reads G.gain F) (ret F) >>= λ g. reads (optional 23 G.language end) g) >>= row27) (pick x R.gain (ret (none 4)) >>= rest)
    go true = λ i. look 1 (λ a. look 1 (λ b. language_so (taken a b) z i))
    go false = language_so F z ∙ (λ i. given (F 23) 3 R.language >>= λ l. ret (each F 0 19 ++ (y i ++ (F 23 ∷ l))))

position_so : (F : Columns) → each F 8 10 ≡ none 10 → each F 19 4 ≡ none 4 → each F 24 3 ≡ none 3
    → reads (optional 7 G.position (optional 18 G.gain (optional 23 G.language end))) F >>= row27
    ≡ given (F 7) 10 R.position >>= λ p. given (F 18) 4 R.gain >>= λ g. given (F 23) 3 R.language >>= λ l. ret (each F 0 8 ++ (p ++ (F 18 ∷ g ++ (F 23 ∷ l))))
unfolding reads puts put split total R.position u8 ◌>>=◌ each
position_so F x y z = go (eqb (F 7) 1)
  where
    rest : List ℕ → Prog (List ℕ)
    rest p = given (F 18) 4 R.gain >>= λ g. given (F 23) 3 R.language >>= λ l. ret (each F 0 8 ++ (p ++ (F 18 ∷ g ++ (F 23 ∷ l))))

    taken : (a b c d e : List ℕ) → Columns
    taken a b c d e =
        puts ((num 4 16 ∷ num 4 17 ∷ []) ∷ []) e
        (puts ((reserved 3 14 ∷ num 5 15 ∷ []) ∷ []) d (puts ((reserved 3 12 ∷ num 5 13 ∷ []) ∷ []) c (puts ((reserved 1 10 ∷ num 7 11 ∷ []) ∷ []) b (puts ((reserved 1 8 ∷ num 7 9 ∷ []) ∷ []) a F))))

    go : (x : Bool)
        → ◌≡◌ {A = Prog (List ℕ)} ((pick x (reads G.position F) (ret F) >>= λ g. reads (optional 18 G.gain (optional 23 G.language end)) g) >>= row27) (pick x R.position (ret (none 10)) >>= rest)
    go true = λ i. look 1 (λ a. look 1 (λ b. look 1 (λ c. look 1 (λ d. look 1 (λ e. gain_so (taken a b c d e) y z i)))))
    go false = gain_so F y z ∙ (λ i. given (F 18) 4 R.gain >>= λ g. given (F 23) 3 R.language >>= λ l. ret (each F 0 8 ++ (x i ++ (F 18 ∷ g ++ (F 23 ∷ l)))))

-- parse_group
pub group_so : flat 27 G.group ≡ R.group
unfolding G.group reads puts put split total R.group u8 ◌>>=◌ each
group_so = λ i. look 1 (λ a. look 1 (λ b. look 1 (λ c. position_so (headed a b c) refl refl refl i)))
  where
    headed : (a b c : List ℕ) → Columns
    headed a b c =
        puts ((reserved 4 5 ∷ num 4 6 ∷ []) ∷ []) c
        (puts ((reserved 3 2 ∷ flag 3 ∷ flag 4 ∷ flag 7 ∷ flag 18 ∷ flag 23 ∷ []) ∷ []) b (puts ((reserved 1 0 ∷ num 7 1 ∷ []) ∷ []) a blank))

-- ---- parse_switch_group

member_so : flat 2 S.member ≡ R.member
unfolding pair reads puts put split total R.member u8 ◌>>=◌ each
member_so = refl

pub switch_so : S.switch_group_list ≡ R.switch_group
unfolding reads puts put split total R.switch_group u8 ◌>>=◌ each
switch_so = λ i. broken S.switch_group (member_so i)

-- ---- parse_preset

abbrev row13 : Columns → Prog (List ℕ)
row13 g = ret (row 13 g)

preset_position_so : (F : Columns) → each F 8 5 ≡ none 5 → reads (optional 7 C.position end) F >>= row13 ≡ given (F 7) 5 R.preset_position >>= λ p. ret (each F 0 8 ++ p)
unfolding reads puts put split total R.preset_position u8 ◌>>=◌ each
preset_position_so F z = go (eqb (F 7) 1)
  where
    go : (x : Bool)
        → ◌≡◌ {A = Prog (List ℕ)} ((pick x (reads C.position F) (ret F) >>= λ g. ret g) >>= row13) (pick x R.preset_position (ret (none 5)) >>= λ p. ret (each F 0 8 ++ p))
    go true = refl
    go false = λ i. ret (each F 0 8 ++ z i)

preset_gain_so : (F : Columns) → each F 6 1 ≡ none 1 → each F 8 5 ≡ none 5
    → reads (optional 5 (one (num 8 6 ∷ []) end) (optional 7 C.position end)) F >>= row13 ≡ given (F 5) 1 R.preset_gain >>= λ g. given (F 7) 5 R.preset_position >>= λ p. ret (each F 0 6 ++ (g ++ (F 7 ∷ p)))
unfolding reads puts put split total R.preset_gain u8 ◌>>=◌ each
preset_gain_so F y z = go (eqb (F 5) 1)
  where
    rest : List ℕ → Prog (List ℕ)
    rest g = given (F 7) 5 R.preset_position >>= λ p. ret (each F 0 6 ++ (g ++ (F 7 ∷ p)))

    go : (x : Bool)
        → ◌≡◌ {A = Prog (List ℕ)} ((pick x (reads (one (num 8 6 ∷ []) end) F) (ret F) >>= λ g. reads (optional 7 C.position end) g) >>= row13) (pick x R.preset_gain (ret (none 1)) >>= rest)
    go true = λ i. look 1 (λ a. preset_position_so (puts ((num 8 6 ∷ []) ∷ []) a F) z i)
    go false = preset_position_so F z ∙ (λ i. given (F 7) 5 R.preset_position >>= λ p. ret (each F 0 6 ++ (y i ++ (F 7 ∷ p))))

-- in the detail stand both, and it is taken apart before its columns are joined to those of the condition
detail_so : (F : Columns) → each F 2 11 ≡ none 11 → reads (optional 1 C.detail end) F >>= row13 ≡ given (F 1) 11 R.detail >>= λ d. ret (F 0 ∷ F 1 ∷ d)
unfolding reads puts put split total R.detail u8 ◌>>=◌ each
detail_so F z = go (eqb (F 1) 1)
  where
    join : List ℕ → Prog (List ℕ)
    join d = ret (F 0 ∷ F 1 ∷ d)

    headed : List ℕ → Columns
    headed b = puts ((reserved 4 2 ∷ flag 3 ∷ flag 5 ∷ flag 4 ∷ flag 7 ∷ []) ∷ []) b F

    columns : List ℕ → List ℕ → List ℕ → List ℕ
    columns b g p = let d = get_or b 0 0 in part 4 4 d ∷ part 3 1 d ∷ part 1 1 d ∷ part 2 1 d ∷ g ++ (part 0 1 d ∷ p)

    apart : (b : List ℕ) → (given (part 2 1 (get_or b 0 0)) 1 R.preset_gain >>= λ g. given (part 0 1 (get_or b 0 0)) 5 R.preset_position >>= λ p. ret (columns b g p)) >>= join
        ≡ given (part 2 1 (get_or b 0 0)) 1 R.preset_gain >>= λ g. given (part 0 1 (get_or b 0 0)) 5 R.preset_position >>= λ p. join (columns b g p)
    apart b =
        bind_assoc (given (part 2 1 (get_or b 0 0)) 1 R.preset_gain) (λ g. given (part 0 1 (get_or b 0 0)) 5 R.preset_position >>= λ p. ret (columns b g p)) join
        ∙ (λ i. given (part 2 1 (get_or b 0 0)) 1 R.preset_gain >>= λ g. bind_assoc (given (part 0 1 (get_or b 0 0)) 5 R.preset_position) (λ p. ret (columns b g p)) join i)

    go : (x : Bool) → ◌≡◌ {A = Prog (List ℕ)} ((pick x (reads C.detail F) (ret F) >>= λ g. ret g) >>= row13) (pick x R.detail (ret (none 11)) >>= join)
    go true = λ i. look 1 (λ b. (bind_assoc (reads (optional 5 (one (num 8 6 ∷ []) end) (optional 7 C.position end)) (headed b)) (λ g. ret g) row13 ∙ preset_gain_so (headed b) (λ i. get_or (z i) 4 0 ∷ []) (λ i. get_or (z i) 6 0 ∷ get_or (z i) 7 0 ∷ get_or (z i) 8 0 ∷ get_or (z i) 9 0 ∷ get_or (z i) 10 0 ∷ []) ∙ sym (apart b)) i)
    go false = λ i. ret (F 0 ∷ F 1 ∷ z i)

condition_so : flat 13 C.condition ≡ R.condition
unfolding C.condition reads puts put split total R.condition u8 ◌>>=◌ each
condition_so = λ i. look 1 (λ a. detail_so (puts ((num 7 0 ∷ flag 1 ∷ []) ∷ []) a blank) refl i)

pub preset_so : P.presets ≡ R.preset
unfolding reads puts put split total R.preset u8 ◌>>=◌ each
preset_so = λ i. broken P.preset (condition_so i)

-- ---- the body, from the presets back: the columns g so far have the section as an absent one

module _ (G : Prog (List ℕ)) (S P : Prog Family) where
  abbrev to_presets : List (List ℕ) → List Family → Columns → Prog Scene
  to_presets gs ss h = many (h 9) P >>= λ ps. ret (scene_is (row 11 h) gs ss ps)

  abbrev with_presets : Columns → List (List ℕ) → List Family → Section Family → Prog Scene
  with_presets g gs ss p = ret (scene_is (g 0 ∷ g 1 ∷ g 2 ∷ g 3 ∷ g 4 ∷ g 5 ∷ g 6 ∷ p.reserved ∷ g 8 ∷ p.count ∷ g 10 ∷ []) gs ss p.rows)

  presets_so : (g : Columns) (gs : List (List ℕ)) (ss : List Family) → g 7 ≡ 7 → g 9 ≡ 0 → reads T.presets g >>= to_presets gs ss ≡ section (g 8) 3 5 7 P >>= with_presets g gs ss
  unfolding T.presets reads puts put split total section u8 many ◌>>=◌ each
  presets_so g gs ss e₇ e₉ = go (eqb (g 8) 1)
    where
      go : (x : Bool) → ◌≡◌ {A = Prog Scene} ((pick x (reads (one (reserved 3 7 ∷ num 5 9 ∷ []) end) g) (ret g) >>= λ g. ret g) >>= to_presets gs ss)
          (pick x (u8 >>= λ b. many (part 0 5 b) P >>= λ l. ret (record { reserved = part 5 3 b; count = part 0 5 b; rows = l })) (ret (record { reserved = 7; count = 0; rows = [] })) >>= with_presets g gs ss)
      go true = λ i. look 1 (λ b. sym (bind_assoc (many (part 0 5 (get_or b 0 0)) P) (λ l. ret (record { reserved = part 5 3 (get_or b 0 0); count = part 0 5 (get_or b 0 0); rows = l })) (with_presets g gs ss)) i)
      go false = λ i. many (e₉ i) P >>= λ ps. ret (scene_is (g 0 ∷ g 1 ∷ g 2 ∷ g 3 ∷ g 4 ∷ g 5 ∷ g 6 ∷ e₇ i ∷ g 8 ∷ e₉ i ∷ g 10 ∷ []) gs ss ps)

  abbrev to_switches : List (List ℕ) → Columns → Prog Scene
  to_switches gs g = many (g 6) S >>= λ ss. reads T.presets g >>= to_presets gs ss

  abbrev with_switches : Columns → List (List ℕ) → Section Family → Prog Scene
  with_switches f gs s =
      section (f 8) 3 5 7 P >>= λ p. ret (scene_is (f 0 ∷ f 1 ∷ f 2 ∷ f 3 ∷ s.reserved ∷ f 5 ∷ s.count ∷ p.reserved ∷ f 8 ∷ p.count ∷ f 10 ∷ []) gs s.rows p.rows)

  switches_so : (f : Columns) (gs : List (List ℕ)) → f 4 ≡ 7 → f 6 ≡ 0 → f 7 ≡ 7 → f 9 ≡ 0
      → reads T.switch_group_list f >>= to_switches gs ≡ section (f 5) 3 5 7 S >>= with_switches f gs
  unfolding T.switch_group_list reads puts put split total section u8 many ◌>>=◌
  switches_so f gs e₄ e₆ e₇ e₉ = go (eqb (f 5) 1)
    where
      sec : List ℕ → List Family → Section Family
      sec b l = record { reserved = part 5 3 (get_or b 0 0); count = part 0 5 (get_or b 0 0); rows = l }

      counted : List ℕ → Columns
      counted b = puts ((reserved 3 4 ∷ num 5 6 ∷ []) ∷ []) b f

      go : (x : Bool) → ◌≡◌ {A = Prog Scene} ((pick x (reads (one (reserved 3 4 ∷ num 5 6 ∷ []) end) f) (ret f) >>= λ g. ret g) >>= to_switches gs)
          (pick x (u8 >>= λ b. many (part 0 5 b) S >>= λ l. ret (record { reserved = part 5 3 b; count = part 0 5 b; rows = l })) (ret (record { reserved = 7; count = 0; rows = [] })) >>= with_switches f gs)
      go true = λ i. look 1 (λ b. ((λ i. many (part 0 5 (get_or b 0 0)) S >>= λ ss. presets_so (counted b) gs ss e₇ e₉ i) ∙ sym (bind_assoc (many (part 0 5 (get_or b 0 0)) S) (λ l. ret (sec b l)) (with_switches f gs))) i)
      go false =
          (λ i. many (f 6) S >>= λ ss. presets_so f gs ss e₇ e₉ i)
          ∙ (λ i. many (e₆ i) S >>= λ ss. section (f 8) 3 5 7 P >>= λ p. ret (scene_is (f 0 ∷ f 1 ∷ f 2 ∷ f 3 ∷ e₄ i ∷ f 5 ∷ e₆ i ∷ p.reserved ∷ f 8 ∷ p.count ∷ f 10 ∷ []) gs ss p.rows))

  abbrev to_groups : Columns → Prog Scene
  to_groups f = many (f 3) G >>= λ gs. reads T.switch_group_list f >>= to_switches gs

  abbrev with_groups : Columns → Section (List ℕ) → Prog Scene
  with_groups f g =
      section (f 5) 3 5 7 S >>= λ s. section (f 8) 3 5 7 P >>= λ p.
      ret (scene_is (f 0 ∷ f 1 ∷ f 2 ∷ g.count ∷ s.reserved ∷ f 5 ∷ s.count ∷ p.reserved ∷ f 8 ∷ p.count ∷ g.reserved ∷ []) g.rows s.rows p.rows)

  groups_so : reads T.groups (of T.absent) >>= to_groups ≡ scene_over G S P
  unfolding T.groups reads puts put split total section scene_over u8 many ◌>>=◌
  groups_so = λ i. look 1 (λ a. look 1 (λ b. go a b (eqb (part 7 1 (get_or a 0 0)) 1) i))
    where
      headed : List ℕ → List ℕ → Columns
      headed a b = puts ((num 8 1 ∷ []) ∷ []) b (puts ((flag 2 ∷ flag 5 ∷ flag 8 ∷ reserved 5 0 ∷ []) ∷ []) a (of T.absent))

      sec : List ℕ → List (List ℕ) → Section (List ℕ)
      sec c l = record { reserved = part 7 1 (get_or c 0 0); count = part 0 7 (get_or c 0 0); rows = l }

      counted : List ℕ → List ℕ → List ℕ → Columns
      counted a b c = puts ((reserved 1 10 ∷ num 7 3 ∷ []) ∷ []) c (headed a b)

      go : (a b : List ℕ) (x : Bool) → ◌≡◌ {A = Prog Scene} ((pick x (reads (one (reserved 1 10 ∷ num 7 3 ∷ []) end) (headed a b)) (ret (headed a b)) >>= λ g. ret g) >>= to_groups)
          (pick x (u8 >>= λ c. many (part 0 7 c) G >>= λ l. ret (record { reserved = part 7 1 c; count = part 0 7 c; rows = l })) (ret (record { reserved = 1; count = 0; rows = [] })) >>= with_groups (headed a b))
      go a b true = λ i. look 1 (λ c. ((λ i. many (part 0 7 (get_or c 0 0)) G >>= λ gs. switches_so (counted a b c) gs refl refl refl refl i) ∙ sym (bind_assoc (many (part 0 7 (get_or c 0 0)) G) (λ l. ret (sec c l)) (with_groups (headed a b)))) i)
      go a b false = switches_so (headed a b) [] refl refl refl refl

-- the body reads as the Rust's `parse`, over the layouts of its rows
pub parse_over : kind.program ≡ scene_over (flat 27 G.group) S.switch_group_list P.presets
unfolding kind parse reads ◌>>=◌
parse_over = groups_so (flat 27 G.group) S.switch_group_list P.presets

-- and with those of its rows
pub mirrored : kind.program ≡ R.scene
mirrored = parse_over ∙ (λ i. scene_over (group_so i) (switch_so i) (preset_so i))
