-- Rows that are laid out, as formats and in their tables: with no break, and with rows of another table at one. One computed test for each row type.
use Prim.Native.Nat.{ℕ, zero, suc, ◌+◌, ◌*◌, ◌/◌, ◌≤◌, ◌<◌}
use mathlib.Core.List.{List, [], ◌∷◌, ◌++◌, append_assoc, append-nil, map, map-id, flatten, flat_map}
use mathlib.Core.Bool.{Bool, true, false, not, ◌&&◌}
use mathlib.Core.Path.{◌≡◌, refl, sym, ap, subst, ◌∙◌}
use native.Mathlib.Omega.{arith}
use native.Mathlib.Nat.{add-zero, zero-add, suc-mul, zero-mul, le-div_iff_mul-le}
use lib.ListN.{length, get_or, length-append, length-map, get_or-append}
use lib.Seq.{get_or-append-add}
use lib.Dec.{eqb, leb, ltb}
use borrow.Author.Tests.{eqb-true, eq-eqb, ltb-true, ltb-false, le-leb, leb-true, not-true}
use Rattle.wire.specs.Lists.{Every, all_nil, all_cons, each, sum, firsts, Column}
use Rattle.wire.specs.Prog.{Prog, ret, many, ◌>>=◌}
use Rattle.wire.specs.Act.{Act, pick, rows}
use Rattle.wire.specs.Pen.{clean, bytes}
use Rattle.wire.specs.Layout.{Layout, end, line, word, choose, follows, judged, Columns, of, at, row, set, reads, writes, shown, cells, matches, matched, every, flagged, counted, has, mix, columns, blank, flat, flat_acts, flat_means, Broken, layouts, broken, broken_acts, broken_means, broken_row, Family, parents, kids, family_acts_of, family_means_of}
use Rattle.wire.proofs.Lists.{every_and, every_as, every_map, every_flat, every_firsts}
use Rattle.wire.proofs.Writing.Acts.{and_both, both_and, clean_append, clean_both, bytes_append}
use Rattle.wire.proofs.Reading.Takes.{Takes, takes_split, map_takes, seen, Listed, no_more, one_more, many_takes, listed_every, listed_bound}
use Rattle.wire.proofs.Tables.{each_length}
use Rattle.wire.proofs.Reading.Nest.{each_split, firsts_below, firsts_length, flat_length}
use Rattle.wire.proofs.Layouts.Codec.{Codec, list, Counted, Spells, spells_rows, seen_as, AsFits}
use Rattle.wire.proofs.Layouts.Cells.{all, free, proper, On, clash, cells_on, mix_in, sound_both, both_sound, looked}
use Rattle.wire.proofs.Layouts.Forms.{Form, last, hole, form_go, form_means, form_acts, FormFits, form_shown, form_matches, form_all, form_proper, form_spans, form_shown_in, sure, sure_shown, below, below_has, each_in, each_every, row_of, rows_codec, rows_goes, RowFits, woven, Holes, Cleans, means_again, row_spells, row_ready, row_columns}

-- ---- rows in a table

module _ {Q A B : Type 0} (P : Q → Type 0) (h : Q → A) (f : ℕ → A) where
  -- what stands in row after row is that of the list
  pub each_as : (v : ℕ → B) (t : Q → B) → ((i : ℕ) (q : Q) → f i ≡ h q → P q → v i ≡ t q) → (i k : ℕ) (qs : List Q) → each f i k ≡ map h qs → Every P qs → each v i k ≡ map t qs
  unfolding each
  each_as v t w i zero [] e all_nil = refl
  each_as v t w i zero (q ∷ qs) e r = let z : ◌≡◌ {A = ℕ} 0 1 = cc e in absurd (omega arith)
  each_as v t w i (suc k) [] e r = let z : ◌≡◌ {A = ℕ} 0 1 = cc e in absurd (omega arith)
  each_as v t w i (suc k) (q ∷ qs) e (all_cons p r) =
      let a : f i ≡ h q = cc e in
      let b : each f (i + 1) k ≡ map h qs = cc e in
      λ j. w i q a p j ∷ each_as v t w (i + 1) k qs b r j

module _ {Q A : Type 0} (P : Q → Type 0) (h : Q → A) (f : ℕ → A) where
  pub each_clean : (a : ℕ → List Act) → ((i : ℕ) (q : Q) → f i ≡ h q → P q → clean (a i) ≡ true) → (i k : ℕ) (qs : List Q) → each f i k ≡ map h qs → Every P qs
      → clean (rows a i k) ≡ true
  unfolding each rows flatten clean
  each_clean a w i zero [] e all_nil = refl
  each_clean a w i zero (q ∷ qs) e r = let z : ◌≡◌ {A = ℕ} 0 1 = cc e in absurd (omega arith)
  each_clean a w i (suc k) [] e r = let z : ◌≡◌ {A = ℕ} 0 1 = cc e in absurd (omega arith)
  each_clean a w i (suc k) (q ∷ qs) e (all_cons p r) =
      let x : f i ≡ h q = cc e in
      let y : each f (i + 1) k ≡ map h qs = cc e in
      clean_append (a i) (rows a (i + 1) k) ∙ both_and (w i q x p) (each_clean a w (i + 1) k qs y r)

pub each_like : (f g : Columns) (i n : ℕ) → ((j : ℕ) → j < n → f (i + j) ≡ g (i + j)) → each f i n ≡ each g i n
unfolding each
each_like f g i zero h = refl
each_like f g i (suc n) h =
    let a : f i ≡ g i = rw add-zero at (h 0 (omega arith)) in
    λ k. a k ∷ each_like f g (i + 1) n (λ j l. let q : i + suc j ≡ i + 1 + j = omega arith in subst (λ (m : ℕ). f m ≡ g m) q (h (suc j) (omega arith))) k

abbrev pub Wide : ℕ → List ℕ → Type 0
Wide n r = length r ≡ n

found_one : (n : ℕ) (r before behind : List ℕ) (i : ℕ) → length r ≡ n → length before ≡ i * n → row n (at n (before ++ (r ++ behind)) i) ≡ r
found_one n r before behind i e b = each_like (at n (before ++ (r ++ behind)) i) (of r) 0 n one ∙ row_of n r e
  where
    one : (j : ℕ) → j < n → get_or (before ++ (r ++ behind)) (i * n + (0 + j)) 0 ≡ get_or r (0 + j) 0
    one j l = rw (zero-add j, ← b) (get_or-append-add before (r ++ behind) j 0 ∙ get_or-append r behind 0 j (rw e l))

found_from : (n : ℕ) (l : List (List ℕ)) → Every (Wide n) l → (behind before : List ℕ) (i : ℕ) → length before ≡ i * n
    → each (λ i. row n (at n (before ++ (flatten l ++ behind)) i)) i (length l) ≡ l
unfolding each flatten
found_from n [] all_nil behind before i b = refl
found_from n (r ∷ l) (all_cons e h) behind before i b =
    let q : before ++ ((r ++ flatten l) ++ behind) ≡ before ++ (r ++ (flatten l ++ behind)) = rw (append_assoc r (flatten l) behind) in
    let q' : before ++ ((r ++ flatten l) ++ behind) ≡ (before ++ r) ++ (flatten l ++ behind) = q ∙ sym (append_assoc before r (flatten l ++ behind)) in
    let m : length (before ++ r) ≡ (i + 1) * n = omega (arith, length-append before r, suc-mul i n, b, e) in
    λ k. (ap (λ (t : List ℕ). row n (at n t i)) q ∙ found_one n r before (flatten l ++ behind) i e b) k ∷ (ap (λ (t : List ℕ). each (λ i. row n (at n t i)) (i + 1) (length l)) q' ∙ found_from n l h behind (before ++ r) (i + 1) m) k

-- rows that were stored are found again
pub found : (n : ℕ) (l : List (List ℕ)) → Every (Wide n) l → (behind : List ℕ) → each (λ i. row n (at n (flatten l ++ behind) i)) 0 (length l) ≡ l
found n l h behind = found_from n l h behind [] 0 (sym (zero-mul n))

-- a row found in a table agrees with it in its columns
pub row_on : (n : ℕ) (ks : List ℕ) → below n ks ≡ true → (r : List ℕ) (g : Columns) → row n g ≡ r → On ks (of r) g
row_on n ks b r g e j h = go (ltb j n) refl
  where
    go : (x : Bool) → ltb j n ≡ x → of r j ≡ g j
    go true q = ap (λ (r : List ℕ). of r j) (sym e) ∙ each_in g 0 n j (ltb-true j n q) ∙ ap g (zero-add j)
    go false q = let l = ltb-false j n q in clash h (below_has n ks b j (omega arith))

pub on_all : {T M : Type 0} (x : Form T M) (f g : Columns) → On (form_all x) f g → On (columns (form_shown x f)) f g
on_all x f g h j e = go (has j (form_all x)) refl
  where
    go : (b : Bool) → has j (form_all x) ≡ b → f j ≡ g j
    go true q = h j q
    go false q = clash e (form_shown_in x f j q)

-- ---- rows with no break

-- demands make no bytes
pub matches_none : (l : Layout) (g : Columns) → bytes (matches l g) ≡ []
unfolding matches bytes
matches_none end g = refl
matches_none (line css l) g = matches_none l g
matches_none (word k l) g = matches_none l g
matches_none (choose k is p q l) g =
    bytes_append (pick (is (g k)) (matches p g) (matches q g)) (matches l g) ∙ (λ i. go (is (g k)) (matches_none p g) (matches_none q g) i ++ matches_none l g i)
  where
    go : (b : Bool) → bytes (matches p g) ≡ [] → bytes (matches q g) ≡ [] → bytes (pick b (matches p g) (matches q g)) ≡ []
    go true x y = x
    go false x y = y
matches_none (follows c j t x l) g = matches_none l g
matches_none (judged p l) g = bytes_append (matches p g) (matches l g) ∙ (λ i. matches_none p g i ++ matches_none l g i)

pub matched_none : (ls : List Layout) (g : Columns) → bytes (matched ls g) ≡ []
unfolding matched bytes
matched_none [] g = refl
matched_none (l ∷ []) g = matches_none l g
matched_none (l ∷ m ∷ ls) g = bytes_append (matches l g) (matched (m ∷ ls) g) ∙ (λ i. matches_none l g i ++ matched_none (m ∷ ls) g i)

-- a layout in which nothing follows has nothing to match
unfoldable pub loose : Layout → Bool
loose end = true
loose (line css l) = loose l
loose (word k l) = loose l
loose (choose k is p q l) = loose p && (loose q && loose l)
loose (follows c j t x l) = false
loose (judged p l) = loose p && loose l

pub matches_loose : (l : Layout) (g : Columns) → loose l ≡ true → matches l g ≡ []
unfolding loose matches
matches_loose end g e = refl
matches_loose (line css l) g e = matches_loose l g e
matches_loose (word k l) g e = matches_loose l g e
matches_loose (choose k is p q l) g e =
    let (a, b) = and_both (loose p) _ e in
    let (c, d) = and_both (loose q) _ b in
    λ i. go (is (g k)) (matches_loose p g a) (matches_loose q g c) i ++ matches_loose l g d i
  where
    go : (b : Bool) → matches p g ≡ [] → matches q g ≡ [] → pick b (matches p g) (matches q g) ≡ []
    go true x y = x
    go false x y = y
matches_loose (follows c j t x l) g e = absurd (let z : ◌≡◌ {A = ℕ} 0 1 = cc e in omega arith)
matches_loose (judged p l) g e = let (a, b) = and_both (loose p) _ e in λ i. matches_loose p g a i ++ matches_loose l g b i

-- actions after demands make the bytes that they make
pub after_demands : (ls : List Layout) (g : Columns) (q : List Act) → bytes (matched ls g ++ q) ≡ bytes q
after_demands ls g q = bytes_append (matched ls g) q ∙ ap (λ (b : List ℕ). b ++ bytes q) (matched_none ls g)

unfoldable pub weight : Layout → ℕ
weight end = 0
weight (line css l) = length css + weight l
weight (word k l) = 2 + weight l
weight (choose k is p q l) = weight l
weight (follows c j t x l) = weight l
weight (judged p l) = weight p + weight l

-- a row with no break: how many columns it has, its layout, and that it passes the one test
unfoldable pub flat_test : ℕ → Layout → Bool
flat_test n l = form_proper [] (last l) && (below n (form_all (last l)) && (ltb 0 n && leb 1 (weight l)))

pub record Flat : Type 0 where
  pub columns : ℕ
  pub layout : Layout
  pub passes : flat_test columns layout ≡ true

module _ (x : Flat) where
  pub flat_proper : form_proper [] (last x.layout) ≡ true
  unfolding flat_test
  flat_proper = (and_both (form_proper [] (last x.layout)) _ x.passes).0

  pub flat_below : below x.columns (form_all (last x.layout)) ≡ true
  unfolding flat_test
  flat_below = let (_, e) = and_both (form_proper [] (last x.layout)) _ x.passes in (and_both (below x.columns (form_all (last x.layout))) _ e).0

  pub flat_positive : (0 < x.columns) × (1 ≤ weight x.layout)
  unfolding flat_test
  flat_positive =
      let (_, e) = and_both (form_proper [] (last x.layout)) _ x.passes in
      let (_, f) = and_both (below x.columns (form_all (last x.layout))) _ e in
      let (a, b) = and_both (ltb 0 x.columns) _ f in
      (ltb-true _ _ a, leb-true _ _ b)

module _ (x : Flat) where
  abbrev pub base : Codec (List ℕ × Unit {0}) (List ℕ × Unit {0})
  base = rows_codec x.columns (last x.layout) blank (flat_proper x) (flat_below x) (λ j h. refl)

  pub flat_same : base.read >>= (λ v. ret v.0) ≡ flat x.columns x.layout
  unfolding rows_codec form_go
  flat_same = rows_goes x.columns (last x.layout) blank (flat_proper x) (flat_below x) (λ j h. refl) (λ v. ret v.0)

  pub no_spans : (v : List ℕ × Unit {0}) → base.spans v ≡ []
  unfolding rows_codec form_spans
  no_spans v = refl

  unfoldable pub flats : Codec (List ℕ) (List ℕ)
  unfolding rows_codec
  flats = seen_as base (λ v. v.0) (flat x.columns x.layout) flat_same (λ r. []) no_spans (λ s r. r) (λ c. c.0) (λ r. (r, tt)) (λ s v. refl) (λ c f e. refl)

  pub flat_wide : (r : List ℕ) → flats.Fits r → length r ≡ x.columns
  unfolding flats seen_as AsFits rows_codec RowFits
  flat_wide r f = f.0.0

  -- found in a table, it means what was read
  pub flat_again : (r : List ℕ) → flats.Fits r → (g : Columns) → row x.columns g ≡ r → flat_means x.columns x.layout g ≡ r
  unfolding flats seen_as AsFits rows_codec form_shown cells
  flat_again r f g e =
      means_again x.columns (last x.layout) blank (flat_proper x) (flat_below x) (λ j h. refl) (r, tt) f.0 g
      (on_all (last x.layout) (of r) g (row_on x.columns (form_all (last x.layout)) (flat_below x) r g e))

  pub flat_spells : (g : Columns) → clean (flat_acts x.layout g) ≡ true → Spells flats (flat_acts x.layout g) (flat_means x.columns x.layout g)
  unfolding flats seen_as AsFits form_shown form_matches woven cells matched clean bytes rows_codec Holes
  flat_spells g e =
      let (d, e₁) = and_both (every flagged g (shown x.layout g)) _ e in
      let (f, e₂) = and_both (every counted g (shown x.layout g)) _ e₁ in
      let (m, e₃) = clean_both (matches x.layout g) _ e₂ in
      let s = row_spells x.columns (last x.layout) blank (flat_proper x) (flat_below x) (λ j h. refl) g tt tt (both_sound (shown x.layout g) g d f, m) e₃ tt in
      record { fits = (s.fits, refl); sound = s.sound; same = after_demands (x.layout ∷ []) g (writes x.layout g) ∙ s.same }

  pub flat_ready : (r : List ℕ) → flats.Fits r → clean (flats.acts r) ≡ true → (g : Columns) → row x.columns g ≡ r → clean (flat_acts x.layout g) ≡ true
  unfolding flats seen_as AsFits rows_codec form_shown form_matches woven cells matched clean Cleans
  flat_ready r f e g q =
      let y =
      row_ready x.columns (last x.layout) blank (flat_proper x) (flat_below x) (λ j h. refl) (r, tt) f.0 e g
      (on_all (last x.layout) (of r) g (row_on x.columns (form_all (last x.layout)) (flat_below x) r g q)) in
      let (a, b) = sound_both (shown x.layout g) g y.fit.0 in
      both_and a (both_and b (clean_append (matches x.layout g) (writes x.layout g) ∙ both_and y.fit.1 (y.sound tt tt)))

  pub flat_columns : (r : List ℕ) → flats.Fits r → clean (flats.acts r) ≡ true → Every Column r
  unfolding flats seen_as AsFits rows_codec
  flat_columns r f e =
      let h = row_columns x.columns (last x.layout) blank (flat_proper x) (flat_below x) (λ j h. refl) (λ j. omega arith) (r, tt) f.0 e in
      subst (Every Column) (row_of x.columns r (flat_wide r f)) (each_every Column (of r) 0 x.columns h)

-- ---- rows with rows of another table at one break

abbrev pub broken_form : {A C : Type 0} → Broken → Codec A C → Form (List A × Unit {0}) (List C × Unit {0})
broken_form b m = hole b.head b.count (list m) (last b.tail)

-- the one test of a row with a break
unfoldable pub nest_test : Broken → Bool
nest_test b =
    proper [] b.head && (not (has b.count (all b.tail)) && (free (all b.head) (all b.tail) && proper (sure b.head ++ []) b.tail))
    &&
    (below b.width (all b.head ++ all b.tail) && (has b.count (sure b.head) && (not (has b.first (all b.head ++ all b.tail)) && (below b.width (b.first ∷ b.count ∷ []) && (not (eqb b.count b.first) && leb 1 (weight b.head))))))

module _ {A C : Type 0} (b : Broken) (m : Codec A C) (t : nest_test b ≡ true) where
  pub record NestTests : Type 0 where
    pub proper_so : form_proper [] (broken_form b m) ≡ true
    pub below_so : below b.width (form_all (broken_form b m)) ≡ true
    pub counts_so : has b.count (sure b.head) ≡ true
    pub starts_so : has b.first (form_all (broken_form b m)) ≡ false
    pub range_so : below b.width (b.first ∷ b.count ∷ []) ≡ true
    pub two_so : eqb b.count b.first ≡ false
    pub weight_so : 1 ≤ weight b.head

  pub nest_tests : NestTests
  unfolding nest_test form_proper form_all
  nest_tests =
      let (p₀, p₁) =
      and_both (proper [] b.head && (not (has b.count (all b.tail)) && (free (all b.head) (all b.tail) && proper (sure b.head ++ []) b.tail))) _ t in
      let (p₂, p₃) = and_both (below b.width (all b.head ++ all b.tail)) _ p₁ in
      let (p₄, p₅) = and_both (has b.count (sure b.head)) _ p₃ in
      let (p₆, p₇) = and_both (not (has b.first (all b.head ++ all b.tail))) _ p₅ in
      let (p₈, p₉) = and_both (below b.width (b.first ∷ b.count ∷ [])) _ p₇ in
      let (p, w) = and_both (not (eqb b.count b.first)) _ p₉ in
      record { proper_so = p₀; below_so = p₂; counts_so = p₄; starts_so = not-true _ p₆; range_so = p₈; two_so = not-true _ p; weight_so = leb-true _ _ w }

module _ {A C : Type 0} (b : Broken) (m : Codec A C) (t : nest_test b ≡ true) where
  abbrev pub with_unit : Codec (List ℕ × (List A × Unit {0})) (List ℕ × (List C × Unit {0}))
  with_unit = rows_codec b.width (broken_form b m) blank (nest_tests b m t).proper_so (nest_tests b m t).below_so (λ j h. refl)

  pub broken_same : with_unit.read >>= (λ v. ret (v.0, v.1.0)) ≡ broken b m.read
  unfolding rows_codec form_go list
  broken_same = rows_goes b.width (broken_form b m) blank (nest_tests b m t).proper_so (nest_tests b m t).below_so (λ j h. refl) (λ v. ret (v.0, v.1.0))

  pub broken_spans : (v : List ℕ × (List A × Unit {0})) → with_unit.spans v ≡ flat_map m.spans v.1.0
  unfolding rows_codec form_spans list
  broken_spans v = append-nil (flat_map m.spans v.1.0)

  unfoldable pub breaks : Codec (List ℕ × List A) (List ℕ × List C)
  unfolding rows_codec form_means list
  breaks =
      seen_as with_unit (λ v. (v.0, v.1.0)) (broken b m.read) broken_same (λ v. flat_map m.spans v.1) broken_spans (λ s v. (v.0, map (m.means s) v.1))
      (λ c. (c.0, c.1.0)) (λ d. (d.0, (d.1, tt)))
      (λ s v. refl) (λ c f e. refl)

  -- found in its table, with its first row besides
  pub broken_on : (i : ℕ) (v : List ℕ × List C) (g : Columns) → row b.width g ≡ broken_row b (i, v) → On (form_all (broken_form b m)) (of v.0) g
  broken_on i v g e j h =
      let q = row_on b.width (form_all (broken_form b m)) (nest_tests b m t).below_so (broken_row b (i, v)) g e j h in
      let a = row_on b.width (form_all (broken_form b m)) (nest_tests b m t).below_so (broken_row b (i, v)) (set b.first i (of v.0)) refl j h in
      go (eqb j b.first) refl ∙ sym a ∙ q
    where
      go : (x : Bool) → eqb j b.first ≡ x → of v.0 j ≡ pick x i (of v.0 j)
      go true z = clash (subst (λ (k : ℕ). has k (form_all (broken_form b m)) ≡ true) (eqb-true j b.first z) h) (nest_tests b m t).starts_so
      go false z = refl

  pub broken_again : (c : List ℕ × List C) → breaks.Fits c → (g : Columns) → On (form_all (broken_form b m)) (of c.0) g
      → row b.width (mix (columns (cells (layouts b) g)) g blank) ≡ c.0
  unfolding breaks seen_as AsFits rows_codec form_shown cells
  broken_again c f g o =
      means_again b.width (broken_form b m) blank (nest_tests b m t).proper_so (nest_tests b m t).below_so (λ j h. refl) (c.0, (c.1, tt)) f.0 g
      (on_all (broken_form b m) (of c.0) g o)

  pub broken_spells : (room : ℕ) (kid : ℕ → List Act) (v : ℕ → C) → ((i : ℕ) → clean (kid i) ≡ true → Spells m (kid i) (v i)) → (g : Columns)
      → clean (broken_acts b room kid g) ≡ true
      → Spells breaks (broken_acts b room kid g) (broken_means b v g)
  unfolding breaks seen_as AsFits form_shown form_matches woven cells matched clean bytes rows_codec Holes
  broken_spells room kid v h g e =
      let x = broken_form b m in
      let (_, e₀) = and_both (leb (g b.first + g b.count) room) _ e in
      let (d, e₁) = and_both (every flagged g (shown b.head g ++ shown b.tail g)) _ e₀ in
      let (f, e₅) = and_both (every counted g (shown b.head g ++ shown b.tail g)) _ e₁ in
      let (w, e₂) = clean_both (matches b.head g ++ matches b.tail g) _ e₅ in
      let (_, e₃) = clean_both (writes b.head g) _ e₂ in
      let (e₄, _) = clean_both (rows kid (g b.first) (g b.count)) _ e₃ in
      let y = spells_rows m kid v h (g b.first) (g b.count) e₄ in
      let ks = columns (shown b.head g ++ shown b.tail g) in
      let k : mix ks g blank b.count ≡ g b.count =
      sure_shown b.head g (cells_on (shown b.head g) (shown b.tail g) (mix_in ks g blank)).0 b.count (nest_tests b m t).counts_so in
      let y' = subst (λ (n : ℕ). Spells (list m n) (rows kid (g b.first) (g b.count)) (each v (g b.first) (g b.count))) (sym k) y in
      let s =
      row_spells b.width x blank (nest_tests b m t).proper_so (nest_tests b m t).below_so (λ j h. refl) g (rows kid (g b.first) (g b.count), tt)
      (each v (g b.first) (g b.count), tt) (both_sound (shown b.head g ++ shown b.tail g) g d f, w) e₂ (y', tt) in
      record { fits = (s.fits, refl); sound = s.sound; same = after_demands (layouts b) g _ ∙ s.same }

  pub broken_ready : (c : List ℕ × List C) → breaks.Fits c → clean (breaks.acts c) ≡ true → (g : Columns) → On (form_all (broken_form b m)) (of c.0) g
      → (room : ℕ) (kid : ℕ → List Act)
      → g b.first + g b.count ≤ room → clean (rows kid (g b.first) (g b.count)) ≡ true → clean (broken_acts b room kid g) ≡ true
  unfolding breaks seen_as AsFits rows_codec form_shown form_matches woven cells matched clean Cleans
  broken_ready c f e g o room kid l h =
      let x = broken_form b m in
      let y = row_ready b.width x blank (nest_tests b m t).proper_so (nest_tests b m t).below_so (λ j h. refl) (c.0, (c.1, tt)) f.0 e g (on_all x (of c.0) g o) in
      let (p, q) = sound_both (shown b.head g ++ shown b.tail g) g y.fit.0 in
      both_and (le-leb _ _ l)
      (both_and p (both_and q (clean_append (matches b.head g ++ matches b.tail g) _ ∙ both_and y.fit.1 (y.sound (rows kid (g b.first) (g b.count), tt) (h, tt)))))

  -- its count, its rows and their actions
  pub record Kids (c : List ℕ × List C) : Type 0 where
    pub counted : get_or c.0 b.count 0 ≡ length c.1
    pub fit : Every m.Fits c.1
    pub sound : clean (flat_map m.acts c.1) ≡ true

  pub broken_kids : (c : List ℕ × List C) → breaks.Fits c → clean (breaks.acts c) ≡ true → Kids c
  unfolding breaks seen_as AsFits rows_codec RowFits FormFits form_acts list Counted
  broken_kids c f e =
      let (_, e₀) = clean_both (writes b.head (of c.0)) _ e in
      let (e₁, _) = clean_both (flat_map m.acts c.1) _ e₀ in
      let k = f.0.2.1.0 in
      record { counted = sym k.0; fit = k.1; sound = e₁ }

  pub broken_columns : (c : List ℕ × List C) → breaks.Fits c → clean (breaks.acts c) ≡ true → (i : ℕ) → i < 65536 → Every Column (broken_row b (i, c))
  unfolding breaks seen_as AsFits rows_codec
  broken_columns c f e i l =
      let h =
      row_columns b.width (broken_form b m) blank (nest_tests b m t).proper_so (nest_tests b m t).below_so (λ j h. refl) (λ j. omega arith) (c.0, (c.1, tt)) f.0 e in
      each_every Column (set b.first i (of c.0)) 0 b.width (λ j. go j (eqb j b.first) (h j))
    where
      go : (j : ℕ) (x : Bool) → get_or c.0 j 0 < 65536 → pick x i (of c.0 j) < 65536
      go j true h = l
      go j false h = h

-- ---- lists of rows in their tables

abbrev pub Good : {A C : Type 0} → Codec A C → C → Type 0
Good m c = m.Fits c × (clean (m.acts c) ≡ true)

pub good_list : {A C : Type 0} (m : Codec A C) (l : List C) → Every m.Fits l → clean (flat_map m.acts l) ≡ true → Every (Good m) l
unfolding flat_map
good_list m [] all_nil e = all_nil
good_list m (c ∷ l) (all_cons f h) e = let (a, b) = clean_both (m.acts c) (flat_map m.acts l) e in all_cons (f, a) (good_list m l h b)

pub rows_long : (n : ℕ) (l : List (List ℕ)) → Every (Wide n) l → length (flatten l) ≡ length l * n
unfolding flatten
rows_long n [] all_nil = sym (zero-mul n)
rows_long n (r ∷ l) (all_cons e h) = omega (arith, length-append r (flatten l), e, rows_long n l h, suc-mul (length l) n)

-- a table has at least the rows that stand in it
pub room_for : (n : ℕ) (l : List (List ℕ)) (behind : List ℕ) → 0 < n → Every (Wide n) l → length l ≤ length (flatten l ++ behind) / n
room_for n l behind z h = (le-div_iff_mul-le z).1 (omega (arith, rows_long n l h, length-append (flatten l) behind))

pub each_wide : (n : ℕ) {A : Type 0} (f : A → Columns) (l : List A) → Every (Wide n) (map (λ x. row n (f x)) l)
each_wide n f [] = all_nil
each_wide n f (x ∷ l) = all_cons (each_length (f x) 0 n) (each_wide n f l)

module _ (x : Flat) (t : List ℕ) (i k : ℕ) (rs : List (List ℕ)) (e : each (λ i. row x.columns (at x.columns t i)) i k ≡ rs) where
  stands : each (λ i. row x.columns (at x.columns t i)) i k ≡ map (λ r. r) rs
  stands = e ∙ sym (map-id rs)

  pub rows_again : Every (Good (flats x)) rs → each (λ i. flat_means x.columns x.layout (at x.columns t i)) i k ≡ rs
  rows_again h =
      each_as (Good (flats x)) (λ r. r) (λ i. row x.columns (at x.columns t i)) (λ i. flat_means x.columns x.layout (at x.columns t i)) (λ r. r)
      (λ i r q h. flat_again x r h.0 (at x.columns t i) q) i k rs stands h
      ∙ map-id rs

  pub rows_ready : Every (Good (flats x)) rs → clean (rows (λ i. flat_acts x.layout (at x.columns t i)) i k) ≡ true
  rows_ready h =
      each_clean (Good (flats x)) (λ r. r) (λ i. row x.columns (at x.columns t i)) (λ i. flat_acts x.layout (at x.columns t i))
      (λ i r q h. flat_ready x r h.0 h.1 (at x.columns t i) q) i k rs stands h

-- each list of rows, from its first row on
pub kids_stand : {X : Type 0} (f : ℕ → List ℕ) (kids : X → List (List ℕ)) (xs : List X) (n : ℕ) → each f n (length (flat_map kids xs)) ≡ flat_map kids xs
    → Every (λ (q : ℕ × X). each f q.0 (length (kids q.1)) ≡ kids q.1) (firsts (λ x. length (kids x)) n xs)
unfolding firsts flat_map
kids_stand f kids [] n e = all_nil
kids_stand f kids (x ∷ xs) n e = let (a, b) = each_split f (kids x) (flat_map kids xs) n e in all_cons a (kids_stand f kids xs (n + length (kids x)) b)

pub firsts_back : {X : Type 0} (size : X → ℕ) (n : ℕ) (xs : List X) → map (λ q. q.1) (firsts size n xs) ≡ xs
unfolding firsts
firsts_back size n [] = refl
firsts_back {X} size n (x ∷ xs) = ap (λ (l : List X). x ∷ l) (firsts_back size (n + size x) xs)

-- ---- how many bytes a row takes at least

pub weighs : (l : Layout) (f g : Columns) (at : ℕ) (bs : List ℕ) → Takes (reads l f) at g bs → weight l ≤ length bs
unfolding reads weight
weighs end f g at bs t = omega arith
weighs (line css l) f g at bs (seen xs r n q t) = omega (arith, weighs l _ g _ r t, n, ap length q ∙ length-append xs r)
weighs (word k l) f g at bs t =
    let u = looked t in
    let v = looked u.on in
    omega
    (arith, weighs l _ g _ v.back v.on, u.long, v.long, ap length u.joined ∙ length-append u.front u.back, ap length v.joined ∙ length-append v.front v.back)
weighs (choose k is p q l) f g at bs t = let u = takes_split (pick (is (f k)) (reads p f) (reads q f)) (λ x. reads l x) t in omega (arith, weighs l u.value g _ u.back u.second, ap length u.joined ∙ length-append u.front u.back)
weighs (follows c j tb x l) f g at bs t = weighs l _ g at bs t
weighs (judged p l) f g at bs t =
    let u = takes_split (reads p f) (λ x. reads l x) t in
    omega (arith, weighs p f u.value at u.front u.first, weighs l u.value g _ u.back u.second, ap length u.joined ∙ length-append u.front u.back)

pub flat_weighs : (n : ℕ) (l : Layout) (at : ℕ) (r bs : List ℕ) → Takes (flat n l) at r bs → weight l ≤ length bs
flat_weighs n l at r bs t = let (g, e, u) = map_takes (reads l blank) (λ g. row n g) t in weighs l blank g at bs u

pub flat_grows : (n : ℕ) (l : Layout) (at : ℕ) (r bs : List ℕ) → Takes (flat n l) at r bs → Wide n r
flat_grows n l at r bs t = let (g, e, u) = map_takes (reads l blank) (λ g. row n g) t in subst (Wide n) e (each_length g 0 n)

-- a number of each element that its bytes bound
pub listed_sum : {A : Type 0} (p : Prog A) (f : A → ℕ) → ((at : ℕ) (x : A) (bs : List ℕ) → Takes p at x bs → f x ≤ length bs) → {k at : ℕ} {l : List A} {bs : List ℕ}
    → Listed p k at l bs → sum f l ≤ length bs
unfolding sum
listed_sum p f h no_more = omega arith
listed_sum p f h (one_more {at = at} {x = x} {front = front} {back = back} t r) = omega (arith, h at x front t, listed_sum p f h r, length-append front back)

-- ---- lists of rows with rows of another table, both in their tables

-- a row with rows of another table: the row, the rows, and that it passes the one test
pub record Nest : Type 0 where
  pub row : Broken
  pub kid : Flat
  pub passes : nest_test row ≡ true

module _ (nest : Nest) where
  abbrev b : Broken
  b = nest.row

  abbrev n : ℕ
  n = nest.kid.columns

  abbrev l : Layout
  l = nest.kid.layout

  abbrev tests : NestTests b (flats nest.kid) nest.passes
  tests = nest_tests b (flats nest.kid) nest.passes

  abbrev pub families : Codec Family Family
  families = breaks b (flats nest.kid) nest.passes

  abbrev size : Family → ℕ
  size x = length x.1

  -- the range of a row that stands in its table
  record Ranged (g : Columns) (i k : ℕ) : Type 0 where
    first : g b.first ≡ i
    count : g b.count ≡ k

  ranged : (i : ℕ) (x : Family) (g : Columns) → row b.width g ≡ broken_row b (i, x) → get_or x.0 b.count 0 ≡ size x → Ranged g i (size x)
  unfolding has
  ranged i x g e h =
      let ks = b.first ∷ b.count ∷ [] in
      let s : Columns = set b.first i (of x.0) in
      let same : eqb b.first b.first ≡ true = eq-eqb b.first b.first refl in
      let there : has b.count ks ≡ true = rw (eq-eqb b.count b.count refl, tests.two_so) in
      let o = row_on b.width ks tests.range_so (broken_row b (i, x)) g e in
      let r = row_on b.width ks tests.range_so (broken_row b (i, x)) s refl in
      record {
        first = sym (o b.first (rw same)) ∙ r b.first (rw same) ∙ ap (λ (z : Bool). pick z i (of x.0 b.first)) same;
        count = sym (o b.count there) ∙ r b.count there ∙ ap (λ (z : Bool). pick z i (of x.0 b.count)) tests.two_so ∙ h;
      }

  -- of one that was read, whatever its bytes
  pub record Grown (x : Family) (bs : List ℕ) : Type 0 where
    pub heavy : weight b.head + size x ≤ length bs
    pub wide : Every (Wide n) x.1

  pub family_grows : (at : ℕ) (x : Family) (bs : List ℕ) → Takes (broken b (flat n l)) at x bs → Grown x bs
  family_grows at x bs t =
      let u = takes_split {B = Family} (reads b.head blank) _ t in
      let y = takes_split {B = Family} (many (u.value b.count) (flat n l)) _ u.second in
      let (g, e, z) = map_takes {B = Family} (reads b.tail u.value) (λ g. (row b.width g, y.value)) y.second in
      let k = many_takes (flat n l) (u.value b.count) y.first in
      let least = (flat_positive nest.kid).1 in
      let few = listed_bound (flat n l) (λ at r bs t. let i = flat_weighs n l at r bs t in omega (arith, least)) k in
      let long : weight b.head + length y.value ≤ length bs = omega (arith, few, weighs b.head blank u.value at u.front u.first, ap length u.joined ∙ length-append u.front u.back, ap length y.joined ∙ length-append y.front y.back) in
      subst (λ (x : Family). Grown x bs) e (record { heavy = long; wide = listed_every (flat n l) (Wide n) (flat_grows n l) k })

  -- how many rows they have, and of those that fit how long they are and what the code's types can hold
  pub parents_long : (xs : List Family) → length (parents b xs) ≡ length xs
  parents_long xs = length-map (firsts size 0 xs) (broken_row b) ∙ firsts_length size 0 xs

  pub parents_wide : (xs : List Family) → Every (Wide b.width) (parents b xs)
  parents_wide xs = each_wide b.width (λ (y : ℕ × Family). set b.first y.0 (of y.1.0)) (firsts size 0 xs)

  good_kids : (x : Family) → Good families x → Every (Good (flats nest.kid)) x.1
  good_kids x g = let k = broken_kids b (flats nest.kid) nest.passes x g.0 g.1 in good_list (flats nest.kid) x.1 k.fit k.sound

  pub kids_wide : (xs : List Family) → Every (Good families) xs → Every (Wide n) (kids xs)
  kids_wide xs h =
      every_flat (λ (x : Family). x.1) (Wide n) xs
      (every_as (Good families) (λ x. Every (Wide n) x.1) (λ x g. every_as (Good (flats nest.kid)) (Wide n) (λ r k. flat_wide nest.kid r k.0) (good_kids x g)) h)

  pub kids_columns : (xs : List Family) → Every (Good families) xs → Every (Every Column) (kids xs)
  kids_columns xs h =
      every_flat (λ (x : Family). x.1) (Every Column) xs
      (every_as (Good families) (λ x. Every (Every Column) x.1) (λ x g. every_as (Good (flats nest.kid)) (Every Column) (λ r k. flat_columns nest.kid r k.0 k.1) (good_kids x g)) h)

  pub parents_columns : (xs : List Family) → Every (Good families) xs → length (kids xs) < 65536 → Every (Every Column) (parents b xs)
  parents_columns xs h few =
      let F : ℕ × Family → Type 0 = λ y. Good families y.1 in
      let B : ℕ × Family → Type 0 = λ y. y.0 + size y.1 ≤ 0 + sum size xs in
      let k : sum size xs < 65536 = omega (arith, few, flat_length (λ (x : Family). x.1) xs) in
      every_map (broken_row b) (Every Column) (firsts size 0 xs)
      (every_as (λ y. F y × B y) (λ y. Every Column (broken_row b y)) (λ y g. broken_columns b (flats nest.kid) nest.passes y.1 g.0.0 g.0.1 y.0 (omega (arith, g.1, k)))
      (every_and F B (every_firsts size 0 (Good families) xs h) (firsts_below size 0 xs)))

  -- cols are the columns of row i, as writing reads them
  module _ (xs : List Family) (cols : ℕ → Columns) (stand : each (λ i. row b.width (cols i)) 0 (length xs) ≡ parents b xs) (beneath : List ℕ) where
    abbrev lower : List ℕ
    lower = flatten (kids xs) ++ beneath

    abbrev Stand : ℕ × Family → Type 0
    Stand y = each (λ i. row n (at n lower i)) y.0 (size y.1) ≡ y.1.1

    abbrev Standing : ℕ × Family → Type 0
    Standing y = (Good families y.1 × (y.0 + size y.1 ≤ 0 + sum size xs)) × Stand y

    standing : Every (Good families) xs → Every (Wide n) (kids xs) → Every Standing (firsts size 0 xs)
    standing h wide =
        let B : ℕ × Family → Type 0 = λ y. y.0 + size y.1 ≤ 0 + sum size xs in
        let e : Every Stand (firsts size 0 xs) = kids_stand (λ i. row n (at n lower i)) (λ x. x.1) xs 0 (found n (kids xs) wide beneath) in
        every_and (λ y. Good families y.1 × B y) Stand (every_and (λ y. Good families y.1) B (every_firsts size 0 (Good families) xs h) (firsts_below size 0 xs)) e

    -- they mean what was read
    pub families_mean : Every (Good families) xs → each (λ i. family_means_of b n l lower (cols i)) 0 (length xs) ≡ xs
    families_mean h =
        each_as Standing (broken_row b) (λ i. row b.width (cols i)) (λ i. family_means_of b n l lower (cols i)) (λ y. y.1) one 0 (length xs) (firsts size 0 xs) stand
        (standing h (kids_wide xs h))
        ∙ firsts_back size 0 xs
      where
        one : (i : ℕ) (y : ℕ × Family) → row b.width (cols i) ≡ broken_row b y → Standing y → family_means_of b n l lower (cols i) ≡ y.1
        one i y e h =
            let m = flats nest.kid in
            let g = cols i in
            let k = broken_kids b m nest.passes y.1 h.0.0.0 h.0.0.1 in
            let r = ranged y.0 y.1 g e k.counted in
            let a = broken_again b m nest.passes y.1 h.0.0.0 g (broken_on b m nest.passes y.0 y.1 g e) in
            let c =
            (λ j. each (λ i. flat_means n l (at n lower i)) (r.first j) (r.count j))
            ∙ rows_again nest.kid lower y.0 (size y.1) y.1.1 h.1 (good_list m y.1.1 k.fit k.sound) in
            λ j. (a j, c j)

    -- and are written without a fault
    pub families_sound : Every (Good families) xs → clean (rows (λ i. family_acts_of b n l lower (cols i)) 0 (length xs)) ≡ true
    families_sound h =
        let wide = kids_wide xs h in
        let room : sum size xs ≤ length lower / n = omega (arith, room_for n (kids xs) beneath (flat_positive nest.kid).0 wide, flat_length (λ (x : Family). x.1) xs) in
        each_clean Standing (broken_row b) (λ i. row b.width (cols i)) (λ i. family_acts_of b n l lower (cols i)) (λ i y e h. one room i y e h) 0 (length xs)
        (firsts size 0 xs) stand (standing h wide)
      where
        one : sum size xs ≤ length lower / n → (i : ℕ) (y : ℕ × Family) → row b.width (cols i) ≡ broken_row b y → Standing y → clean (family_acts_of b n l lower (cols i)) ≡ true
        one room i y e h =
            let m = flats nest.kid in
            let g = cols i in
            let k = broken_kids b m nest.passes y.1 h.0.0.0 h.0.0.1 in
            let r = ranged y.0 y.1 g e k.counted in
            let c = rows_ready nest.kid lower y.0 (size y.1) y.1.1 h.1 (good_list m y.1.1 k.fit k.sound) in
            let c' : clean (rows (λ i. flat_acts l (at n lower i)) (g b.first) (g b.count)) ≡ true =
            (λ j. clean (rows (λ i. flat_acts l (at n lower i)) (r.first j) (r.count j))) ∙ c in
            broken_ready b m nest.passes y.1 h.0.0.0 h.0.0.1 g (broken_on b m nest.passes y.0 y.1 g e) (length lower / n)
            (λ i. flat_acts l (at n lower i)) (omega (arith, h.0.1, r.first, r.count, room)) c'

  -- stored as the rows of a table
  module _ (xs : List Family) (behind beneath : List ℕ) where
    abbrev table : List ℕ
    table = flatten (parents b xs) ++ behind

    -- the table has their rows
    pub parents_room : 0 < b.width → length xs ≤ length table / b.width
    parents_room z = omega (arith, room_for b.width (parents b xs) behind z (parents_wide xs), parents_long xs)

    pub parents_found : each (λ i. row b.width (at b.width table i)) 0 (length xs) ≡ parents b xs
    parents_found =
        subst (λ (m : ℕ). each (λ i. row b.width (at b.width table i)) 0 m ≡ parents b xs) (parents_long xs) (found b.width (parents b xs) (parents_wide xs) behind)
