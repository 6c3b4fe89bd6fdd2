-- What writing reads of a row decides what it does: rows that agree in it have the same actions.
use Prim.Native.Nat.{ℕ, ◌+◌}
use mathlib.Core.List.{List, [], ◌∷◌, ◌++◌}
use mathlib.Core.Bool.{Bool, true, false}
use mathlib.Core.Path.{◌≡◌, refl, sym, ap, ◌∙◌}
use lib.Dec.{eqb, leb}
use borrow.Author.Tests.{eqb-true, eq-eqb}
use Rattle.wire.specs.Act.{Act, demand, pick, rows}
use Rattle.wire.specs.declared.pen.Fault.TheVariants as F
use Rattle.wire.specs.Layout.{Cell, Columns, of, row, set, shown, cells, matched, every, flagged, counted, has, mix, columns, kept, blank, flat_acts, flat_means, Broken, layouts, broken_acts, broken_heeds}
use Rattle.wire.proofs.Layouts.Cells.{On, clash, cells_on, every_same, mix_in}
use Rattle.wire.proofs.Layouts.Forms.{Form, last, form_shown, form_matches, form_all, form_shown_in, sure_shown, below, woven, alike}
use Rattle.wire.proofs.Layouts.Rowed.{Flat, flat_proper, flat_below, flats, row_on, on_all, Nest, NestTests, nest_tests, broken_form}

-- the columns that writing reads are kept
pub kept_on : (n : ℕ) {T M : Type 0} (x : Form T M) → below n (form_all x) ≡ true → (f init : Columns)
    → On (columns (form_shown x f)) f (of (row n (mix (columns (form_shown x f)) f init)))
kept_on n x b f init j e = go (has j (form_all x)) refl
  where
    ks : List ℕ
    ks = columns (form_shown x f)

    go : (t : Bool) → has j (form_all x) ≡ t → f j ≡ of (row n (mix ks f init)) j
    go true q = sym (row_on n (form_all x) b (row n (mix ks f init)) (mix ks f init) refl j q ∙ mix_in ks f init j e)
    go false q = clash e (form_shown_in x f j q)

module _ (x : Flat) where
  flat_kept : (f : Columns) → flat_acts x.layout f ≡ flat_acts x.layout (of (flat_means x.columns x.layout f))
  unfolding form_shown form_matches woven cells matched
  flat_kept f =
      let l = x.layout in
      let h = of (flat_means x.columns l f) in
      let o : On (columns (shown l f)) f h = kept_on x.columns (last l) (flat_below x) f blank in
      let s = alike x.columns (last l) blank (flat_proper x) (flat_below x) (λ j h. refl) f h o in
      λ i. demand F.Field ((every_same flagged (shown l f) o ∙ ap (every flagged h) s.cells) i) ∷ demand F.Empty ((every_same counted (shown l f) o ∙ ap (every counted h) s.cells) i) ∷ (s.matched i ++ s.acts tt i)

  pub flat_heeds : (f g : Columns) → flat_means x.columns x.layout f ≡ flat_means x.columns x.layout g → flat_acts x.layout f ≡ flat_acts x.layout g
  flat_heeds f g e = flat_kept f ∙ ap (λ (r : List ℕ). flat_acts x.layout (of r)) e ∙ sym (flat_kept g)

-- a row with rows of another table

module _ (n : Nest) where
  abbrev b : Broken
  b = n.row

  abbrev x : Form (List (List ℕ) × Unit {0}) (List (List ℕ) × Unit {0})
  x = broken_form b (flats n.kid)

  row_kept : (f : Columns) (j : ℕ) → has j (columns (form_shown x f)) ≡ true → f j ≡ of (broken_heeds b f) j
  unfolding form_shown cells
  row_kept f j e = go (has j (form_all x)) refl
    where
      t : NestTests b (flats n.kid) n.passes
      t = nest_tests b (flats n.kid) n.passes

      k : Columns
      k = kept (layouts b) f blank

      off : (y : Bool) → eqb j b.first ≡ y → has j (form_all x) ≡ true → pick y (f b.first) (k j) ≡ k j
      off true z q = clash (ap (λ (i : ℕ). has i (form_all x)) (sym (eqb-true j b.first z)) ∙ q) t.starts_so
      off false z q = refl

      go : (y : Bool) → has j (form_all x) ≡ y → f j ≡ of (broken_heeds b f) j
      go true q =
          sym
          (row_on b.width (form_all x) t.below_so (broken_heeds b f) (set b.first (f b.first) k) refl j q ∙ off (eqb j b.first) refl q ∙ mix_in (columns (form_shown x f)) f blank j e)
      go false q = clash e (form_shown_in x f j q)

  -- its first row is one of its columns
  first_of : has b.first (b.first ∷ b.count ∷ []) ≡ true
  unfolding has
  first_of = let same : eqb b.first b.first ≡ true = eq-eqb b.first b.first refl in rw same

  -- columns that agree where writing reads
  broken_alike : (room : ℕ) (kid : ℕ → List Act) (f h : Columns) → On (columns (form_shown x f)) f h → f b.first ≡ h b.first
      → broken_acts b room kid f ≡ broken_acts b room kid h
  unfolding form_shown form_matches woven cells matched
  broken_alike room kid f h o i₀ =
      let t = nest_tests b (flats n.kid) n.passes in
      let cs : List Cell = shown b.head f ++ shown b.tail f in
      let s = alike b.width x blank t.proper_so t.below_so (λ j h. refl) f h o in
      let c₀ : f b.count ≡ h b.count =
      sym (sure_shown b.head f {f = h} (λ j e. sym ((cells_on (shown b.head f) (shown b.tail f) o).0 j e)) b.count t.counts_so) in
      λ i. demand F.Range (leb (i₀ i + c₀ i) room)
      ∷ demand F.Field ((every_same flagged cs o ∙ ap (every flagged h) s.cells) i)
      ∷ demand F.Empty ((every_same counted cs o ∙ ap (every counted h) s.cells) i)
      ∷ (s.matched i ++ ((λ i. woven x f (rows kid (i₀ i) (c₀ i), tt)) ∙ s.acts (rows kid (h b.first) (h b.count), tt)) i)

  broken_kept : (room : ℕ) (kid : ℕ → List Act) (f : Columns) → broken_acts b room kid f ≡ broken_acts b room kid (of (broken_heeds b f))
  broken_kept room kid f =
      let t = nest_tests b (flats n.kid) n.passes in
      let same : eqb b.first b.first ≡ true = eq-eqb b.first b.first refl in
      broken_alike room kid f (of (broken_heeds b f)) (row_kept f)
      (sym (row_on b.width (b.first ∷ b.count ∷ []) t.range_so (broken_heeds b f) (set b.first (f b.first) (kept (layouts b) f blank)) refl b.first first_of ∙ rw same))

  -- no column past the last is read
  pub broken_row_lem : (room : ℕ) (kid : ℕ → List Act) (f g : Columns) → row b.width f ≡ row b.width g → broken_acts b room kid f ≡ broken_acts b room kid g
  broken_row_lem room kid f g e =
      let t = nest_tests b (flats n.kid) n.passes in
      broken_alike room kid f g (on_all x f g (on (form_all x) t.below_so)) (on (b.first ∷ b.count ∷ []) t.range_so b.first first_of)
    where
      on : (ks : List ℕ) → below b.width ks ≡ true → On ks f g
      on ks l j h = sym (row_on b.width ks l (row b.width f) f refl j h) ∙ row_on b.width ks l (row b.width f) g (sym e) j h

  pub broken_heeds_lem : (room : ℕ) (kid : ℕ → List Act) (f g : Columns) → broken_heeds b f ≡ broken_heeds b g → broken_acts b room kid f ≡ broken_acts b room kid g
  broken_heeds_lem room kid f g e = broken_kept room kid f ∙ ap (λ (r : List ℕ). broken_acts b room kid (of r)) e ∙ sym (broken_kept room kid g)
