-- Switch groups written: what the two passes do with a row and its members.
use Rattle.std.specs.Prelude.{Err}
use Prim.Native.Nat.{ℕ, ◌+◌, ◌*◌, ◌-◌, ◌/◌, ◌^◌, ◌≤◌}
use mathlib.Core.Path.{◌≡◌, refl, sym, ap, ◌∙◌}
use mathlib.Core.List.{List, [], ◌∷◌, ◌++◌, map, flatten}
use mathlib.Core.Bool.{Bool, true, false, ◌&&◌, and-true, and_assoc}
use native.Mathlib.Omega.{arith}
use native.Mathlib.Nat.{add-zero}
use lib.ListN.{length}
use lib.Dec.{leb, ltb}
use borrow.Author.Tests.{leb-true}
use Rattle.wire.specs.Bits.{field, is_flag, fit, total}
use Rattle.wire.specs.Act.{demand, rows}
use Rattle.wire.specs.Pen.{Checked, Quick, Ready, Filled, clean, bytes}
use Rattle.wire.specs.Layout.{field_of, writes, shown, cells, matches, matched, every, has, family_acts}
use Rattle.wire.specs.Spell.{fit_all, Spelt, ChecksAll, ReadyAll, FillsAll, PlainRows}
use Rattle.wire.specs.declared.pen.Stopped.{Stopped}
use Rattle.wire.specs.declared.pen.Fault.TheVariants as F
use Rattle.wire.specs.Pen.{Pen, At}
use Rattle.wire.proofs.Writing.Acts.{and_both}
use Rattle.wire.proofs.Fields.{fits_cons, less_one_fits}
use Rattle.wire.proofs.Writing.Passes.{then, Filling, fill_end}
use Rattle.wire.proofs.Writing.Plain.{all_checked, clean_all, ready_part, fill_part_lem}
use Rattle.wire.proofs.Layouts.Cells.{all, distinct, free, eights, proper}
use Rattle.wire.proofs.Layouts.Forms.{sure, below}
use Rattle.wire.proofs.Layouts.Rowed.{nest_test, weight}
use Rattle.wire.proofs.Layouts.Families.{front_acts, kid_acts, Front, row_is_plain, kids_passed, kids_odd, broken_stopped, broken_checked, front_passed, broken_quick, broken_odd, broken_odd_kid, broken_ready, broken_filling, kids_ready, kids_filled}
use Rattle.pairs.specs.Write.{pair_acts}
use Rattle.switch_groups.specs.Layout.{member, switch_group}
use Rattle.switch_groups.specs.declared.rows.SwitchGroup.{SwitchGroup}
use Rattle.switch_groups.specs.Rows.{switch_group_cols, switch_group_of, id_cells, count_cells, default_cells}
use Rattle.switch_groups.specs.Write.{head_fields, default_fields, switch_group_acts}

pub switch_passes : nest_test switch_group ≡ true
unfolding nest_test weight below proper all has distinct free eights total sure flatten
switch_passes = refl

pub row_acts_lem : (t u : List ℕ) (i : ℕ) → switch_group_acts u (switch_group_of t (i * 9)) ≡ family_acts switch_group 2 member t u i
unfolding writes shown cells matches matched every flatten
row_acts_lem t u i = rw add-zero

-- ---- its own fields, by the tests of a plain row

module _ (g : SwitchGroup) where
  abbrev pub id_fits : Bool
  id_fits = fit (map (field_of (switch_group_cols g)) id_cells)

  abbrev pub default_fits : Bool
  default_fits = fit (map (field_of (switch_group_cols g)) default_cells)

  pub fields_so : ((id_fits && ltb g.reserved_members (2 ^ 3)) && leb g.members.count 32) && default_fits ≡ fit_all (head_fields g) && fit_all (default_fields g)
  unfolding fit_all fit
  fields_so =
      ap (λ (b : Bool). ((id_fits && ltb g.reserved_members (2 ^ 3)) && b) && default_fits) (less_one_fits g.members.count 5)
      ∙ regroup id_fits (ltb g.reserved_members (2 ^ 3)) (ltb (g.members.count - 1) (2 ^ 5)) default_fits
    where
      regroup : (a b c d : Bool) → ((a && b) && c) && d ≡ (a && ((b && (c && true)) && true)) && (d && true)
      regroup true true true true = refl
      regroup true true true false = refl
      regroup true true false d = refl
      regroup true false c d = refl
      regroup false b c d = refl

-- ---- the check pass, and what stands behind the front

module _ (u : List ℕ) (g : SwitchGroup) where
  -- the front, one check after the other
  pub front : {n : ℕ} {p₀ p₁ p₂ p₃ : Pen} {inside flags : Bool} {vs : List ℕ} → inside ≡ leb (g.members.first + g.members.count) (length u / 2)
      → flags ≡ is_flag g.allow_on_off && is_flag g.default_on_off
      → Checked (demand F.Range inside ∷ []) 0 (At n) p₀ → Checked (demand F.Field flags ∷ []) 0 p₀ p₁ → Checked
      (demand F.Empty (leb 1 g.members.count) ∷ []) 0 p₁ p₂ → Spelt (head_fields g) vs → ChecksAll true vs p₂ p₃
      → Checked (front_acts switch_group (length u / 2) (switch_group_cols g)) 2 (At n) p₃
  unfolding writes shown cells matches matched every flatten
  front e f w₀ w₁ w₂ s w₃ =
      let f' = f ∙ ap (λ (b : Bool). is_flag g.allow_on_off && b) (sym (and-true (is_flag g.default_on_off))) in
      let c = sym (and-true (leb 1 g.members.count)) in
      then (rw e at w₀) (then (rw f' at w₁) (then (rw c at w₂) (all_checked s w₃)))

  -- behind it: the members stand in their table, and are few
  pub record Behind : Type 0 where
    pub inside : (g.members.first + g.members.count) * 2 ≤ length u
    pub few : g.members.count ≤ 32

  few_so : fit (map (field_of (switch_group_cols g)) count_cells) ≡ true → g.members.count ≤ 32
  few_so e = let h = (fits_cons 5 (g.members.count - 1) [] (fits_cons 3 g.reserved_members (field 5 (g.members.count - 1) ∷ []) e).1).0 in omega (arith, h)

  behind : Front switch_group (length u / 2) (pair_acts u) (switch_group_cols g) → Behind
  unfolding writes clean fit
  behind f =
      let i = f.inside in
      let (a, b) = and_both (fit (map (field_of (switch_group_cols g)) id_cells)) _ f.fits in
      let (c, d) = and_both (fit (map (field_of (switch_group_cols g)) count_cells)) _ b in
      record { inside = omega (arith, i); few = few_so c }

  pub front_stopped : {n : ℕ} {x : Stopped} → Checked (front_acts switch_group (length u / 2) (switch_group_cols g)) 2 (At n) (Err x) → Checked (switch_group_acts u g) 35 (At n) (Err x)
  front_stopped w = broken_stopped switch_group (length u / 2) (pair_acts u) (switch_group_cols g) w 35 (omega arith) refl

  module _ {n m : ℕ} (w : Checked (front_acts switch_group (length u / 2) (switch_group_cols g)) 2 (At n) (At m)) where
    pub front_behind : Behind
    front_behind = behind (front_passed switch_group (length u / 2) (pair_acts u) (switch_group_cols g) w refl)

    pub front_near : m ≤ n + 2
    front_near = w.near

    pub row_checked : {q r : Pen} {vs : List ℕ} → Checked (rows (pair_acts u) g.members.first g.members.count) g.members.count (At m) q
        → Spelt (default_fields g) vs → ChecksAll true vs q r → Checked (switch_group_acts u g) 35 (At n) r
    unfolding writes
    row_checked x s y =
        broken_checked switch_group (length u / 2) (pair_acts u) (switch_group_cols g) w 35 x (all_checked s y) (let h = front_behind.few in omega (arith, h))

  -- ---- the quick test

  plain_so : row_is_plain switch_group (length u / 2) (pair_acts u) (switch_group_cols g) ≡ leb (g.members.first + g.members.count) (length u / 2) && (leb 1 g.members.count && (fit_all (head_fields g) && fit_all (default_fields g)))
  unfolding writes shown cells every flatten
  plain_so = λ i. leb (g.members.first + g.members.count) (length u / 2) && (and-true (leb 1 g.members.count) i && (clean_all (head_fields g) i && clean_all (default_fields g) i))

  module _ {inside : Bool} (e : inside ≡ leb (g.members.first + g.members.count) (length u / 2)) where
    tested : (inside && leb 1 g.members.count) && (fit_all (head_fields g) && fit_all (default_fields g)) ≡ row_is_plain switch_group (length u / 2) (pair_acts u) (switch_group_cols g)
    tested =
        (λ i. (e i && leb 1 g.members.count) && (fit_all (head_fields g) && fit_all (default_fields g)))
        ∙ and_assoc (leb (g.members.first + g.members.count) (length u / 2)) (leb 1 g.members.count) (fit_all (head_fields g) && fit_all (default_fields g))
        ∙ sym plain_so

    pub row_uncounted : inside && leb 1 g.members.count ≡ false → Quick (switch_group_acts u g) 35 0
    row_uncounted q =
        broken_odd switch_group (length u / 2) (pair_acts u) (switch_group_cols g) 35 (sym tested ∙ ap (λ (b : Bool). b && (fit_all (head_fields g) && fit_all (default_fields g))) q)

    module _ (q : inside && leb 1 g.members.count ≡ true) {own : Bool} (f : own ≡ fit_all (head_fields g) && fit_all (default_fields g)) where
      pub row_odd : own ≡ false → Quick (switch_group_acts u g) 35 0
      row_odd o = broken_odd switch_group (length u / 2) (pair_acts u) (switch_group_cols g) 35 (sym tested ∙ (λ i. q i && (sym f ∙ o) i))

      module _ (o : own ≡ true) where
        pub row_behind : Behind
        unfolding fit_all fit
        row_behind =
            let (a, b) = and_both inside _ q in
            let (x, y) = and_both (fit_all (head_fields g)) _ (sym f ∙ o) in
            let (x₀, x₁) = and_both (fit (map (field_of (switch_group_cols g)) id_cells)) _ x in
            let (x₂, x₃) = and_both (fit (map (field_of (switch_group_cols g)) count_cells)) _ x₁ in
            let i = leb-true (g.members.first + g.members.count) (length u / 2) (sym e ∙ a) in
            record { inside = omega (arith, i); few = few_so x₂ }

        pub row_plain : {k : ℕ} → PlainRows (λ j. pair_acts u (g.members.first + j)) 1 g.members.count k k → k ≡ g.members.count → Quick (switch_group_acts u g) 35 (3 + g.members.count)
        unfolding writes bytes
        row_plain v r =
            let (c, l) = kids_passed (pair_acts u) g.members.first g.members.count v (omega (arith, r)) in
            let n = row_behind.few in
            broken_quick switch_group (length u / 2) (pair_acts u) (switch_group_cols g) 35 switch_passes (sym tested ∙ (λ i. q i && (sym f ∙ o) i)) (unfold matches matched clean in refl) c
            (omega (arith, l, r)) (omega arith) (omega (arith, n))

  pub row_odd_kid : {k : ℕ} → PlainRows (λ j. pair_acts u (g.members.first + j)) 1 g.members.count k k → (k ≡ g.members.count → ⊥) → Quick (switch_group_acts u g) 35 0
  row_odd_kid v r = let w = v.within in broken_odd_kid switch_group (length u / 2) (pair_acts u) (switch_group_cols g) 35 (kids_odd (pair_acts u) g.members.first g.members.count v (omega (arith, r, w)))

  -- ---- the fill pass

  module _ {n : ℕ} {l : List ℕ} (w : Ready (switch_group_acts u g) n l) where
    pub row_ready : Behind
    row_ready = behind (broken_ready switch_group (length u / 2) (pair_acts u) (switch_group_cols g) w)

    pub head_ready : {vs : List ℕ} → Spelt (head_fields g) vs → ReadyAll true vs n l
    unfolding writes
    head_ready s =
        ready_part (kid_acts switch_group (pair_acts u) (switch_group_cols g) ++ writes switch_group.tail (switch_group_cols g)) {there = true} s
        (broken_filling switch_group (length u / 2) (pair_acts u) (switch_group_cols g) w)

    module _ {vs : List ℕ} {n₁ : ℕ} {o₁ : List ℕ} (s : Spelt (head_fields g) vs) (x : FillsAll true vs n l n₁ o₁) where
      head_filled : Filling (switch_group_acts u g) (kid_acts switch_group (pair_acts u) (switch_group_cols g) ++ writes switch_group.tail (switch_group_cols g)) n l n₁ o₁
      unfolding writes
      head_filled =
          fill_part_lem (kid_acts switch_group (pair_acts u) (switch_group_cols g) ++ writes switch_group.tail (switch_group_cols g)) {there = true} s
          (broken_filling switch_group (length u / 2) (pair_acts u) (switch_group_cols g) w) x

      pub members_ready : Ready (rows (pair_acts u) g.members.first g.members.count) n₁ o₁
      members_ready = kids_ready switch_group (length u / 2) (pair_acts u) (switch_group_cols g) head_filled

      module _ {n₂ : ℕ} {o₂ : List ℕ} (y : Filled (rows (pair_acts u) g.members.first g.members.count) n₁ o₁ n₂ o₂) where
        members_filled : Filling (switch_group_acts u g) (writes switch_group.tail (switch_group_cols g)) n l n₂ o₂
        members_filled = kids_filled switch_group (length u / 2) (pair_acts u) (switch_group_cols g) head_filled y

        pub default_ready : {ws : List ℕ} → Spelt (default_fields g) ws → ReadyAll true ws n₂ o₂
        unfolding writes
        default_ready z = ready_part [] {there = true} z members_filled

        pub row_filled : {ws : List ℕ} {r : ℕ} {o : List ℕ} → Spelt (default_fields g) ws → FillsAll true ws n₂ o₂ r o → Filled (switch_group_acts u g) n l r o
        unfolding writes
        row_filled z v = fill_end (fill_part_lem [] {there = true} z members_filled v) refl
