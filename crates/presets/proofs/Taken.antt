-- The three bytes of a preset, and its conditions behind them.
use Rattle.std.specs.Prelude.{Ok, Err}
use Prim.Native.Nat.{ℕ, ◌+◌, ◌*◌, ◌≤◌}
use mathlib.Core.Path.{◌≡◌, refl, sym, ap, ◌∙◌}
use mathlib.Core.List.{List, [], ◌∷◌, flatten, flat_map}
use mathlib.Core.Bool.{true}
use native.Mathlib.Omega.{arith}
use native.Mathlib.Nat.{add-zero, zero-add}
use lib.ListN.{length, get_or}
use lib.Seq.{sets}
use Rattle.wire.specs.Lists.{each, sum}
use Rattle.wire.specs.Bits.{part, total, split, zeros}
use Rattle.wire.specs.Prog.{Out, done, short, run, many}
use Rattle.wire.specs.Reads.{end_of, is_done, map_out, pos_of, rows_of, Summed}
use Rattle.wire.specs.Layout.{Columns, of, put, has, flat, layouts, shown, cells, tally, broken_row, family_tally}
use Rattle.wire.specs.Straight.{ends, ones, puts_at, took}
use Rattle.wire.specs.Nest.{Fillable, Nested}
use Rattle.wire.specs.declared.reads.Short.{Short}
use Rattle.wire.proofs.Layouts.Cells.{all}
use Rattle.wire.proofs.Layouts.Rowed.{weight}
use Rattle.wire.proofs.Layouts.Straight.{ends_at, ends_within}
use Rattle.wire.proofs.Layouts.Families.{head_sizes, kids_of, behind_head, head_got, head_lacks, kids_got, kids_lack, broken_got, broken_lacks, kids_ask, family_filled, family_test, tally_ask, family_tallied}
use Rattle.conditions.specs.Layout.{condition}
use Rattle.presets.specs.Layout.{preset, presets}
use Rattle.presets.specs.Rows.{preset_row, preset_cols, preset_from}
use Rattle.presets.specs.declared.rows.GroupPreset.{GroupPreset}

-- ---- the head

head_sizes_lem : (s : List ℕ) (at : ℕ) → head_sizes preset s at ≡ ones 3
unfolding took ones
head_sizes_lem s at = refl

-- how many conditions
abbrev count_at : List ℕ → ℕ → ℕ
count_at s at = part 0 4 (get_or s (at + 2) 0) + 1

count_so : (s : List ℕ) (at : ℕ) → kids_of preset s at ≡ count_at s at
unfolding took puts_at put split total
count_so s at = refl

-- ---- measured

-- behind the three bytes
pub record Three (s : List ℕ) (at n : ℕ) : Type 0 where
  pub there : at + 3 ≤ length s
  pub inside : n ≤ length s
  pub goes : end_of (run presets s at) ≡ behind_head preset (flat 13 condition) s at n

module _ (s : List ℕ) (at : ℕ) (h : at ≤ length s) where
  three_bytes : {o : Out (Unit {0})} → o ≡ ends (ones 3) s at → o ≡ ends (head_sizes preset s at) s at
  three_bytes e = e ∙ ap (λ (l : List ℕ). ends l s at) (sym (head_sizes_lem s at))

  pub three : {n : ℕ} → done tt n ≡ ends (ones 3) s at → Three s at n
  unfolding ones total
  three e =
      let i = ends_within (ones 3) s at h (sym e) in
      let q = ends_at (ones 3) s at (sym e) in
      record { there = omega arith; inside = i; goes = head_got preset (flat 13 condition) s at (three_bytes e) }

  pub three_lack : {x : Short} → short x ≡ ends (ones 3) s at → Summed presets (λ x. length x.1) 16 s at (Err x)
  three_lack e = broken_lacks preset (flat 13 condition) s at 16 h (head_lacks preset (flat 13 condition) s at (three_bytes e))

  -- behind its conditions
  module _ {n k : ℕ} (w : Three s at n) (c : k ≡ count_at s at) where
    kids_end : {o : Out (Unit {0})} → o ≡ end_of (run (many k (flat 13 condition)) s n) → o ≡ end_of (run (many (kids_of preset s at) (flat 13 condition)) s n)
    kids_end e = e ∙ ap (λ (k : ℕ). end_of (run (many k (flat 13 condition)) s n)) (c ∙ sym (count_so s at))

    pub preset_lacks : {x : Short} → short x ≡ end_of (run (many k (flat 13 condition)) s n) → Summed presets (λ x. length x.1) 16 s at (Err x)
    preset_lacks e = broken_lacks preset (flat 13 condition) s at 16 h (kids_lack preset (flat 13 condition) s at n w.goes (kids_end e))

    pub preset_got : {m : ℕ} → done tt m ≡ end_of (run (many k (flat 13 condition)) s n) → k ≤ 16 → Summed presets (λ x. length x.1) 16 s at (Ok (k, m))
    unfolding took ends
    preset_got e l = broken_got preset (flat 13 condition) s at 16 h (sym (kids_got preset (flat 13 condition) s at n w.goes (kids_end e))) (c ∙ sym (count_so s at)) l

-- ---- filled

module _ (s : List ℕ) (at first : ℕ) (u : List ℕ) (f : Fillable presets 13 (λ x. length x.1) s at first u) where
  pub record Asked (k : ℕ) : Type 0 where
    pub begun : at + 3 ≤ length s
    pub sound : is_done (run (many k (flat 13 condition)) s (at + 3)) ≡ true
    pub room : first * 13 + 13 * k ≤ length u

  -- what is asked by the function that stores the conditions
  pub asked : {k : ℕ} → k ≡ count_at s at → Asked k
  unfolding took total
  asked c =
      let a = kids_ask preset 13 condition s at first u f in
      record { begun = a.begun; sound = rw (c ∙ sym (count_so s at)) a.sound; room = rw (c ∙ sym (count_so s at)) a.room }

  pub preset_filled : {p : GroupPreset} {k m : ℕ} {after : List ℕ} → p ≡ preset_from s at first → k ≡ count_at s at → m ≡ pos_of (run (many k (flat 13 condition)) s (at + 3))
      → after ≡ sets u (first * 13) (flat_map (λ r. r) (rows_of (run (many k (flat 13 condition)) s (at + 3))))
      → Nested presets 13 (λ n x. broken_row preset (n, x)) (λ x. flatten x.1) s at first u (preset_row p) m after
  unfolding took puts_at put split total each
  preset_filled {m = m} e c q z =
      family_filled preset 13 condition s at first u f
      (rw (c ∙ sym (count_so s at)) at q)
      (ap preset_row e)
      (sym (add-zero m))
      (rw (c ∙ sym (count_so s at)) at z)

pub test_so : family_test preset condition ≡ true
unfolding family_test has all weight condition
test_so = refl

-- ---- tallied

pub preset_tally : (g : Columns) → tally (layouts preset) g ≡ zeros 3 (g 0) + (zeros 3 (g 2) + zeros 4 (g 4))
unfolding tally cells shown sum flatten
preset_tally g = simp (zero-add, add-zero)

module _ (s : List ℕ) (at : ℕ) (h : at ≤ length s) (q : is_done (run presets s at) ≡ true) where
  -- what is asked by the function that tallies the conditions
  pub tally_asked : {k : ℕ} → k ≡ count_at s at → (at + 3 ≤ length s) × (is_done (run (many k (flat 13 condition)) s (at + 3)) ≡ true)
  unfolding took total
  tally_asked c = let a = tally_ask preset 13 condition s at h q in (a.begun, rw (c ∙ sym (count_so s at)) a.sound)

  pub preset_tallied : {p : GroupPreset} {k own below m : ℕ} → p ≡ preset_from s at 0 → k ≡ count_at s at → own ≡ tally (layouts preset) (preset_cols p)
      → below ≡ sum (λ r. tally (condition ∷ []) (of r)) (rows_of (run (many k (flat 13 condition)) s (at + 3))) → m ≡ pos_of (run (many k (flat 13 condition)) s (at + 3))
      → done (own + below) m ≡ map_out (family_tally preset condition) (run presets s at)
  unfolding took puts_at put split total each
  preset_tallied {m = m} e c o b p =
      family_tallied preset 13 condition s at h q
      (rw (c ∙ sym (count_so s at)) at p)
      (o ∙ ap (λ (p : GroupPreset). tally (layouts preset) (preset_cols p)) e)
      (rw (c ∙ sym (count_so s at)) at b)
      refl
      (sym (add-zero m))
