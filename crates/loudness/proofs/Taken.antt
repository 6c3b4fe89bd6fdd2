-- Loudness entries read: where they end, their columns once they are known to be there, and their tally.
use Prim.Native.Nat.{ℕ, ◌+◌, ◌≤◌}
use mathlib.Core.Path.{◌≡◌, refl, sym, ap, ◌∙◌}
use mathlib.Core.List.{List, [], ◌∷◌, ◌++◌, append-nil, flatten}
use mathlib.Core.Bool.{true}
use native.Mathlib.Omega.{arith}
use lib.ListN.{length, get_or}
use Rattle.wire.specs.Lists.{each, sum}
use Rattle.wire.specs.Bits.{part, total}
use Rattle.wire.specs.Prog.{Out, done, short, span, run}
use Rattle.wire.specs.Reads.{map_out, end_of, is_done}
use Rattle.wire.specs.Layout.{of, row, blank, has, shown, cells, tally, Borne, borne_row, borne_tally}
use Rattle.wire.specs.Straight.{ends, ones, took, taken}
use Rattle.wire.specs.declared.reads.Short.{Short}
use Rattle.wire.specs.declared.rows.Payload.{Payload}
use Rattle.wire.proofs.Layouts.Cells.{all, distinct, free, eights, proper, suits}
use Rattle.wire.proofs.Layouts.Forms.{form_all, form_proper, sure, below}
use Rattle.wire.proofs.Layouts.Straight.{total_ones, ones_append, ones_more, ends_at, ends_within, ends_on, ends_cut}
use Rattle.wire.proofs.Layouts.Borne.{bear_test, Bear}
use Rattle.wire.proofs.Layouts.Bearers.{head_sizes, size_at, bear_got, bear_lacks, bear_behind, bear_whole, bear_filled, bear_tallied}
use Rattle.scopes.specs.Layout.{scope}
use Rattle.scopes.specs.Rows.{id_bytes, typed_row}
use Rattle.scopes.specs.Tally.{scope_zeros}
use Rattle.scopes.specs.declared.parsing.Typed.{Typed}
use Rattle.scopes.specs.declared.rows.DrcScope.{DrcScope}
use Rattle.scopes.specs.declared.rows.DrcScope.TheVariants.{Plain, Group, Preset, Unknown}
use Rattle.scopes.proofs.Taken.{scope_spans}
use Rattle.loudness.specs.Layout.{types, entry, entries}
use Rattle.loudness.specs.Rows.{entry_row}
use Rattle.loudness.specs.declared.rows.LoudnessInfoEntry.{LoudnessInfoEntry}

-- the bytes of the ID behind the type byte that stands at a position
abbrev pub ids_at : List ℕ → ℕ → ℕ
ids_at s at = id_bytes types (part 0 2 (get_or s at 0))

-- that is what code finds
pub ids_so : (s : List ℕ) (at : ℕ) {k b v : ℕ} {ts : List ℕ} → k ≡ id_bytes ts v → ts ≡ types → v ≡ part 0 2 b → b ≡ get_or s at 0 → k ≡ ids_at s at
ids_so s at e t p w = e ∙ λ i. id_bytes (t i) ((p ∙ ap (part 0 2) w) i)

module _ (s : List ℕ) (at : ℕ) where
  sizes_so : head_sizes entry s at ≡ 1 ∷ ones (ids_at s at)
  unfolding took
  sizes_so = append-nil _ ∙ scope_spans types blank s at ∙ ones_more (ids_at s at)

  front_so : head_sizes entry s at ++ (1 ∷ []) ≡ ones 1 ++ ones (ids_at s at + 1)
  unfolding ones
  front_so = ap (λ (l : List ℕ). l ++ (1 ∷ [])) sizes_so ∙ ap (λ (l : List ℕ). 1 ∷ l) (ones_append (ids_at s at) 1)

  -- where the byte with the length stands
  size_at_lem : size_at entry s at ≡ at + 1 + ids_at s at
  unfolding total
  size_at_lem = ap (λ (l : List ℕ). at + total l) sizes_so ∙ omega (arith, total_ones (ids_at s at))

  -- ---- measured: the type byte, then the ID and the length, then the bytes

  pub type_lacks : {x : Short} → short x ≡ ends (ones 1) s at → short x ≡ end_of (run entries s at)
  type_lacks e = bear_lacks entry s at (ends_cut (ones 1) (ones (ids_at s at + 1)) s at e ∙ ap (λ (l : List ℕ). ends l s at) (sym front_so))

  module _ {n : ℕ} (e₁ : done tt n ≡ ends (ones 1) s at) where
    pub type_got : at ≤ length s → (n ≡ at + 1) × (n ≤ length s)
    unfolding total ones
    type_got h = (ends_at (ones 1) s at (sym e₁), ends_within (ones 1) s at h (sym e₁))

    module _ {k : ℕ} (q : k ≡ ids_at s at) where
      front : ends (ones (k + 1)) s n ≡ ends (head_sizes entry s at ++ (1 ∷ [])) s at
      front = ap (λ (k : ℕ). ends (ones (k + 1)) s n) q ∙ sym (ap (λ (l : List ℕ). ends l s at) front_so ∙ ends_on (ones 1) (ones (ids_at s at + 1)) s at e₁)

      pub size_lacks : {x : Short} → short x ≡ ends (ones (k + 1)) s n → short x ≡ end_of (run entries s at)
      size_lacks e = bear_lacks entry s at (e ∙ front)

      module _ (h : at ≤ length s) {m : ℕ} (e₂ : done tt m ≡ ends (ones (k + 1)) s n) where
        pub size_got : (n + k + 1 ≡ m) × (m ≤ length s)
        size_got = let (z, w) = bear_behind entry s at h (e₂ ∙ front) in (omega (arith, z, q, size_at_lem, (type_got h).0), w)

        pub entry_ends : {v : ℕ} {o : Out (Unit {0})} → v ≡ get_or s (n + k) 0 → o ≡ ends (v ∷ []) s m → o ≡ end_of (run entries s at)
        entry_ends z e₃ =
            let p : n + k ≡ size_at entry s at = omega (arith, q, size_at_lem, (type_got h).0) in
            e₃ ∙ ap (λ (v : ℕ). ends (v ∷ []) s m) (z ∙ ap (λ (k : ℕ). get_or s k 0) p) ∙ bear_got entry s at (e₂ ∙ front)

  -- ---- filled, once measured

  module _ (h : at ≤ length s) (q : is_done (run entries s at) ≡ true) where
    pub entry_there : at + 1 + ids_at s at + 1 + get_or s (at + 1 + ids_at s at) 0 ≤ length s
    entry_there = rw size_at_lem at (bear_whole entry s at h q).there

    pub entry_taken : (t : Typed) {ts : List ℕ} {k v : ℕ} {p : Payload} → ts ≡ types → typed_row t ≡ row 5 (taken (scope ts) blank s at) → k ≡ ids_at s at
        → v ≡ get_or s (at + 1 + k) 0 → p ≡ span (at + 1 + k + 1) v
        → done (typed_row t ++ (p.offset ∷ p.length ∷ [])) (at + 1 + k + 1 + v) ≡ map_out (borne_row entry) (run entries s at)
    unfolding took each
    entry_taken t {k = k} {v} {p} e c z w y =
        let a : at + 1 + k ≡ size_at entry s at = omega (arith, z, size_at_lem) in
        let n : v ≡ get_or s (size_at entry s at) 0 = w ∙ ap (λ (k : ℕ). get_or s k 0) a in
        let r : typed_row t ≡ row 5 (taken (scope types) blank s at) = c ∙ ap (λ (l : List ℕ). row 5 (taken (scope l) blank s at)) e in
        let x : p ≡ span (size_at entry s at + 1) (get_or s (size_at entry s at) 0) = y ∙ λ i. span (a i + 1) (n i) in
        bear_filled entry s at h q (λ i. r i ++ ((x i).offset ∷ (x i).length ∷ [])) (λ i. a i + 1 + n i)

-- ---- tallied

pub entry_passes : bear_test entry ≡ true
unfolding bear_test form_proper form_all sure below proper scope all has distinct free eights total flatten suits each
entry_passes = refl

abbrev pub entry_bear : Bear
entry_bear = record { row = entry; passes = entry_passes }

head_tally : (rt : ℕ) (c : DrcScope) (p : Payload) → tally (entry.head ∷ []) (of (entry_row (record { reserved_type = rt; scope = c; loudness_info = p }))) ≡ scope_zeros rt c
unfolding tally cells shown scope sum flatten
head_tally rt (Plain k) p = refl
head_tally rt (Group k r i) p = refl
head_tally rt (Preset r i) p = refl
head_tally rt Unknown p = refl

pub entry_tally : (e : LoudnessInfoEntry) (x : Borne) → borne_row entry x ≡ entry_row e → scope_zeros e.reserved_type e.scope ≡ borne_tally entry x
entry_tally e x q = sym (bear_tallied entry_bear x ∙ ap (λ (r : List ℕ). tally (entry.head ∷ []) (of r)) q ∙ head_tally e.reserved_type e.scope e.loudness_info)
