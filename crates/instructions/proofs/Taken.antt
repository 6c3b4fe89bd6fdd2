-- Instructions read: the sizes of their bytes, where they end, and their columns once they are known to be there.
use Rattle.std.specs.Prelude.{Ok, Err}
use Prim.Native.Nat.{ℕ, zero, suc, ◌+◌, ◌-◌, ◌*◌, ◌≤◌}
use mathlib.Core.Path.{◌≡◌, refl, sym, ap, ◌∙◌}
use mathlib.Core.List.{List, [], ◌∷◌, ◌++◌, flatten, flat_map}
use mathlib.Core.Bool.{true}
use native.Mathlib.Omega.{arith}
use native.Mathlib.Nat.{add-zero}
use lib.ListN.{length, get_or, drop}
use lib.Seq.{sets}
use lib.Dec.{eqb}
use Rattle.wire.specs.Lists.{each, sum}
use Rattle.wire.specs.Bits.{part, total, split}
use Rattle.wire.specs.Prog.{Out, done, short, run, many}
use Rattle.wire.specs.Reads.{map_out, end_of, is_done, pos_of, rows_of, Summed}
use Rattle.wire.specs.Act.{pick}
use Rattle.wire.specs.Nest.{Fillable, Nested}
use Rattle.wire.specs.Layout.{num, reserved, Layout, end, line, optional, ◌▹◌, Columns, of, row, set, put, blank, has, flat, broken_row, tally}
use Rattle.wire.specs.Straight.{ends, ones, puts_at, took, taken, spans, PartTaken, PartEnds, blanks}
use Rattle.wire.specs.declared.reads.Short.{Short}
use Rattle.wire.proofs.Reading.Runs.{out_and_then}
use Rattle.wire.proofs.Layouts.Cells.{all, free}
use Rattle.wire.proofs.Layouts.Rowed.{weight}
use Rattle.wire.proofs.Fields.{part_below}
use Rattle.wire.proofs.Layouts.Straight.{ends_at, ends_within, total_append, total_ones, ones_append, heads, each_off, taken_off, taken_there, taken_none}
use Rattle.wire.proofs.Layouts.Families.{headed, tailed, head_sizes, tail_sizes, kids_of, behind_head, head_got, head_lacks, broken_got, broken_lacks, singles_pos, singles_before, family_test, kids_ask, tally_ask, tail_tallied, family_placed, placed_count, placed_filled}
use Rattle.pairs.specs.Layout.{pair}
use Rattle.pairs.proofs.Pairs.{pair_one}
use Rattle.scopes.specs.Layout.{scope}
use Rattle.scopes.specs.Rows.{id_bytes}
use Rattle.scopes.proofs.Taken.{scope_spans}
use Rattle.target_loudness.specs.Layout.{target}
use Rattle.target_loudness.specs.Rows.{target_bytes}
use Rattle.target_loudness.proofs.Taken.{target_spans, target_total}
use Rattle.instructions.specs.Layout.{types, additional, settings, limiter, effect, instruction, instructions}
use Rattle.instructions.specs.Rows.{instruction_row, count_cells, effect_bytes, EffectTaken}
use Rattle.instructions.specs.declared.rows.DrcInstructions.{DrcInstructions}

-- ---- what stands before the additional IDs

-- the bytes of the ID behind the type
abbrev pub id_of : List ℕ → ℕ → ℕ
id_of s at = id_bytes types (part 0 2 (get_or s at 0))

-- where the three bytes behind the scope begin
abbrev pub set_at : List ℕ → ℕ → ℕ
set_at s at = at + (1 + id_of s at)

pub settings_spans : (s : List ℕ) (at : ℕ) → spans settings blank s at ≡ ones (1 + (id_of s at + 3))
unfolding took ones
settings_spans s at =
    let e : 1 + id_of s at + 3 ≡ 1 + (id_of s at + 3) = omega arith in
    ap (λ (l : List ℕ). l ++ ones 3) (scope_spans types blank s at) ∙ ones_append (1 + id_of s at) 3 ∙ ap ones e

pub settings_total : (s : List ℕ) (at : ℕ) → total (spans settings blank s at) ≡ 1 + (id_of s at + 3)
settings_total s at = ap total (settings_spans s at) ∙ total_ones (1 + (id_of s at + 3))

-- the three bytes as lines of their own
abbrev behind_scope : Layout
behind_scope = line ((reserved 2 5 ∷ num 6 6 ∷ []) ∷ []) ▹ line ((reserved 1 7 ∷ num 7 8 ∷ []) ∷ []) ▹ line (count_cells ∷ []) ▹ end

settled : (s : List ℕ) (at : ℕ) → headed instruction s at ≡ taken behind_scope (taken (scope types) blank s at) s (set_at s at)
unfolding took
settled s at = ap (λ (k : ℕ). taken behind_scope (taken (scope types) blank s at) s (at + k)) (ap total (scope_spans types blank s at) ∙ total_ones (1 + id_of s at))

-- the last of them counts the additional IDs and has two flags
module _ (s : List ℕ) (at : ℕ) {c : ℕ} (e : c ≡ get_or s (set_at s at + 2) 0) where
  pub count_is : kids_of instruction s at ≡ part 2 3 c
  unfolding took puts_at put split total
  count_is = ap (λ (f : Columns). f 11) (settled s at) ∙ ap (part 2 3) (sym e)

  limiter_is : headed instruction s at 13 ≡ part 1 1 c
  unfolding took puts_at put split total
  limiter_is = ap (λ (f : Columns). f 13) (settled s at) ∙ ap (part 1 1) (sym e)

  loud_is : headed instruction s at 15 ≡ part 0 1 c
  unfolding took puts_at put split total
  loud_is = ap (λ (f : Columns). f 15) (settled s at) ∙ ap (part 0 1) (sym e)

-- ---- what stands behind them

-- a target loudness depends on its flag and its place alone
loud_spans : (s : List ℕ) (f g : Columns) {k m : ℕ} → f 15 ≡ g 15 → k ≡ m → spans (optional 15 target ▹ end) f s k ≡ spans (optional 15 target ▹ end) g s m
loud_spans s f g {k} {m} e q = target_spans f s k ∙ (λ i. pick (eqb (e i) 1) (ones (target_bytes (get_or s (q i) 0))) []) ∙ sym (target_spans g s m)

module _ (f : Columns) (s : List ℕ) (m : ℕ) where
  -- the columns behind the effect, which is a word, and behind the limiter
  abbrev worded : Columns
  worded = set 12 (get_or s m 0 * 256 + get_or s (m + 1) 0) f

  abbrev limited : ℕ → Columns × List ℕ
  limited v = pick (eqb v 1) (took limiter worded s (m + 2) 0) (worded, [])

  limited_total : (v : ℕ) → v ≤ 1 → total (limited v).1 ≡ v
  unfolding took total
  limited_total zero h = refl
  limited_total (suc zero) h = refl
  limited_total (suc (suc v)) h = absurd (omega arith)

  limited_ones : (v : ℕ) → v ≤ 1 → 1 ∷ 1 ∷ (limited v).1 ≡ ones (2 + v)
  unfolding took ones
  limited_ones zero h = refl
  limited_ones (suc zero) h = refl
  limited_ones (suc (suc v)) h = absurd (omega arith)

  limited_loud : (limited (f 13)).0 15 ≡ f 15
  unfolding took all has flatten
  limited_loud = taken_off (optional 13 limiter ▹ end) worded s (m + 2) 0 15 refl

  pub effect_spans : f 13 ≤ 1 → spans effect f s m ≡ ones (2 + f 13) ++ spans (optional 15 target ▹ end) f s (m + (2 + f 13))
  unfolding took
  effect_spans h =
      let e : m + 2 + total (limited (f 13)).1 ≡ m + (2 + f 13) = omega (arith, limited_total (f 13) h) in
      λ i. limited_ones (f 13) h i ++ loud_spans s (limited (f 13)).0 f limited_loud e i

  pub effect_total : f 13 ≤ 1 → total (spans effect f s m) ≡ effect_bytes (f 13) (f 15) s m
  effect_total h =
      let e : m + (2 + f 13) ≡ m + 2 + f 13 = omega arith in
      ap total (effect_spans h) ∙ total_append (ones (2 + f 13)) (spans (optional 15 target ▹ end) f s (m + (2 + f 13)))
      ∙ (λ i. total_ones (2 + f 13) i + (target_total f s (m + (2 + f 13)) ∙ ap (λ (k : ℕ). pick (eqb (f 15) 1) (target_bytes (get_or s k 0)) 0) e) i) ∙ omega arith

-- ---- measured

pub settings_lack : (s : List ℕ) (at : ℕ) → at ≤ length s → {x : Short} → short x ≡ ends (spans settings blank s at) s at → Summed instructions (λ x. length x.1) 7 s at (Err x)
settings_lack s at h e = broken_lacks instruction (flat 2 additional) s at 7 h (head_lacks instruction (flat 2 additional) s at e)

-- code stands behind the settings, at n
pub record Behind (s : List ℕ) (at n : ℕ) : Type 0 where
  pub begun : at ≤ length s
  pub inside : n ≤ length s
  pub is : n ≡ at + (1 + (id_of s at + 3))
  pub goes : end_of (run instructions s at) ≡ behind_head instruction (flat 2 additional) s at n

pub behind : (s : List ℕ) (at : ℕ) → at ≤ length s → {n : ℕ} → done tt n ≡ ends (spans settings blank s at) s at → Behind s at n
behind s at h e = record {
  begun = h;
  inside = ends_within (spans settings blank s at) s at h (sym e);
  is = ends_at (spans settings blank s at) s at (sym e) ∙ ap (λ (k : ℕ). at + k) (settings_total s at);
  goes = head_got instruction (flat 2 additional) s at e;
}

-- the additional IDs, the effect and the limiter are single bytes; the target loudness is left
module _ {s : List ℕ} {at n c count l : ℕ} (z : Behind s at n) (q : c ≡ get_or s (n - 1) 0) (k : count ≡ part 2 3 c) (i : l ≡ part 1 1 c) where
  byte : c ≡ get_or s (set_at s at + 2) 0
  byte = let p : n - 1 ≡ set_at s at + 2 = omega (arith, z.is) in q ∙ ap (λ (k : ℕ). get_or s k 0) p

  abbrev left : ℕ → List ℕ
  left j = spans (optional 15 target ▹ end) (headed instruction s at) s j

  counted : kids_of instruction s at ≡ count
  counted = count_is s at byte ∙ sym k

  tails : (m : ℕ) → tail_sizes instruction s at m ≡ ones (2 + l) ++ left (m + (2 + l))
  tails m =
      let v : headed instruction s at 13 ≡ l = limiter_is s at byte ∙ sym i in
      effect_spans (headed instruction s at) s m (omega (arith, limiter_is s at byte, part_below 1 1 c)) ∙ ap (λ (v : ℕ). ones (2 + v) ++ left (m + (2 + v))) v

  going : {v : Out (Unit {0})} → v ≡ ends (ones (count + 2 + l)) s n → end_of (run instructions s at) ≡ out_and_then v (λ u j. ends (left j) s j)
  going e =
      let p : count + (2 + l) ≡ count + 2 + l = omega arith in
      z.goes ∙ singles_before 2 additional pair_one s instruction at count (2 + l) left counted tails n
      ∙ ap (λ (o : Out (Unit {0})). out_and_then o (λ u j. ends (left j) s j)) (ap (λ (k : ℕ). ends (ones k) s n) p ∙ sym e)

  pub singles_lack : {x : Short} → short x ≡ ends (ones (count + 2 + l)) s n → Summed instructions (λ x. length x.1) 7 s at (Err x)
  singles_lack e = broken_lacks instruction (flat 2 additional) s at 7 z.begun (sym (going e))

  module _ {m w : ℕ} (e : done tt m ≡ ends (ones (count + 2 + l)) s n) (j : w ≡ part 0 1 c) where
    pub loud_begun : (m ≤ length s) × (w ≤ 1)
    loud_begun = (ends_within (ones (count + 2 + l)) s n z.inside (sym e), omega (arith, j, part_below 0 1 c))

    ended : {o : Out (Unit {0})} → PartEnds 15 target w s m o → o ≡ end_of (run instructions s at)
    ended p = p.of (headed instruction s at) (loud_is s at byte ∙ sym j) ∙ sym (going e)

    pub loud_lack : {x : Short} → PartEnds 15 target w s m (short x) → Summed instructions (λ x. length x.1) 7 s at (Err x)
    loud_lack p = broken_lacks instruction (flat 2 additional) s at 7 z.begun (ended p)

    pub loud_got : {next : ℕ} → PartEnds 15 target w s m (done tt next) → Summed instructions (λ x. length x.1) 7 s at (Ok (count, next))
    loud_got p = broken_got instruction (flat 2 additional) s at 7 z.begun (ended p) (sym counted) (omega (arith, k, part_below 2 3 c))

-- ---- taken

pub limiter_there : (s : List ℕ) (at : ℕ) {v : ℕ} → v ≡ 1 → PartTaken 13 2 limiter v (blanks 1) s at (1 ∷ part 0 8 (get_or s at 0) ∷ [])
unfolding took puts_at put split total each blanks
limiter_there s at t = taken_there 13 1 limiter s at t refl (λ f z. rw z)

pub effect_taken : (s : List ℕ) (m : ℕ) {l w k v : ℕ} {a b : List ℕ} → l ≤ 1 → k ≡ m + 2 + l → v ≡ get_or s m 0 * 256 + get_or s (m + 1) 0
    → PartTaken 13 2 limiter l (blanks 1) s (m + 2) a → PartTaken 15 9 target w (blanks 8) s k b → EffectTaken l w s m (v ∷ (a ++ b))
unfolding took all has free flatten each blanks
effect_taken s m {l} {w} {k} {v} {a} {b} n p e x y = record {
  of = λ f z.
      let f₀ = worded f s m in
      let f₁ = taken (optional 13 limiter ▹ end) f₀ s (m + 2) in
      let f₂ = taken (optional 15 target ▹ end) f₁ s k in
      let t : f 13 ≡ l = heads z in
      let q : m + 2 + total (limited f s m (f 13)).1 ≡ k = omega (arith, p, t, limited_total f s m (f 13) (omega (arith, n, t))) in
      let no_limiter_lem = each_off (optional 13 limiter ▹ end) f₀ s (m + 2) 0 in
      let no_loud = each_off (optional 15 target ▹ end) f₁ s k 0 in
      let i : v ∷ [] ≡ each f₂ 12 1 = (λ t. e t ∷ []) ∙ sym (no_loud 12 1 refl ∙ no_limiter_lem 12 1 refl) in
      let j : a ≡ each f₂ 13 2 = x.of f₀ (ap (λ (q : List ℕ). get_or q 0 0 ∷ get_or q 1 0 ∷ []) z) ∙ sym (no_loud 13 2 refl) in
      let r : b ≡ each f₂ 15 9 = y.of f₁ (no_limiter_lem 15 9 refl ∙ ap (drop 2) z) in
      (λ t. i t ++ (j t ++ r t)) ∙ ap (λ (k : ℕ). each (taken (optional 15 target ▹ end) f₁ s k) 12 12) (sym q);
}

-- with neither part
pub bare_taken : (s : List ℕ) (m : ℕ) {v : ℕ} → v ≡ get_or s m 0 * 256 + get_or s (m + 1) 0 → EffectTaken 0 0 s m (v ∷ 0 ∷ 0 ∷ 0 ∷ 0 ∷ 0 ∷ 0 ∷ 0 ∷ 0 ∷ 0 ∷ 0 ∷ 0 ∷ [])
unfolding blanks
bare_taken s m e =
    effect_taken s m {l = 0} {w = 0} {k = m + 2 + 0} (omega arith) refl e (taken_none 13 1 limiter s (m + 2) (omega arith) (λ (p : 0 ≡ 1). omega (arith, p)))
    (taken_none 15 8 target s (m + 2 + 0) (omega arith) (λ (p : 0 ≡ 1). omega (arith, p)))

-- where the additional IDs begin, from the type byte
pub begins_are : (s : List ℕ) (at : ℕ) {b k i : ℕ} → b ≡ get_or s at 0 → k ≡ part 0 2 b → i ≡ id_bytes types k → at + 4 + i ≡ at + total (spans settings blank s at)
begins_are s at {b} {k} {i} e q r =
    let z : i ≡ id_of s at = r ∙ ap (id_bytes types) (q ∙ ap (part 0 2) e) in
    omega (arith, z, settings_total s at)

-- an instruction that was measured: its additional IDs begin at `begins`, and c is the byte before them
module _ (s : List ℕ) (at : ℕ) (h : at ≤ length s) (q : is_done (run instructions s at) ≡ true) where
  pub settings_there : at + (1 + (id_of s at + 3)) ≤ length s
  settings_there = rw (settings_total s at) at (tally_ask instruction 2 additional s at h q).begun

  module _ {begins c count : ℕ} (b : begins ≡ at + total (spans settings blank s at)) (e₀ : c ≡ get_or s (begins - 1) 0) (k : count ≡ part 2 3 c) where
    place : (k j : ℕ) → k + j ≡ 3 → begins - k ≡ set_at s at + j
    place k j h = omega (arith, b, settings_total s at, h)

    e : c ≡ get_or s (set_at s at + 2) 0
    e = e₀ ∙ ap (λ (k : ℕ). get_or s k 0) (place 1 2 refl)

    kids_are : kids_of instruction s at ≡ count
    kids_are = count_is s at e ∙ sym k

    pub ids_known : (begins ≤ length s) × (is_done (run (many count (flat 2 additional)) s begins) ≡ true)
    ids_known = let w = tally_ask instruction 2 additional s at h q in (rw b w.begun, rw (kids_are, ← b) at w.sound)

    ids_end : begins + count ≡ pos_of (run (many (kids_of instruction s at) (flat 2 additional)) s (at + total (head_sizes instruction s at)))
    ids_end = sym ((λ i. pos_of (run (many (kids_are i) (flat 2 additional)) s (sym b i))) ∙ (singles_pos 2 additional pair_one s count begins ids_known.0 ids_known.1).0)

    module _ {l w : ℕ} (i : l ≡ part 1 1 c) (j : w ≡ part 0 1 c) where
      flags_below : (l ≤ 1) × (w ≤ 1)
      flags_below = (omega (arith, i, part_below 1 1 c), omega (arith, j, part_below 0 1 c))

      effect_long_lem : total (tail_sizes instruction s at (begins + count)) ≡ effect_bytes l w s (begins + count)
      effect_long_lem =
          let v : headed instruction s at 13 ≡ l = limiter_is s at e ∙ sym i in
          effect_total (headed instruction s at) s (begins + count) (omega (arith, v, flags_below.0)) ∙ (λ t. effect_bytes (v t) ((loud_is s at e ∙ sym j) t) s (begins + count))

      pub effect_there : (begins + count + effect_bytes l w s (begins + count) ≤ length s) × (l ≤ 1) × (w ≤ 1)
      effect_there = (rw effect_long_lem at (tail_tallied instruction 2 additional s at h q ids_end), flags_below.0, flags_below.1)

      pub instruction_taken : (first : ℕ) {rt drc downmix next : ℕ} {sc r : List ℕ} → rt ∷ sc ≡ row 5 (taken (scope types) blank s at) → drc ≡ get_or s (begins - 3) 0
          → downmix ≡ get_or s (begins - 2) 0
          → EffectTaken l w s (begins + count) r → next ≡ begins + count + effect_bytes l w s (begins + count)
          → done (rt ∷ sc ++ ((part 6 2 drc ∷ part 0 6 drc ∷ part 7 1 downmix ∷ part 0 7 downmix ∷ part 5 3 c ∷ first ∷ count ∷ []) ++ r)) next ≡ map_out (λ x. broken_row instruction (first, x)) (run instructions s at)
      unfolding took puts_at put split total all has free flatten each blanks scope
      instruction_taken first {rt} {drc} {downmix} {next} {sc} {r} x y z v n =
          let g₀ = headed instruction s at in
          let g = tailed instruction s at (begins + count) in
          let off = each_off effect g₀ s (begins + count) 0 in
          let no-scope = each_off (scope types) blank s at 0 in
          let x₀ : rt ∷ sc ≡ each g 0 5 = x ∙ sym (off 0 5 refl ∙ ap (λ (f : Columns). each f 0 5) (settled s at)) in
          let y' : drc ≡ get_or s (set_at s at) 0 = y ∙ ap (λ (k : ℕ). get_or s k 0) (place 3 0 refl ∙ add-zero (set_at s at)) in
          let z' : downmix ≡ get_or s (set_at s at + 1) 0 = z ∙ ap (λ (k : ℕ). get_or s k 0) (place 2 1 refl) in
          let x₁ : part 6 2 drc ∷ part 0 6 drc ∷ part 7 1 downmix ∷ part 0 7 downmix ∷ part 5 3 c ∷ [] ≡ each g 5 5 =
          (λ t. part 6 2 (y' t) ∷ part 0 6 (y' t) ∷ part 7 1 (z' t) ∷ part 0 7 (z' t) ∷ part 5 3 (e t) ∷ [])
          ∙ sym (off 5 5 refl ∙ ap (λ (f : Columns). each f 5 5) (settled s at)) in
          let x₂ : count ∷ [] ≡ each g 11 1 = ap (λ (k : ℕ). k ∷ []) (sym kids_are) ∙ sym (off 11 1 refl) in
          let x₃ : each g₀ 13 11 ≡ l ∷ 0 ∷ w ∷ blanks 8 =
          ap (λ (f : Columns). each f 13 11) (settled s at)
          ∙ (λ t. (ap (part 1 1) (sym e) ∙ sym i) t ∷ (no-scope 14 1 refl t ++ ((ap (part 0 1) (sym e) ∙ sym j) t ∷ no-scope 16 8 refl t))) in
          family_placed instruction 2 additional s at first h q ids_end (λ t. x₀ t ++ (x₁ t ++ (first ∷ (x₂ t ++ v.of g₀ x₃ t))))
          (n ∙ ap (λ (k : ℕ). begins + count + k) (sym effect_long_lem))

-- the five low bits of c at 0: no additional IDs, and neither part
module _ (c : ℕ) {v : ℕ} (e : v ≡ part 0 5 c) (z : v ≡ 0) where
  no_count : part 2 3 c ≡ 0
  no_count = omega (arith, e, z)

  no_limiter_lem : part 1 1 c ≡ 0
  no_limiter_lem = omega (arith, e, z)

  no_loud : part 0 1 c ≡ 0
  no_loud = omega (arith, e, z)

  pub bare_so : (s : List ℕ) (m : ℕ) {n : ℕ} {r : List ℕ} → EffectTaken 0 0 s m r × (n ≡ m + 2)
      → EffectTaken (part 1 1 c) (part 0 1 c) s (m + part 2 3 c) r × (n ≡ m + part 2 3 c + effect_bytes (part 1 1 c) (part 0 1 c) s (m + part 2 3 c))
  bare_so s m x = rw (no_count, no_limiter_lem, no_loud, add-zero m) x

-- a target loudness that is there has bytes
pub loud_there : (w b at n : ℕ) → w ≤ 1 → at + pick (eqb w 1) (target_bytes b) 0 ≤ n → at + w ≤ n
loud_there zero b at n h l = omega (arith, l)
loud_there (suc zero) b at n h l = omega (arith, l)
loud_there (suc (suc w)) b at n h l = absurd (omega arith)

-- ---- taken by one function: its additional IDs are left

pub fills : family_test instruction additional ≡ true
unfolding family_test has all weight pair flatten
fills = refl

module _ (s : List ℕ) (at first : ℕ) (d : DrcInstructions) {next begins : ℕ} (h : at ≤ length s) (e : done (instruction_row d) next ≡ map_out (λ x. broken_row instruction (first, x)) (run instructions s at)) (b : begins ≡ at + total (spans settings blank s at)) where
  ids_of : kids_of instruction s at ≡ d.additional_downmix_ids.count
  ids_of = sym (placed_count instruction 2 additional s at first h e fills)

  pub ids_few : d.additional_downmix_ids.count ≤ 7
  ids_few = let c = get_or s (set_at s at + 2) 0 in omega (arith, ids_of, count_is s at {c = c} refl, part_below 2 3 c)

  -- their columns, and the reserved bits in them
  abbrev ids : Out (List (List ℕ))
  ids = run (many d.additional_downmix_ids.count (flat 2 additional)) s begins

  ids_same : run (many (kids_of instruction s at) (flat 2 additional)) s (at + total (head_sizes instruction s at)) ≡ ids
  ids_same = λ i. run (many (ids_of i) (flat 2 additional)) s (sym b i)

  pub ids_there : is_done (run instructions s at) ≡ true → (begins ≤ length s) × (is_done ids ≡ true)
  ids_there q = let w = tally_ask instruction 2 additional s at h q in (rw b w.begun, sym (ap is_done ids_same) ∙ w.sound)

  pub ids_room : {u : List ℕ} → Fillable instructions 2 (λ x. length x.1) s at first u → first * 2 + 2 * d.additional_downmix_ids.count ≤ length u
  ids_room {u} f = rw ids_of at (kids_ask instruction 2 additional s at first u f).room

  pub instruction_filled : {u after : List ℕ} → after ≡ sets u (first * 2) (flat_map (λ r. r) (rows_of ids))
      → Nested instructions 2 (λ n x. broken_row instruction (n, x)) (λ x. flatten x.1) s at first u (instruction_row d) next after
  instruction_filled {u} w =
      placed_filled instruction 2 additional s at first h e (w ∙ ap (λ (o : Out (List (List ℕ))). sets u (first * 2) (flat_map (λ r. r) (rows_of o))) (sym ids_same))

  pub ids_zeros : {below : ℕ} → below ≡ sum (λ r. tally (additional ∷ []) (of r)) (rows_of ids)
      → below ≡ sum (λ r. tally (additional ∷ []) (of r)) (rows_of (run (many (kids_of instruction s at) (flat 2 additional)) s (at + total (head_sizes instruction s at))))
  ids_zeros w = w ∙ ap (λ (o : Out (List (List ℕ))). sum (λ r. tally (additional ∷ []) (of r)) (rows_of o)) (sym ids_same)
