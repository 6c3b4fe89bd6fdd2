-- A group read: the sizes of its bytes, where they end, and its columns once they are known to be there.
use Prim.Native.Nat.{ℕ, zero, suc, ◌+◌, ◌-◌, ◌≤◌, ◌<◌}
use mathlib.Core.Path.{◌≡◌, refl, sym, ap, subst, ◌∙◌}
use mathlib.Core.List.{List, [], ◌∷◌}
use mathlib.Core.Bool.{Bool, true, false}
use native.Mathlib.Omega.{arith}
use lib.ListN.{length, get_or}
use lib.Dec.{leb}
use Rattle.wire.specs.Lists.{each}
use Rattle.wire.specs.Bits.{part, total, split}
use Rattle.wire.specs.Prog.{Out, done, short, needing, run, u8}
use Rattle.wire.specs.Reads.{end_of}
use Rattle.wire.specs.Layout.{Layout, end, one, optional, follows, ◌▹◌, flag, Columns, set, put, row, blank, flat}
use Rattle.wire.specs.Straight.{ends, ones, puts_at, took}
use Rattle.wire.specs.declared.reads.Short.{Short}
use Rattle.wire.specs.declared.pen.Fault.TheVariants as F
use Rattle.wire.proofs.Fields.{part_below}
use Rattle.wire.proofs.Reading.Runs.{run_u8, u8_done}
use Rattle.wire.proofs.Reading.Walk.{as_done}
use Rattle.wire.proofs.Reading.Loops.{Measuring, carry_turn, all_left, one_less_left}
use Rattle.wire.proofs.Layouts.Straight.{Whole, flat_ends, ones_got, Behind, behind_one, one_cut, one_more}
use Rattle.stream_groups.specs.Layout.{group}
use Rattle.stream_groups.specs.Rows.{located, group_id, in_main, in_auxiliary, group_row, location_cells}

-- ---- what is behind the first byte, where isInMainStream is v

abbrev behind : Layout
behind = follows (flag 2) 1 (1 ∷ 0 ∷ []) F.Auxiliary ▹ optional 2 (one location_cells ▹ end) ▹ end

abbrev cased : List ℕ → ℕ → ℕ → Columns × List ℕ
cased s at v = let r = took behind (set 0 (part 1 7 (get_or s at 0)) (set 1 v blank)) s at 1 in (r.0, 1 ∷ r.1)

group_took : (s : List ℕ) (at : ℕ) {v : ℕ} → part 0 1 (get_or s at 0) ≡ v → took group blank s at 0 ≡ cased s at v
unfolding group took puts_at put split total
group_took s at e = ap (cased s at) e

-- ---- where it ends: a second byte follows exactly outside the main stream

pub group_ends : (s : List ℕ) (at : ℕ) → end_of (run (flat 5 group) s at) ≡ ends (ones (1 + (1 - part 0 1 (get_or s at 0)))) s at
unfolding took ones
group_ends s at =
    let e = ap (λ (x : Columns × List ℕ). x.1) (group_took s at refl) ∙ sizes (part 0 1 (get_or s at 0)) (part_below 0 1 (get_or s at 0)) in
    flat_ends 5 group s at ∙ ap (λ (l : List ℕ). ends l s at) e
  where
    sizes : (v : ℕ) → v < 2 → (cased s at v).1 ≡ ones (1 + (1 - v))
    sizes zero h = refl
    sizes (suc zero) h = refl
    sizes (suc (suc v)) h = absurd (omega arith)

byte_ends : (s : List ℕ) (at : ℕ) → end_of (run u8 s at) ≡ ends (ones 1) s at
unfolding ends ones
byte_ends s at = ap end_of (run_u8 s at) ∙ go (leb (at + 1) (length s))
  where
    go : (b : Bool) → end_of {A = ℕ} (elim b [ true ↦ done (get_or s at 0) (at + 1) | false ↦ short (needing (at + 1)) ])
        ≡ (elim b [ true ↦ done tt (at + 1) | false ↦ short (needing (at + 1)) ])
    go true = refl
    go false = refl

-- the first byte is not there, or is there
module _ (s : List ℕ) (at : ℕ) where
  pub group_cut : {x : Short} → short x ≡ run u8 s at → short x ≡ end_of (run (flat 5 group) s at)
  group_cut e = one_cut _ s at (ap end_of e ∙ byte_ends s at) ∙ sym (group_ends s at)

  module _ (h : at ≤ length s) {b n : ℕ} (e : done b n ≡ run u8 s at) where
    pub group_behind : Behind s at n
    group_behind = behind_one s at h (ap end_of e ∙ byte_ends s at)

    group_more : {p : ℕ} → p ≡ part 0 1 b → {r : Out (Unit {0})} → r ≡ ends (ones (1 - p)) s n → r ≡ end_of (run (flat 5 group) s at)
    group_more q w =
        let i : b ≡ get_or s at 0 = (u8_done s at (sym e)).0 in
        one_more group_behind (ap (λ (k : ℕ). 1 - k) (q ∙ ap (part 0 1) i)) w ∙ sym (group_ends s at)

    module _ {p : ℕ} (q : p ≡ part 0 1 b) where
      pub group_outside : p ≡ 0 → {r : Out (Unit {0})} → r ≡ ends (ones 1) s n → r ≡ end_of (run (flat 5 group) s at)
      group_outside z w = group_more q (w ∙ ap (λ (p : ℕ). ends (ones (1 - p)) s n) (sym z))

      pub group_main : (p ≡ 0 → ⊥) → done tt n ≡ end_of (run (flat 5 group) s at)
      unfolding ends ones
      group_main z =
          let v : p ≡ 1 = omega (arith, z, q, part_below 0 1 b) in
          group_more q (ap (λ (p : ℕ). ends (ones (1 - p)) s n) (sym v))

-- ---- a group that was measured, from what stands in its bytes

abbrev Ended : List ℕ → ℕ → Columns × List ℕ → Type 0
Ended s at x = (run (flat 5 group) s at ≡ done (row 5 x.0) (at + total x.1)) × (at + total x.1 ≤ length s)

module _ {s : List ℕ} {at : ℕ} (w : Whole 5 group s at) where
  ended : {v : ℕ} → part 0 1 (get_or s at 0) ≡ v → Ended s at (cased s at v)
  ended z = subst (Ended s at) (group_took s at z) (w.is, w.there)

  pub first_there : at < length s
  unfolding took total
  first_there = omega (arith, (ended refl).1)

  module _ {b p : ℕ} (e : b ≡ get_or s at 0) (q : p ≡ part 0 1 b) where
    ended_as : {v : ℕ} → p ≡ v → Ended s at (cased s at v)
    ended_as z = ended (sym (q ∙ ap (part 0 1) e) ∙ z)

    pub main_done : p ≡ 1 → done (group_row (in_main (group_id (part 1 7 b)))) (at + 1) ≡ run (flat 5 group) s at
    unfolding took total each
    main_done z = rw e (sym (ended_as z).0)

    module _ (n : p ≡ 1 → ⊥) where
      none : p ≡ 0
      none = omega (arith, n, q, part_below 0 1 b)

      pub second_there : at + 1 < length s
      unfolding took total
      second_there = omega (arith, (ended_as none).1)

      pub outside_done : {x : ℕ} → x ≡ get_or s (at + 1) 0
          → done (group_row (in_auxiliary (group_id (part 1 7 b)) (located (part 7 1 x) (part 0 7 x)))) (at + 2) ≡ run (flat 5 group) s at
      unfolding took puts_at put split total each
      outside_done f = rw (e, f) (sym (ended_as none).0)

-- ---- groups passed without a test: the body has a byte for each that is left, and some to spare

-- the first i of them are passed
pub record Sparing (s : List ℕ) (at count spare pos i : ℕ) : Type 0 where
  pub measures : Measuring (flat 5 group) s at count pos (count - i)
  pub room : pos + (count - i) + spare ≡ length s

pub sparing_start : (s : List ℕ) (at count : ℕ) → at + count ≤ length s → Sparing s at count (length s - at - count) at 0
sparing_start s at count h = record { measures = rw all_left (record { inside = omega arith; same = refl }); room = omega arith }

-- a group whose bytes are there ends behind them
group_there : (s : List ℕ) (at more : ℕ) → 1 - part 0 1 (get_or s at 0) ≡ more → at + more < length s → end_of (run (flat 5 group) s at) ≡ done tt (at + more + 1)
group_there s at more z h =
    let n : at + (1 + more) ≡ at + more + 1 = omega arith in
    group_ends s at ∙ ap (λ (k : ℕ). ends (ones (1 + k)) s at) z ∙ ones_got (1 + more) s at (omega arith) ∙ ap (done tt) n

-- the next group, whose second byte, if it has one, is of those to spare
pub spare_turn : {s : List ℕ} {at count spare pos j : ℕ} → Sparing s at count spare pos j → j < count → {b p : ℕ} → b ≡ get_or s pos 0 → p ≡ part 0 1 b
    → (more : ℕ) {spare' pos' : ℕ} → 1 - p ≡ more → more ≤ spare → spare' ≡ spare - more → pos' ≡ pos + more → Sparing s at count spare' (pos' + 1) (j + 1)
spare_turn {s} {count = count} {pos = pos} {j} i h e q more z l x y =
    let k = group_there s pos more (ap (λ (b : ℕ). 1 - part 0 1 b) (sym e) ∙ ap (λ (p : ℕ). 1 - p) (sym q) ∙ z) (omega (arith, i.room)) in
    let (_, r, _) = as_done (λ g. tt) (run (flat 5 group) s pos) (k ∙ ap (λ (n : ℕ). done tt (n + 1)) (sym y)) in
    record { measures = rw (one_less_left count j) (carry_turn i.measures (omega arith) (sym r) (λ l. refl)); room = omega (arith, i.room) }
