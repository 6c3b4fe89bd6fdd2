-- The body byte by byte, over the layout of a group: what follows the bytes of the main part, and what a run that is done says of the body.
use Rattle.std.specs.Prelude.{Result, Ok, Err}
use Prim.Native.Nat.{ℕ, ◌+◌, ◌≤◌, ◌<◌}
use mathlib.Core.Path.{◌≡◌, refl, sym, ap, ◌∙◌}
use mathlib.Core.List.{List, [], ◌∷◌}
use mathlib.Core.Bool.{Bool, true, false}
use native.Mathlib.Omega.{arith}
use lib.ListN.{length, get_or}
use lib.Dec.{eqb}
use Rattle.wire.specs.Lists.{each}
use Rattle.wire.specs.Bits.{part}
use Rattle.wire.specs.Prog.{Prog, ret, Out, done, short, run, u8, many, ◌>>=◌}
use Rattle.wire.specs.Reads.{map_out, end_of, is_done, pos_of, Summed}
use Rattle.wire.specs.Layout.{flat}
use Rattle.wire.specs.Straight.{ends, ones}
use Rattle.wire.specs.declared.reads.Short.{Short}
use Rattle.wire.proofs.Reading.Runs.{run_split, run_ret}
use Rattle.wire.proofs.Reading.Walk.{From, begun, onward, cut_off, cut_off_as, as_done, finished, byte_taken, is_done_lem, run_ret as run-done}
use Rattle.wire.proofs.Reading.Loops.{many_long, summed_done, summed_short, sum_onward, sum_cut_off}
use Rattle.wire.proofs.Layouts.Straight.{ones_past, singly, singly_there, singly_cut}
use Rattle.stream_groups.specs.Layout.{group}
use Rattle.multi_stream.specs.Rows.{MultiStream}
use Rattle.multi_stream.specs.Read.{Main, no_main, main_of, main, stream_of, multi_stream_over}
use Rattle.multi_stream.specs.Kind.{kind}
use Rattle.multi_stream.proofs.Mirrored.{parse_over}

-- ---- the main part

abbrev pub groups : ℕ → Prog (List (List ℕ))
groups n = many n (flat 5 group)

abbrev pub main_part : Bool → Prog Main
main_part = main (flat 5 group)

-- behind its two bytes
abbrev pub behind_two : ℕ → ℕ → Prog Main
behind_two a g = groups (part 0 7 g) >>= λ l. ret (main_of a g l)

pub main_cut : (s : List ℕ) (at : ℕ) {x : Short} → short x ≡ ends (ones 2) s at → short x ≡ run (main_part true) s at
unfolding main singly
main_cut s at e = sym (singly_cut 2 (λ l. behind_two (get_or l 0 0) (get_or l 1 0)) s at (sym e))

pub behind_there : (s : List ℕ) (at : ℕ) → at + 2 ≤ length s → From (main_part true) s at (behind_two (get_or s at 0) (get_or s (at + 1) 0)) (at + 2)
unfolding main singly each
behind_there s at h = record { same = singly_there 2 (λ l. behind_two (get_or l 0 0) (get_or l 1 0)) s at h; inside = h }

-- the groups behind them, by the count as code has it
module _ (s : List ℕ) (at : ℕ) (h : at ≤ length s) {n : ℕ} (q : done tt n ≡ ends (ones 2) s at) {v c : ℕ} (e : v ≡ get_or s (at + 1) 0) (f : c ≡ part 0 7 v) where
  count : ℕ
  count = part 0 7 (get_or s (at + 1) 0)

  place : From (main_part true) s at (behind_two (get_or s at 0) (get_or s (at + 1) 0)) (at + 2)
  place = behind_there s at (ones_past 2 s at h q).inside

  ended : {r : Out (Unit {0})} → r ≡ end_of (run (groups c) s n) → r ≡ map_out (λ l. tt) (run (groups count) s (at + 2))
  unfolding count
  ended w = w ∙ λ i. end_of (run (groups ((f ∙ ap (part 0 7) e) i)) s ((ones_past 2 s at h q).is i))

  pub groups_cut : {x : Short} → short x ≡ end_of (run (groups c) s n) → Summed (main_part true) (λ m. length m.groups) 127 s at (Err x)
  unfolding count
  groups_cut w = summed_short (cut_off_as (groups (part 0 7 (get_or s (at + 1) 0))) (λ l. tt) _ place (ended w))

  pub groups_summed : {k : ℕ} → done tt k ≡ end_of (run (groups c) s n) → Summed (main_part true) (λ m. length m.groups) 127 s at (Ok (c, k))
  unfolding count
  groups_summed w =
      let (l, y, _) = as_done (λ l. tt) (run (groups (part 0 7 (get_or s (at + 1) 0))) s (at + 2)) (sym (ended w)) in
      let a = many_long (flat 5 group) s (part 0 7 (get_or s (at + 1) 0)) (at + 2) l _ y in
      summed_done (finished (onward (groups (part 0 7 (get_or s (at + 1) 0))) _ place (sym y)) refl) (f ∙ ap (part 0 7) e ∙ sym a) (omega (arith, f))

-- a main part that was read: its two bytes, and as many groups as the count says
pub record MainThere (s : List ℕ) (at : ℕ) (m : Main) (k : ℕ) : Type 0 where
  pub inside : at + 2 ≤ length s
  pub rows : List (List ℕ)
  pub is : m ≡ main_of (get_or s at 0) (get_or s (at + 1) 0) rows
  pub count : length rows ≡ part 0 7 (get_or s (at + 1) 0)
  pub reads : run (groups (length rows)) s (at + 2) ≡ done rows k

pub main_there : (s : List ℕ) (at : ℕ) {m : Main} {k : ℕ} → run (main_part true) s at ≡ done m k → MainThere s at m k
unfolding main
main_there s at {m} {k} e =
    let (h, e₁) = byte_taken s at (λ a. u8 >>= behind_two a) e in
    let (h₁, e₂) = byte_taken s (at + 1) (behind_two (get_or s at 0)) e₁ in
    let n = part 0 7 (get_or s (at + 1) 0) in
    let x = run_split (groups n) (λ l. ret (main_of (get_or s at 0) (get_or s (at + 1) 0) l)) s (at + 1 + 1) m k e₂ in
    let (q, j) = run_ret _ s x.middle x.second in
    let c = many_long (flat 5 group) s n (at + 1 + 1) x.value _ x.first in
    let w : at + 1 + 1 ≡ at + 2 = omega arith in
    record { inside = omega arith; rows = x.value; is = sym q; count = c; reads = (λ i. run (groups (c i)) s (sym w i)) ∙ x.first ∙ ap (done x.value) j }

pub main_aside : (s : List ℕ) (at : ℕ) {m : Main} {k : ℕ} → run (main_part false) s at ≡ done m k → m ≡ no_main
unfolding main
main_aside s at e = sym (run_ret _ s at e).0

-- what is taken of it without a test
module _ (s : List ℕ) (q : is_done (run (main_part true) s 1) ≡ true) where
  the_main : (m : Main) × (k : ℕ) × (run (main_part true) s 1 ≡ done m k)
  the_main = is_done_lem (run (main_part true) s 1) q

  pub both_there : 3 ≤ length s
  both_there = (main_there s 1 the_main.2).inside

  pub main_placed : {a g : ℕ} → a ≡ get_or s 1 0 → g ≡ get_or s 2 0
      → done (part 7 1 a ∷ part 0 7 a ∷ part 7 1 g ∷ part 0 7 g ∷ []) (pos_of (run (main_part true) s 1)) ≡ map_out (λ m. m.columns) (run (main_part true) s 1)
  main_placed e f = let (m, k, r) = the_main in rw (r, e, f, (main_there s 1 r).is) refl

pub aside_placed : (s : List ℕ) → done (0 ∷ 0 ∷ 0 ∷ 0 ∷ []) (pos_of (run (main_part false) s 1)) ≡ map_out (λ m. m.columns) (run (main_part false) s 1)
unfolding main
aside_placed s = rw (run-done {A = Main} no_main s 1) refl

-- ---- the body

abbrev pub behind_first : ℕ → Prog MultiStream
behind_first b = main_part (eqb (part 7 1 b) 1) >>= λ m. ret (stream_of b m)

-- behind its first byte
module _ (s : List ℕ) where
  begins : From (multi_stream_over (flat 5 group)) s 0 (u8 >>= behind_first) 0
  unfolding multi_stream_over
  begins = begun (multi_stream_over (flat 5 group)) s 0 (omega arith)

  pub first_there : {v n : ℕ} → done v n ≡ run u8 s 0 → From kind.program s 0 (behind_first v) n
  first_there e = let w = onward u8 behind_first begins e in record { same = ap (λ (p : Prog MultiStream). run p s 0) parse_over ∙ w.same; inside = w.inside }

  pub first_cut : {x : Short} → short x ≡ run u8 s 0 → short x ≡ run kind.program s 0
  first_cut e = cut_off u8 behind_first begins e ∙ ap (λ (p : Prog MultiStream). run p s 0) (sym parse_over)

-- its groups are those of the main part
pub body_summed : (b : ℕ) {s : List ℕ} {n : ℕ} {r : Result (ℕ × ℕ) Short} → From kind.program s 0 (behind_first b) n
    → Summed (main_part (eqb (part 7 1 b) 1)) (λ m. length m.groups) 127 s n r → Summed kind.program (λ t. length t.1.0) 127 s 0 r
body_summed b {s} {n} {r} w x = go r x
  where
    go : (r : Result (ℕ × ℕ) Short) → Summed (main_part (eqb (part 7 1 b) 1)) (λ m. length m.groups) 127 s n r → Summed kind.program (λ t. length t.1.0) 127 s 0 r
    go (Ok y) x = let g = sum_onward (main_part (eqb (part 7 1 b) 1)) _ w x in summed_done (finished g.place refl) (sym g.is) x.small
    go (Err y) x = summed_short (sum_cut_off (main_part (eqb (part 7 1 b) 1)) _ w x)

-- a body that was read: its first byte, and the main part that this steers
pub record BodyRun (s : List ℕ) (t : MultiStream) (k : ℕ) : Type 0 where
  pub inside : 0 < length s
  pub part_of : Main
  pub reads : run (main_part (eqb (part 7 1 (get_or s 0 0)) 1)) s 1 ≡ done part_of k
  pub is : t ≡ stream_of (get_or s 0 0) part_of

pub body_run : (s : List ℕ) {t : MultiStream} {k : ℕ} → run kind.program s 0 ≡ done t k → BodyRun s t k
unfolding multi_stream_over
body_run s {t} {k} e =
    let (h, e₁) = byte_taken s 0 behind_first (ap (λ (p : Prog MultiStream). run p s 0) (sym parse_over) ∙ e) in
    let b = get_or s 0 0 in
    let x = run_split (main_part (eqb (part 7 1 b) 1)) (λ m. ret (stream_of b m)) s 1 t k e₁ in
    let (q, n) = run_ret _ s x.middle x.second in
    record { inside = h; part_of = x.value; reads = x.first ∙ ap (done x.value) n; is = sym q }

-- the groups, if there are any, begin behind the third byte
pub record Groups (s : List ℕ) (l : List (List ℕ)) (k : ℕ) : Type 0 where
  pub inside : 3 ≤ length s
  pub reads : run (groups (length l)) s 3 ≡ done l k

pub groups_run : (s : List ℕ) {t : MultiStream} {k : ℕ} → run kind.program s 0 ≡ done t k → 0 < length t.1.0 → Groups s t.1.0 k
groups_run s {t} {k} e h = let r = body_run s e in go (eqb (part 7 1 (get_or s 0 0)) 1) r.part_of r.reads (ap (λ (t : MultiStream). t.1.0) r.is)
  where
    go : (b : Bool) (m : Main) → run (main_part b) s 1 ≡ done m k → t.1.0 ≡ m.groups → Groups s t.1.0 k
    go false m r q = absurd (omega (arith, h, ap length (q ∙ ap (λ (m : Main). m.groups) (main_aside s 1 r))))
    go true m r q = let w = main_there s 1 r in rw (q ∙ ap (λ (m : Main). m.groups) w.is) (record { inside = w.inside; reads = w.reads })
