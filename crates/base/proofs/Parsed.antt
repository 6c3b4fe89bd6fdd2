-- The reading program of the base body: what is left of it behind its three bytes, what a run that is done says of the body, and what is known of a body that was
-- measured.
use Prim.Native.Nat.{ℕ, ◌+◌, ◌≤◌, ◌<◌}
use mathlib.Core.Path.{◌≡◌, refl, sym, ap, ◌∙◌}
use mathlib.Core.List.{List}
use mathlib.Core.Bool.{Bool, true, false, not}
use mathlib.Core.Option.{Option, some}
use native.Mathlib.Omega.{arith}
use lib.ListN.{length, get_or}
use lib.Dec.{eqb}
use Rattle.wire.specs.Lists.{each}
use Rattle.wire.specs.Bits.{part, total}
use Rattle.wire.specs.Prog.{Prog, Out, ret, u8, pass, ◌>>=◌, done, short, run, span}
use Rattle.wire.specs.Reads.{map_out, end_of, is_done, pos_of}
use Rattle.wire.specs.Layout.{blank, reads}
use Rattle.wire.specs.Straight.{ends, ones, took, taken}
use Rattle.wire.specs.declared.reads.Short.{Short}
use Rattle.wire.specs.declared.rows.Payload.{Payload}
use Rattle.wire.proofs.Reading.Runs.{run_split, run_ret}
use Rattle.wire.proofs.Fields.{part_below}
use Rattle.wire.proofs.Reading.Walk.{From, begun, onward, cut_off, as_short, finished, is_done_lem, byte_next, byte_taken, run_taken}
use Rattle.wire.proofs.Layouts.Codec.{whole_byte}
use Rattle.wire.proofs.Layouts.Straight.{ends_few, Past, ones_past, read_so}
use Rattle.frame.specs.Numbers.{accepted}
use Rattle.frame.specs.Entry.{needs, sizes, tail, too_short, Measures}
use Rattle.frame.specs.Sight.{Tops}
use Rattle.frame.specs.Body.{offset_of, length_of, parse, with_place, tables}
use Rattle.frame.proofs.Entries.{measures_short, Known, known, tops_known}
use Rattle.base.specs.declared.rows.CompatibleSets.{CompatibleSets}
use Rattle.base.specs.declared.rows.MpegH3dAudio.{MpegH3dAudio}
use Rattle.base.specs.Layout.{head}
use Rattle.base.specs.Rows.{absent_sets, listed_sets, Tree, sets_of}
use Rattle.base.specs.Read as R
use Rattle.base.specs.Read.{sets, columns_of}
use Rattle.base.specs.Kind.{kind}
use Rattle.base.specs.Contract.{sized}
use Rattle.base.proofs.Mirrored.{turned, mirrored}

-- a program whose last part is this one ends where that ends
end_last : {A B : Type 0} (p : Prog A) (g : A → B) {whole : Prog B} {s : List ℕ} {start at : ℕ} → From whole s start (p >>= λ a. ret (g a)) at
    → end_of (run p s at) ≡ end_of (run whole s start)
end_last {A} p g {whole} {s} {start} {at} w = go (run p s at) refl
  where
    go : (o : Out A) → run p s at ≡ o → end_of o ≡ end_of (run whole s start)
    go (done a n) e = ap end_of (finished (onward p (λ a. ret (g a)) w (sym e)) refl)
    go (short x) e = ap end_of (cut_off p (λ a. ret (g a)) w (sym e))

-- ---- the compatible sets

abbrev pub after_count : ℕ → Prog (Option Payload)
after_count count = pass count >>= λ at. ret (some (span at count))

-- what is taken of them without a test
module _ (s : List ℕ) (q : is_done (run (sets false) s 3) ≡ true) where
  listed : (3 < length s) × (done (listed_sets (span 4 (get_or s 3 0))) (pos_of (run (sets false) s 3)) ≡ map_out sets_of (run (sets false) s 3))
  unfolding sets
  listed =
      let (o, k, e) = is_done_lem (run (sets false) s 3) q in
      let (h, e₁) = byte_taken s 3 after_count e in
      let (l, e₂) = run_taken s 4 (get_or s 3 0) (λ at. ret (some (span at (get_or s 3 0)))) e₁ in
      let (z, n) = run_ret _ s (4 + get_or s 3 0) e₂ in
      (h, rw e (ap (λ (o : Option Payload). done (sets_of o) k) z))

  pub count_there : 3 < length s
  count_there = listed.0

  pub sets_listed : {c : ℕ} → c ≡ get_or s 3 0 → done (listed_sets (span 4 c)) (pos_of (run (sets false) s 3)) ≡ map_out sets_of (run (sets false) s 3)
  sets_listed e = rw e listed.1

pub sets_absent : (s : List ℕ) → done absent_sets (pos_of (run (sets true) s 3)) ≡ map_out sets_of (run (sets true) s 3)
unfolding sets run
sets_absent s = refl

-- they are there as the flag says
sets_flag : (a : Bool) (s : List ℕ) (at : ℕ) {x : Option Payload} {k : ℕ} → run (sets a) s at ≡ done x k
    → sets_of x ≡ record { present = not a; indications = span (offset_of x) (length_of x) }
unfolding sets
sets_flag true s at e = rw (← (run_ret _ s at e).0) refl
sets_flag false s at e =
    let y = run_split u8 _ s at _ _ e in
    let z = run_split (pass y.value) _ s y.middle _ _ y.second in
    rw (← (run_ret _ s z.middle z.second).0) refl

-- ---- the body

abbrev flag_of : List ℕ → ℕ
flag_of s = part 6 1 (get_or s 1 0)

abbrev tree_of : List ℕ → Option Payload → Tree
tree_of s x = (columns_of (get_or s 0 0) (get_or s 1 0) (get_or s 2 0), (x, tt))

-- what is left behind the three bytes
abbrev behind : List ℕ → Prog Tree
behind s = sets (eqb (flag_of s) 1) >>= λ x. ret (tree_of s x)

head_there : (s : List ℕ) → 3 ≤ length s → From kind.program s 0 (behind s) 3
unfolding R.base
head_there s h = record { same = ap (λ (p : Prog Tree). run p s 0) mirrored ∙ byte_next _ s 0 (omega arith) refl ∙ byte_next _ s 1 (omega arith) refl ∙ byte_next _ s 2 (omega arith) refl; inside = h }

-- a body that was read: its three bytes, and the sets that the second steers
pub record BodyRun (s : List ℕ) (t : Tree) (k : ℕ) : Type 0 where
  pub inside : 2 < length s
  pub listing : Option Payload
  pub reads : run (sets (eqb (flag_of s) 1)) s 3 ≡ done listing k
  pub is : t ≡ tree_of s listing

pub body_run : (s : List ℕ) {t : Tree} {k : ℕ} → run kind.program s 0 ≡ done t k → BodyRun s t k
unfolding R.base
body_run s {t} {k} e =
    let (h, e₁) = byte_taken s 0 _ (ap (λ (p : Prog Tree). run p s 0) (sym mirrored) ∙ e) in
    let (h₁, e₂) = byte_taken s 1 _ e₁ in
    let (h₂, e₃) = byte_taken s 2 _ e₂ in
    let x = run_split (sets (eqb (flag_of s) 1)) (λ x. ret (tree_of s x)) s 3 t k e₃ in
    let (q, n) = run_ret _ s x.middle x.second in
    rw (← n) (record { inside = h₂; listing = x.value; reads = x.first; is = sym q })

-- its record, with the number that stands in the first byte, the sets and the trailing run
abbrev record_of : List ℕ → ℕ → CompatibleSets → Payload → MpegH3dAudio
record_of s profile x r = record {
  profile_level_indication = profile;
  interactivity_enabled = eqb (part 7 1 (get_or s 1 0)) 1;
  compatible_sets = x;
  reserved_flags = part 0 6 (get_or s 1 0);
  reserved_layout = part 6 2 (get_or s 2 0);
  reference_channel_layout = part 0 6 (get_or s 2 0);
  trailing = r;
}

pub record_so : (s : List ℕ) {t : Tree} {k : ℕ} (w : BodyRun s t k) (r : Payload) → kind.top t r ≡ record_of s (part 0 8 (get_or s 0 0)) (sets_of w.listing) r
unfolding kind with_place each
record_so s w r =
    let x = w.listing in
    let e = turned (flag_of s) (part_below 6 1 (get_or s 1 0)) in
    ap (λ (t : Tree). kind.top t r) w.is
    ∙ ap (λ (y : CompatibleSets). record_of s (part 0 8 (get_or s 0 0)) y r)
    ((λ i. record { present = e i; indications = span (offset_of x) (length_of x) }) ∙ sym (sets_flag _ s 3 w.reads))

-- the walk along a body says what it needs
pub sizes_are : (t : Tree) (k : ℕ) → sizes kind (record { tree = t; before = k }) ≡ sized k
unfolding kind tables sizes needs
sizes_are t k = refl

-- ---- the first three bytes, as code finds them

module _ (s : List ℕ) where
  module _ {x : Short} (e : short x ≡ ends (ones 3) s 0) where
    pub three_cut : short x ≡ end_of (run kind.program s 0)
    unfolding kind parse head took ones
    three_cut =
        let q = read_so head blank s 0 ∙ ap (map_out (λ (u : Unit {0}). taken head blank s 0)) (sym e) in
        ap end_of (cut_off (reads head blank) _ (begun kind.program s 0 (omega arith)) (sym q))

    -- such a body is refused before anything else is asked
    pub headless : Measures kind s (too_short x)
    unfolding ones total
    headless = measures_short kind s (omega (arith, ends_few (ones 3) s 0 (sym e))) (as_short (λ u. tt) (run kind.program s 0) (sym three_cut))

  module _ {n : ℕ} (e : done tt n ≡ ends (ones 3) s 0) where
    pub three_there : Past s 0 3 n
    three_there = ones_past 3 s 0 (omega arith) e

    -- and the sets behind them
    pub three_sets : {r : Out (Unit {0})} {v : ℕ} → v ≡ flag_of s → r ≡ end_of (run (sets (eqb v 1)) s n) → r ≡ end_of (run kind.program s 0)
    three_sets q w = w ∙ (λ i. end_of (run (sets (eqb (q i) 1)) s (three_there.is i))) ∙ end_last (sets (eqb (flag_of s) 1)) (tree_of s) (head_there s three_there.inside)

-- ---- a body that was measured: its record

module _ (body : List ℕ) {k : ℕ} (m : Measures kind body (accepted (sized k))) where
  knows : Known kind body (sized k)
  knows = known kind body m

  was_read : BodyRun body knows.sound.tree knows.sound.before
  was_read = body_run body knows.ran.reads

  pub sets_sound : (2 < length body) × (is_done (run (sets (eqb (flag_of body) 1)) body 3) ≡ true)
  sets_sound = (was_read.inside, ap is_done was_read.reads)

  pub tops_are : {l : CompatibleSets} {p : Payload} {t : MpegH3dAudio} (x : ℕ) → get_or body 0 0 < 256 → done l x ≡ map_out sets_of (run (sets (eqb (flag_of body) 1)) body 3)
      → p ≡ tail k body
      → t ≡ record_of body (get_or body 0 0) l p → Tops kind body t
  tops_are {l} {p} {t} x h f g d =
      let z : done l x ≡ done (sets_of was_read.listing) knows.sound.before = f ∙ ap (map_out sets_of) was_read.reads in
      let v : l ≡ sets_of was_read.listing = cc z in
      tops_known kind knows (d ∙ (λ i. record_of body (whole_byte (get_or body 0 0) h i) (v i) (g i)) ∙ sym (record_so body was_read (tail k body)))
