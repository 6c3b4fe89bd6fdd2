-- Laws of rows that are laid out as a syntax table, of every layout that passes one computed test (`proper`): what is written is read, what is read is written, a
-- row means what its actions say, and its columns fit.
use Prim.Native.Nat.{ℕ, zero, suc, ◌+◌, ◌-◌, ◌*◌, ◌/◌, ◌%◌, ◌^◌, ◌≤◌, ◌<◌}
use mathlib.Core.List.{List, [], ◌∷◌, ◌++◌, map, map-append, flatten}
use mathlib.Core.Bool.{Bool, true, false, not, ◌&&◌, ◌||◌}
use mathlib.Core.Logic.{◌⊎◌, inl, inr}
use mathlib.Core.Path.{◌≡◌, refl, sym, ap, subst, ◌∙◌}
use native.Mathlib.Omega.{arith}
use native.Mathlib.Nat.{zero-add}
use lib.ListN.{length, get_or, drop}
use lib.Seq.{slice}
use lib.Dec.{eqb, leb, ltb}
use borrow.Author.Tests.{eqb-true, eq-eqb, leb-true, le-leb, ltb-true, not-true}
use Rattle.wire.specs.Lists.{Every, Byte}
use Rattle.wire.specs.Bits.{is_flag, Field, field, fit, join, split, total, widths}
use Rattle.wire.specs.Prog.{Prog, look, Out, done, short, needing, run, passed, ◌>>=◌}
use Rattle.wire.specs.declared.rows.Payload.{Payload}
use Rattle.wire.specs.Act.{Act, demand, byte, pick}
use Rattle.wire.specs.declared.pen.Fault.TheVariants as F
use Rattle.wire.specs.Pen.{clean, bytes}
use Rattle.wire.specs.Layout.{Cell, num, reserved, flag, unset, less_one, Layout, end, line, word, choose, follows, judged, width, column, stored, loaded, flagged, counted, Columns, set, put, puts, reads, field_of, byte_of, writes, shown, matches, every, has, mix, columns}
use Rattle.wire.proofs.Fields.{wider, fits_cons, cons_fits, split_fits, split_widths, join_split, split_join}
use Rattle.wire.proofs.Lists.{every_head, every_tail, every_left, every_right}
use Rattle.wire.proofs.Writing.Acts.{and_both, both_and, Makes, makes_both, clean_append, clean_both, bytes_append}
use Rattle.wire.proofs.Reading.Runs.{run_split}
use Rattle.wire.proofs.Reading.Blind.{passed_bind}
use Rattle.wire.proofs.Reading.Takes.{Takes, nothing, seen, takes_bind, takes_split, takes_ret}

-- ---- columns

pub or_none : (a b : Bool) → a || b ≡ false → (a ≡ false) × (b ≡ false)
or_none true b e = let z : ◌≡◌ {A = ℕ} 0 1 = cc e in absurd (omega arith)
or_none false b e = (refl, e)

pub none_or : {a b : Bool} → a ≡ false → b ≡ false → a || b ≡ false
none_or e f = rw (e, f)

pub clash : {X : Type 0} {a : Bool} → a ≡ true → a ≡ false → X
clash e f = let z : ◌≡◌ {A = ℕ} 0 1 = cc (sym e ∙ f) in absurd (omega arith)

pub has_append : (j : ℕ) (a b : List ℕ) → has j (a ++ b) ≡ has j a || has j b
unfolding has
has_append j [] b = refl
has_append j (k ∷ a) b = rw (has_append j a b) (go (eqb j k))
  where
    go : (x : Bool) → x || (has j a || has j b) ≡ x || has j a || has j b
    go true = refl
    go false = refl

-- the same in these columns; in all others; no column in both lists
abbrev pub On : List ℕ → Columns → Columns → Type 0
On ks f g = (j : ℕ) → has j ks ≡ true → f j ≡ g j

abbrev pub Off : List ℕ → Columns → Columns → Type 0
Off ks f g = (j : ℕ) → has j ks ≡ false → f j ≡ g j

abbrev pub Apart : List ℕ → List ℕ → Type 0
Apart a b = (j : ℕ) → has j a ≡ true → has j b ≡ false

pub on_none : (f g : Columns) → On [] f g
unfolding has
on_none f g j e = clash e refl

pub on_left : (a b : List ℕ) {f g : Columns} → On (a ++ b) f g → On a f g
on_left a b h j e = h j (has_append j a b ∙ rw e)

pub on_right : (a b : List ℕ) {f g : Columns} → On (a ++ b) f g → On b f g
on_right a b h j e = h j (has_append j a b ∙ rw e (go (has j a)))
  where
    go : (x : Bool) → x || true ≡ true
    go true = refl
    go false = refl

pub either : (a b : Bool) → a || b ≡ true → (a ≡ true) ⊎ (b ≡ true)
either true b e = inl refl
either false b e = inr e

pub on_both : (a b : List ℕ) {f g : Columns} → On a f g → On b f g → On (a ++ b) f g
on_both a b x y j e = elim (either (has j a) (has j b) (sym (has_append j a b) ∙ e)) [ inl h ↦ x j h | inr h ↦ y j h ]

pub mix_in : (ks : List ℕ) (g f : Columns) → On ks (mix ks g f) g
mix_in ks g f j e = rw e

pub mix_out : (ks : List ℕ) (g f : Columns) → Off ks (mix ks g f) f
mix_out ks g f j e = rw e

pub mix_on : (ks a : List ℕ) {g f : Columns} → On a f g → On a (mix ks g f) g
mix_on ks a {g} {f} h j e = go (has j ks)
  where
    go : (b : Bool) → pick b (g j) (f j) ≡ g j
    go true = refl
    go false = h j e

mix_mix : (a b : List ℕ) (g f : Columns) → mix b g (mix a g f) ≡ mix (a ++ b) g f
mix_mix a b g f = λ i j. (go j (has j a) (has j b) ∙ ap (λ (x : Bool). pick x (g j) (f j)) (sym (has_append j a b))) i
  where
    go : (j : ℕ) (x y : Bool) → pick y (g j) (pick x (g j) (f j)) ≡ pick (x || y) (g j) (f j)
    go j true true = refl
    go j true false = refl
    go j false true = refl
    go j false false = refl

pub mix_all : (ks : List ℕ) {g f : Columns} → Off ks f g → mix ks g f ≡ g
mix_all ks {g} {f} h = λ i j. go j (has j ks) refl i
  where
    go : (j : ℕ) (b : Bool) → has j ks ≡ b → pick b (g j) (f j) ≡ g j
    go j true e = refl
    go j false e = h j e

-- ---- the test of a layout

-- all its columns, also those of absent parts
unfoldable pub all : Layout → List ℕ
all end = []
all (line css l) = columns (flatten css) ++ all l
all (word k l) = k ∷ all l
all (choose k is p q l) = (all p ++ all q) ++ all l
all (follows c j t x l) = column c ∷ all l
all (judged p l) = all p ++ all l

unfoldable pub distinct : List ℕ → Bool
distinct [] = true
distinct (k ∷ ks) = not (has k ks) && distinct ks

unfoldable pub free : List ℕ → List ℕ → Bool
free [] b = true
free (k ∷ a) b = not (has k b) && free a b

unfoldable pub eights : List (List Cell) → Bool
eights [] = true
eights (cs ∷ css) = eqb (total (map width cs)) 8 && eights css

-- a flag is a flag, and a count is not 0
abbrev pub sound : Cell → ℕ → Bool
sound c v = flagged c v && counted c v

-- a cell whose column stays below 65536
abbrev pub slim : Cell → Bool
slim (num w k) = leb w 16
slim (reserved w k) = leb w 16
slim (flag k) = true
slim (unset k) = true
slim (less_one w k) = leb w 15

-- what a table has is good for the cell
unfoldable pub suits : Cell → List ℕ → Bool
suits c [] = ltb (stored c 0) (2 ^ width c) && sound c 0
suits c (v ∷ t) = ltb (stored c v) (2 ^ width c) && sound c v && suits c t

-- every byte has eight bits, no column has two cells, and a part is steered by a column that is read before it (the first argument: those that are), as is what a column follows from
unfoldable pub proper : List ℕ → Layout → Bool
proper known end = true
proper known (line css l) = eights css && (distinct (columns (flatten css)) && (free (columns (flatten css)) (all l) && proper (columns (flatten css) ++ known) l))
proper known (word k l) = not (has k (all l)) && proper (k ∷ known) l
proper known (choose k is p q l) = has k known && (proper known p && (proper known q && (free (all p ++ all q) (all l) && proper known l)))
proper known (follows c j t x l) = has j known && ((slim c && suits c t) && (not (has (column c) (all l)) && proper (column c ∷ known) l))
proper known (judged p l) = proper known p && (free (all p) (all l) && proper known l)

pub free_apart : (a b : List ℕ) → free a b ≡ true → Apart a b
unfolding free has
free_apart [] b e j h = clash h refl
free_apart (k ∷ a) b e j h = let (x, y) = and_both (not (has k b)) (free a b) e in elim (either (eqb j k) (has j a) h) [
  | inl q ↦ subst (λ (n : ℕ). has n b ≡ false) (sym (eqb-true j k q)) (not-true (has k b) x)
  | inr q ↦ free_apart a b y j q
]

pub lone : (k : ℕ) (b : List ℕ) → has k b ≡ false → Apart (k ∷ []) b
unfolding has
lone k b h j e = elim (either (eqb j k) false e) [ inl q ↦ subst (λ (n : ℕ). has n b ≡ false) (sym (eqb-true j k q)) h | inr q ↦ clash q refl ]

pub apart_left : (a b c : List ℕ) → Apart a (b ++ c) → Apart a b
apart_left a b c h j e = (or_none (has j b) (has j c) (sym (has_append j b c) ∙ h j e)).0

pub apart_right : (a b c : List ℕ) → Apart a (b ++ c) → Apart a c
apart_right a b c h j e = (or_none (has j b) (has j c) (sym (has_append j b c) ∙ h j e)).1

pub apart_front : (a b c : List ℕ) → Apart (a ++ b) c → Apart a c
apart_front a b c h j e = h j (has_append j a b ∙ rw e)

pub apart_back : (a b c : List ℕ) → Apart (a ++ b) c → Apart b c
apart_back a b c h j e = h j (has_append j a b ∙ rw e (go (has j a)))
  where
    go : (x : Bool) → x || true ≡ true
    go true = refl
    go false = refl

pub apart_both : (a b c : List ℕ) → Apart a c → Apart b c → Apart (a ++ b) c
apart_both a b c x y j e = elim (either (has j a) (has j b) (sym (has_append j a b) ∙ e)) [ inl h ↦ x j h | inr h ↦ y j h ]

-- ---- a byte of cells

-- a flag upside down is a flag if it fits
turned_flag : (v : ℕ) → pick (is_flag v) (1 - v) v < 2 → v ≤ 1
turned_flag v h = go (is_flag v) refl h
  where
    go : (b : Bool) → is_flag v ≡ b → pick b (1 - v) v < 2 → v ≤ 1
    go true e h = leb-true v 1 e
    go false e h = omega arith

back_loaded : (c : Cell) (v : ℕ) → v < 2 ^ width c → stored c (loaded c v) ≡ v
back_loaded (num w k) v h = refl
back_loaded (reserved w k) v h = refl
back_loaded (flag k) v h = refl
back_loaded (unset k) zero h = refl
back_loaded (unset k) (suc zero) h = refl
back_loaded (unset k) (suc (suc v)) h = absurd (omega (arith, h))
back_loaded (less_one w k) v h = omega arith

loaded_back : (c : Cell) (v : ℕ) → sound c v ≡ true → loaded c (stored c v) ≡ v
loaded_back (num w k) v e = refl
loaded_back (reserved w k) v e = refl
loaded_back (flag k) v e = refl
loaded_back (unset k) zero e = refl
loaded_back (unset k) (suc zero) e = refl
loaded_back (unset k) (suc (suc v)) e = let h = leb-true (suc (suc v)) 1 (and_both (is_flag (suc (suc v))) true e).0 in absurd (omega (arith, h))
loaded_back (less_one w k) v e = let h = leb-true 1 v e in omega arith

loaded_counts : (c : Cell) (v : ℕ) → v < 2 ^ width c → sound c (loaded c v) ≡ true
loaded_counts (num w k) v h = refl
loaded_counts (reserved w k) v h = refl
loaded_counts (flag k) v h = both_and (le-leb v 1 (omega (arith, h))) refl
loaded_counts (unset k) v h = both_and (le-leb (1 - v) 1 (omega arith)) refl
loaded_counts (less_one w k) v h = le-leb 1 (v + 1) (omega arith)

suits_all : (c : Cell) (t : List ℕ) (x : ℕ) → suits c t ≡ true → (stored c (get_or t x 0) < 2 ^ width c) × (sound c (get_or t x 0) ≡ true)
unfolding suits
suits_all c [] x e = let (a, b) = and_both (ltb (stored c 0) (2 ^ width c)) _ e in (ltb-true _ _ a, b)
suits_all c (v ∷ t) zero e = let (a, b) = and_both (ltb (stored c v) (2 ^ width c)) _ (and_both (ltb (stored c v) (2 ^ width c) && sound c v) (suits c t) e).0 in (ltb-true _ _ a, b)
suits_all c (v ∷ t) (suc x) e = suits_all c t x (and_both (ltb (stored c v) (2 ^ width c) && sound c v) (suits c t) e).1

widths_of : (g : Columns) (cs : List Cell) → widths (map (field_of g) cs) ≡ map width cs
unfolding widths
widths_of g [] = refl
widths_of g (c ∷ cs) = ap (λ (l : List ℕ). width c ∷ l) (widths_of g cs)

-- the fields of g stored
put_mix : (cs : List Cell) (g f : Columns) → every sound g cs ≡ true → put cs (map (field_of g) cs) f ≡ mix (columns cs) g f
unfolding put every has
put_mix [] g f e = refl
put_mix (c ∷ cs) g f e =
    let (a, b) = and_both (sound c (g (column c))) (every sound g cs) e in
    λ i j. (ap (λ (x : Columns). pick (eqb j (column c)) (loaded c (stored c (g (column c)))) (x j)) (put_mix cs g f b) ∙ go j (eqb j (column c)) refl (loaded_back c (g (column c)) a)) i
  where
    go : (j : ℕ) (x : Bool) → eqb j (column c) ≡ x → loaded c (stored c (g (column c))) ≡ g (column c)
        → pick x (loaded c (stored c (g (column c)))) (mix (columns cs) g f j) ≡ pick (x || has j (columns cs)) (g j) (f j)
    go j true q h = h ∙ ap g (sym (eqb-true j (column c) q))
    go j false q h = refl

pub every_append : (test : Cell → ℕ → Bool) (g : Columns) (a b : List Cell) → every test g (a ++ b) ≡ true → (every test g a ≡ true) × (every test g b ≡ true)
unfolding every
every_append test g [] b e = (refl, e)
every_append test g (c ∷ a) b e =
    let (x, y) = and_both (test c (g (column c))) _ e in
    let (p, q) = every_append test g a b y in
    (both_and x p, q)

pub append_every : (test : Cell → ℕ → Bool) (g : Columns) (a b : List Cell) → every test g a ≡ true → every test g b ≡ true → every test g (a ++ b) ≡ true
unfolding every
append_every test g [] b e h = h
append_every test g (c ∷ a) b e h = let (x, y) = and_both (test c (g (column c))) _ e in both_and x (append_every test g a b y h)

pub every_same : (test : Cell → ℕ → Bool) (cs : List Cell) {f g : Columns} → On (columns cs) f g → every test f cs ≡ every test g cs
unfolding every has
every_same test [] h = refl
every_same test (c ∷ cs) h =
    let q = h (column c) (rw (eq-eqb (column c) (column c) refl)) in
    λ i. test c (q i) && every_same test cs (on_right (column c ∷ []) (columns cs) h) i

-- ---- what is written is read

mix_over : (a b : List ℕ) (g f : Columns) → mix a g (mix b g f) ≡ mix (a ++ b) g f
mix_over a b g f = λ i j. (go j (has j a) (has j b) ∙ ap (λ (x : Bool). pick x (g j) (f j)) (sym (has_append j a b))) i
  where
    go : (j : ℕ) (x y : Bool) → pick x (g j) (pick y (g j) (f j)) ≡ pick (x || y) (g j) (f j)
    go j true y = refl
    go j false y = refl

bytes_long : (g : Columns) (css : List (List Cell)) → length (bytes (map (byte_of g) css)) ≡ length css
unfolding bytes
bytes_long g [] = refl
bytes_long g (cs ∷ css) = ap suc (bytes_long g css)

puts_mix : (css : List (List Cell)) (g f : Columns) → every sound g (flatten css) ≡ true → clean (map (byte_of g) css) ≡ true
    → puts css (bytes (map (byte_of g) css)) f ≡ mix (columns (flatten css)) g f
unfolding puts bytes clean flatten has
puts_mix [] g f h e = refl
puts_mix (cs ∷ css) g f h e =
    let (a, b) = every_append sound g cs (flatten css) h in
    let (x, y) = and_both (fit (map (field_of g) cs)) _ e in
    let q : split (map width cs) (join 0 (map (field_of g) cs)) ≡ map (field_of g) cs = rw (widths_of g cs) at (split_join (map (field_of g) cs) x) in
    (λ i. put cs (q i) (puts_mix css g f b y i)) ∙ put_mix cs g (mix (columns (flatten css)) g f) a ∙ mix_over (columns cs) (columns (flatten css)) g f
    ∙ ap (λ (l : List ℕ). mix l g f) (sym (map-append column cs (flatten css)))

mixed : (a b : List Cell) (g f : Columns) → mix (columns b) g (mix (columns a) g f) ≡ mix (columns (a ++ b)) g f
mixed a b g f = mix_mix (columns a) (columns b) g f ∙ ap (λ (l : List ℕ). mix l g f) (sym (map-append column a b))

-- flags and counts are good, and what has to match matches
abbrev pub Fine : Layout → Columns → Type 0
Fine l g = (every sound g (shown l g) ≡ true) × (clean (matches l g) ≡ true)

abbrev Forth : List ℕ → Layout → Type 0
Forth known l = (f g : Columns) → On known f g → Fine l g → clean (writes l g) ≡ true → (at : ℕ) → Takes (reads l f) at (mix (columns (shown l g)) g f) (bytes (writes l g))

-- one part and what comes after it
part_forth : (known : List ℕ) (a l : Layout) → Forth known a → Forth known l → (f g : Columns) → On known f g → every sound g (shown a g ++ shown l g) ≡ true
    → clean (matches a g ++ matches l g) ≡ true
    → clean (writes a g ++ writes l g) ≡ true → (at : ℕ) → Takes (reads a f >>= λ x. reads l x) at (mix (columns (shown a g ++ shown l g)) g f) (bytes (writes a g ++ writes l g))
part_forth known a l x y f g o h m e at =
    let (h₀, h₁) = every_append sound g (shown a g) (shown l g) h in
    let (m₀, m₁) = clean_both (matches a g) (matches l g) m in
    let (e₀, e₁) = clean_both (writes a g) (writes l g) e in
    let t =
    takes_bind (λ x. reads l x) (x f g o (h₀, m₀) e₀ at)
    (y (mix (columns (shown a g)) g f) g (mix_on (columns (shown a g)) known o) (h₁, m₁) e₁ (at + length (bytes (writes a g)))) in
    rw (bytes_append (writes a g) (writes l g))
    (subst (λ (x : Columns). Takes (reads a f >>= λ x. reads l x) at x (bytes (writes a g) ++ bytes (writes l g))) (mixed (shown a g) (shown l g) g f) t)

choice_forth : (known : List ℕ) (a c l : Layout) → Forth known a → Forth known c → Forth known l → (f g : Columns) → On known f g → (b d : Bool) → d ≡ b
    → every sound g (pick b (shown a g) (shown c g) ++ shown l g) ≡ true
    → clean (pick b (matches a g) (matches c g) ++ matches l g) ≡ true → clean (pick b (writes a g) (writes c g) ++ writes l g) ≡ true → (at : ℕ)
    → Takes (pick d (reads a f) (reads c f) >>= λ x. reads l x) at (mix (columns (pick b (shown a g) (shown c g) ++ shown l g)) g f)
    (bytes (pick b (writes a g) (writes c g) ++ writes l g))
choice_forth known a c l x y z f g o true d q h m e at = rw q (part_forth known a l x z f g o h m e at)
choice_forth known a c l x y z f g o false d q h m e at = rw q (part_forth known c l y z f g o h m e at)

set_mix : (k v : ℕ) (g f : Columns) → v ≡ g k → set k v f ≡ mix (k ∷ []) g f
unfolding has
set_mix k v g f e = λ i j. go j (eqb j k) refl i
  where
    go : (j : ℕ) (b : Bool) → eqb j k ≡ b → pick b v (f j) ≡ pick (b || false) (g j) (f j)
    go j true q = e ∙ ap g (sym (eqb-true j k q))
    go j false q = refl

pub forth : (known : List ℕ) (l : Layout) → proper known l ≡ true → Forth known l
unfolding proper reads shown writes matches has bytes clean every fit join
forth known end p f g o h e at = nothing
forth known (line css l) p f g o h e at =
    let (p₀, p₁) = and_both (eights css) _ p in
    let (p₂, p₃) = and_both (distinct (columns (flatten css))) _ p₁ in
    let (p₄, p₅) = and_both (free (columns (flatten css)) (all l)) _ p₃ in
    let (h₀, h₁) = every_append sound g (flatten css) (shown l g) h.0 in
    let (e₀, e₁) = clean_both (map (byte_of g) css) (writes l g) e in
    let ks = columns (flatten css) in
    let m : Columns = mix ks g f in
    let q = forth (ks ++ known) l p₅ m g (on_both ks known (mix_in ks g f) (mix_on ks known o)) (h₁, h.1) e₁ (at + length css) in
    let r : Takes (reads l (puts css (bytes (map (byte_of g) css)) f)) (at + length css) (mix (columns (shown l g)) g m) (bytes (writes l g)) = rw (puts_mix css g f h₀ e₀) q in
    rw (← mixed (flatten css) (shown l g) g f) (seen (bytes (map (byte_of g) css)) (bytes (writes l g)) (bytes_long g css) (bytes_append (map (byte_of g) css) (writes l g)) r)
forth known (word k l) p f g o h e at =
    let (p₀, p₁) = and_both (not (has k (all l))) _ p in
    let (e₀, e₁) = and_both (fit (field 8 (g k / 256) ∷ [])) _ e in
    let (e₂, e₃) = and_both (fit (field 8 (g k % 256) ∷ [])) _ e₁ in
    let m : Columns = mix (k ∷ []) g f in
    let q = forth (k ∷ known) l p₁ m g (on_both (k ∷ []) known (mix_in (k ∷ []) g f) (mix_on (k ∷ []) known o)) (h.0, h.1) e₃ (at + 1 + 1) in
    let v : g k / 256 * 256 + g k % 256 ≡ g k = omega arith in
    let r : Takes (reads l (set k (g k / 256 * 256 + g k % 256) f)) (at + 1 + 1) (mix (columns (shown l g)) g m) (bytes (writes l g)) = rw (set_mix k (g k / 256 * 256 + g k % 256) g f v) q in
    rw (← mixed (num 16 k ∷ []) (shown l g) g f)
    (seen (g k / 256 ∷ []) (g k % 256 ∷ bytes (writes l g)) refl (λ i. zero-add (g k / 256) i ∷ zero-add (g k % 256) i ∷ bytes (writes l g)) (seen (g k % 256 ∷ []) (bytes (writes l g)) refl refl r))
forth known (choose k is a c l) p f g o h e at =
    let (p₀, p₁) = and_both (has k known) _ p in
    let (p₂, p₃) = and_both (proper known a) _ p₁ in
    let (p₄, p₅) = and_both (proper known c) _ p₃ in
    let (p₆, p₇) = and_both (free (all a ++ all c) (all l)) _ p₅ in
    choice_forth known a c l (forth known a p₂) (forth known c p₄) (forth known l p₇) f g o (is (g k)) (is (f k)) (ap is (o k p₀)) h.0 h.1 e at
forth known (follows c j t x l) p f g o h e at =
    let (p₀, p₁) = and_both (has j known) _ p in
    let (p₂, p₃) = and_both (slim c && suits c t) _ p₁ in
    let (p₄, p₅) = and_both (not (has (column c) (all l))) _ p₃ in
    let (_, h₁) = and_both (sound c (g (column c))) _ h.0 in
    let (m₀, m₁) = and_both (eqb (g (column c)) (get_or t (g j) 0)) _ h.1 in
    let ks = column c ∷ [] in
    let m : Columns = mix ks g f in
    let v : get_or t (f j) 0 ≡ g (column c) = ap (λ (n : ℕ). get_or t n 0) (o j p₀) ∙ sym (eqb-true _ _ m₀) in
    let q = forth (column c ∷ known) l p₅ m g (on_both ks known (mix_in ks g f) (mix_on ks known o)) (h₁, m₁) e at in
    rw (set_mix (column c) (get_or t (f j) 0) g f v, ← mixed (c ∷ []) (shown l g) g f) q
forth known (judged a l) p f g o h e at =
    let (p₀, p₁) = and_both (proper known a) _ p in
    let (p₂, p₃) = and_both (free (all a) (all l)) _ p₁ in
    let (e₀, e₁) = and_both (fit (map (field_of g) (shown a g))) _ e in
    part_forth known a l (forth known a p₀) (forth known l p₃) f g o h.0 h.1 e₁ at

-- ---- actions look at the cells that stand in the body, and at the flags that steer them

fields_same : (cs : List Cell) {f g : Columns} → On (columns cs) f g → map (field_of f) cs ≡ map (field_of g) cs
unfolding has
fields_same [] h = refl
fields_same (c ∷ cs) h =
    let q = h (column c) (rw (eq-eqb (column c) (column c) refl)) in
    λ i. field (width c) (stored c (q i)) ∷ fields_same cs (on_right (column c ∷ []) (columns cs) h) i

pub cells_on : (a b : List Cell) {f g : Columns} → On (columns (a ++ b)) f g → On (columns a) f g × On (columns b) f g
cells_on a b {f} {g} h =
    let o : On (columns a ++ columns b) f g = subst (λ (l : List ℕ). On l f g) (map-append column a b) h in
    (on_left (columns a) (columns b) o, on_right (columns a) (columns b) o)

bytes_same : (css : List (List Cell)) {f g : Columns} → On (columns (flatten css)) f g → map (byte_of f) css ≡ map (byte_of g) css
unfolding flatten
bytes_same [] h = refl
bytes_same (cs ∷ css) h = let (a, b) = cells_on cs (flatten css) h in λ i. byte (fields_same cs a i) ∷ bytes_same css b i

pub record Same (l : Layout) (f g : Columns) : Type 0 where
  pub acts : writes l f ≡ writes l g
  pub cells : shown l f ≡ shown l g
  pub matched : matches l f ≡ matches l g

record Both (a l : Layout) (c : Layout) (b d : Bool) (f g : Columns) : Type 0 where
  acts : pick b (writes a f) (writes c f) ++ writes l f ≡ pick d (writes a g) (writes c g) ++ writes l g
  cells : pick b (shown a f) (shown c f) ++ shown l f ≡ pick d (shown a g) (shown c g) ++ shown l g
  matched : pick b (matches a f) (matches c f) ++ matches l f ≡ pick d (matches a g) (matches c g) ++ matches l g

choice_same : (a c l : Layout) (f g : Columns) (b d : Bool) → b ≡ d → (b ≡ true → Same a f g) → (b ≡ false → Same c f g) → Same l f g → Both a l c b d f g
choice_same a c l f g true d q x z y = let s = x refl in rw (← q) (record { acts = λ i. s.acts i ++ y.acts i; cells = λ i. s.cells i ++ y.cells i; matched = λ i. s.matched i ++ y.matched i })
choice_same a c l f g false d q x z y = let s = z refl in rw (← q) (record { acts = λ i. s.acts i ++ y.acts i; cells = λ i. s.cells i ++ y.cells i; matched = λ i. s.matched i ++ y.matched i })

pub same : (known : List ℕ) (l : Layout) → proper known l ≡ true → (f g : Columns) → On known f g → On (columns (shown l f)) f g → Same l f g
unfolding proper writes shown matches has
same known end p f g o h = record { acts = refl; cells = refl; matched = refl }
same known (line css l) p f g o h =
    let (p₀, p₁) = and_both (eights css) _ p in
    let (p₂, p₃) = and_both (distinct (columns (flatten css))) _ p₁ in
    let (p₄, p₅) = and_both (free (columns (flatten css)) (all l)) _ p₃ in
    let (a, b) = cells_on (flatten css) (shown l f) h in
    let s = same (columns (flatten css) ++ known) l p₅ f g (on_both (columns (flatten css)) known a o) b in
    record { acts = λ i. bytes_same css a i ++ s.acts i; cells = λ i. flatten css ++ s.cells i; matched = s.matched }
same known (word k l) p f g o h =
    let (p₀, p₁) = and_both (not (has k (all l))) _ p in
    let (a, b) = cells_on (num 16 k ∷ []) (shown l f) h in
    let s = same (k ∷ known) l p₁ f g (on_both (k ∷ []) known a o) b in
    let q : f k ≡ g k = a k (rw (eq-eqb k k refl)) in
    record { acts = λ i. byte (field 8 (q i / 256) ∷ []) ∷ byte (field 8 (q i % 256) ∷ []) ∷ s.acts i; cells = λ i. num 16 k ∷ s.cells i; matched = s.matched }
same known (choose k is a c l) p f g o h =
    let (p₀, p₁) = and_both (has k known) _ p in
    let (p₂, p₃) = and_both (proper known a) _ p₁ in
    let (p₄, p₅) = and_both (proper known c) _ p₃ in
    let (p₆, p₇) = and_both (free (all a ++ all c) (all l)) _ p₅ in
    let (x, y) = cells_on (pick (is (f k)) (shown a f) (shown c f)) (shown l f) h in
    let r = choice_same a c l f g (is (f k)) (is (g k)) (ap is (o k p₀)) (λ e. same known a p₂ f g o (subst (λ (b : Bool). On (columns (pick b (shown a f) (shown c f))) f g) e x))
    (λ e. same known c p₄ f g o (subst (λ (b : Bool). On (columns (pick b (shown a f) (shown c f))) f g) e x)) (same known l p₇ f g o y) in
    record { acts = r.acts; cells = r.cells; matched = r.matched }
same known (follows c j t x l) p f g o h =
    let (p₀, p₁) = and_both (has j known) _ p in
    let (p₂, p₃) = and_both (slim c && suits c t) _ p₁ in
    let (p₄, p₅) = and_both (not (has (column c) (all l))) _ p₃ in
    let (a, b) = cells_on (c ∷ []) (shown l f) h in
    let s = same (column c ∷ known) l p₅ f g (on_both (column c ∷ []) known a o) b in
    let q : f (column c) ≡ g (column c) = a (column c) (rw (eq-eqb (column c) (column c) refl)) in
    let r : f j ≡ g j = o j p₀ in
    record { acts = s.acts; cells = λ i. c ∷ s.cells i; matched = λ i. demand x (eqb (q i) (get_or t (r i) 0)) ∷ s.matched i }
same known (judged a l) p f g o h =
    let (p₀, p₁) = and_both (proper known a) _ p in
    let (p₂, p₃) = and_both (free (all a) (all l)) _ p₁ in
    let (x, y) = cells_on (shown a f) (shown l f) h in
    let s = same known a p₀ f g o x in
    let t = same known l p₃ f g o y in
    let q : map (field_of f) (shown a f) ≡ map (field_of g) (shown a g) = fields_same (shown a f) x ∙ ap (map (field_of g)) s.cells in
    record { acts = λ i. demand F.Field (fit (q i)) ∷ s.acts i ++ t.acts i; cells = λ i. s.cells i ++ t.cells i; matched = λ i. s.matched i ++ t.matched i }

-- ---- what is read is written

pub columns_none : (j : ℕ) (a b : List Cell) → has j (columns a) ≡ false → has j (columns b) ≡ false → has j (columns (a ++ b)) ≡ false
columns_none j a b x y = rw (map-append column a b, has_append j (columns a) (columns b)) (none_or x y)

pub none_columns : (j : ℕ) (a b : List Cell) → has j (columns (a ++ b)) ≡ false → (has j (columns a) ≡ false) × (has j (columns b) ≡ false)
none_columns j a b e = or_none (has j (columns a)) (has j (columns b)) (sym (has_append j (columns a) (columns b)) ∙ rw (map-append column a b) at e)

pub shown_in : (l : Layout) (g : Columns) (j : ℕ) → has j (all l) ≡ false → has j (columns (shown l g)) ≡ false
unfolding all shown has
shown_in end g j e = refl
shown_in (line css l) g j e = let (a, b) = or_none (has j (columns (flatten css))) (has j (all l)) (sym (has_append j (columns (flatten css)) (all l)) ∙ e) in columns_none j (flatten css) (shown l g) a (shown_in l g j b)
shown_in (word k l) g j e = let (a, b) = or_none (eqb j k) (has j (all l)) e in none_or a (shown_in l g j b)
shown_in (choose k is p q l) g j e =
    let (a, b) = or_none (has j (all p ++ all q)) (has j (all l)) (sym (has_append j (all p ++ all q) (all l)) ∙ e) in
    let (c, d) = or_none (has j (all p)) (has j (all q)) (sym (has_append j (all p) (all q)) ∙ a) in
    columns_none j (pick (is (g k)) (shown p g) (shown q g)) (shown l g) (go (is (g k)) (shown_in p g j c) (shown_in q g j d)) (shown_in l g j b)
  where
    go : (b : Bool) → has j (columns (shown p g)) ≡ false → has j (columns (shown q g)) ≡ false → has j (columns (pick b (shown p g) (shown q g))) ≡ false
    go true x y = x
    go false x y = y
shown_in (follows c i t x l) g j e = let (a, b) = or_none (eqb j (column c)) (has j (all l)) e in none_or a (shown_in l g j b)
shown_in (judged p l) g j e = let (a, b) = or_none (has j (all p)) (has j (all l)) (sym (has_append j (all p) (all l)) ∙ e) in columns_none j (shown p g) (shown l g) (shown_in p g j a) (shown_in l g j b)

-- columns that the layout does not have stay
pub stay : (ks : List ℕ) (l : Layout) {f g : Columns} (x : Columns) → Apart ks (all l) → Off (columns (shown l x)) f g → On ks f g
stay ks l x a h j e = h j (shown_in l x j (a j e))

pub put_else : (cs : List Cell) (fs : List Field) (f : Columns) → Off (columns cs) (put cs fs f) f
unfolding put has
put_else [] fs f j e = refl
put_else (c ∷ cs) [] f j e = refl
put_else (c ∷ cs) (field w v ∷ fs) f j e = let (a, b) = or_none (eqb j (column c)) (has j (columns cs)) e in rw a (put_else cs fs f j b)

put_back : (cs : List Cell) (fs : List Field) → widths fs ≡ map width cs → fit fs ≡ true → distinct (columns cs) ≡ true → (f g : Columns)
    → On (columns cs) (put cs fs f) g → (map (field_of g) cs ≡ fs) × (every sound g cs ≡ true)
unfolding widths distinct put every has
put_back [] [] q z d f g o = (refl, refl)
put_back [] (field w v ∷ fs) q z d f g o = let z : ◌≡◌ {A = ℕ} 0 1 = cc q in absurd (omega arith)
put_back (c ∷ cs) [] q z d f g o = let z : ◌≡◌ {A = ℕ} 0 1 = cc q in absurd (omega arith)
put_back (c ∷ cs) (field w v ∷ fs) q z d f g o =
    let (d₀, d₁) = and_both (not (has (column c) (columns cs))) _ d in
    let n = not-true _ d₀ in
    let qw : w ≡ width c = cc q in
    let qs : widths fs ≡ map width cs = cc q in
    let k : eqb (column c) (column c) ≡ true = eq-eqb (column c) (column c) refl in
    let (z₀, z₁) = fits_cons w v fs z in
    let l : v < 2 ^ width c = rw qw at z₀ in
    let r : loaded c v ≡ g (column c) = rw k at (o (column c) (rw k)) in
    let (a, b) = put_back cs fs qs z₁ d₁ f g (rest n o) in
    ((λ i. field (sym qw i) ((ap (stored c) (sym r) ∙ back_loaded c v l) i) ∷ a i), both_and (subst (λ (x : ℕ). sound c x ≡ true) r (loaded_counts c v l)) b)
  where
    rest : has (column c) (columns cs) ≡ false → On (column c ∷ columns cs) (set (column c) (loaded c v) (put cs fs f)) g → On (columns cs) (put cs fs f) g
    rest n o j e = go (eqb j (column c)) refl
      where
        go : (x : Bool) → eqb j (column c) ≡ x → put cs fs f j ≡ g j
        go true q = clash e (subst (λ (m : ℕ). has m (columns cs) ≡ false) (sym (eqb-true j (column c) q)) n)
        go false q = let r : put cs fs f j ≡ g j = rw q at (o j (rw q e)) in r

distinct_append : (a b : List ℕ) → distinct (a ++ b) ≡ true → (distinct a ≡ true) × (free a b ≡ true) × (distinct b ≡ true)
unfolding distinct free
distinct_append [] b e = (refl, refl, e)
distinct_append (k ∷ a) b e =
    let (x, y) = and_both (not (has k (a ++ b))) _ e in
    let (p, q, r) = distinct_append a b y in
    let (m, n) = or_none (has k a) (has k b) (sym (has_append k a b) ∙ not-true _ x) in
    (both_and (ap not m) p, both_and (ap not n) q, r)

pub puts_else : (css : List (List Cell)) (xs : List ℕ) (f : Columns) → Off (columns (flatten css)) (puts css xs f) f
unfolding puts flatten
puts_else [] xs f j e = refl
puts_else (cs ∷ css) xs f j e = let (a, b) = none_columns j cs (flatten css) e in put_else cs _ (puts css (drop 1 xs) f) j a ∙ puts_else css (drop 1 xs) f j b

puts_back : (css : List (List Cell)) (xs : List ℕ) → length xs ≡ length css → eights css ≡ true → distinct (columns (flatten css)) ≡ true → (f g : Columns)
    → On (columns (flatten css)) (puts css xs f) g
    → (Every Byte xs → Makes (map (byte_of g) css) xs) × (every sound g (flatten css) ≡ true)
unfolding eights puts flatten clean bytes every
puts_back [] [] n w d f g o = ((λ h. record { sound = refl; is = refl }), refl)
puts_back [] (x ∷ xs) n w d f g o = absurd (omega (arith, n))
puts_back (cs ∷ css) [] n w d f g o = absurd (omega (arith, n))
puts_back (cs ∷ css) (x ∷ xs) n w d f g o =
    let (w₀, w₁) = and_both (eqb (total (map width cs)) 8) _ w in
    let (d₀, d₁, d₂) = distinct_append (columns cs) (columns (flatten css)) (rw (map-append column cs (flatten css)) at d) in
    let (o₀, o₁) = cells_on cs (flatten css) o in
    let ap' = free_apart (columns cs) (columns (flatten css)) d₁ in
    let (p, q) = put_back cs (split (map width cs) x) (split_widths (map width cs) x) (split_fits (map width cs) x) d₀ (puts css xs f) g o₀ in
    let (m, r) = puts_back css xs (omega (arith, n)) w₁ d₂ f g (later ap' o₁) in
    let s : fit (map (field_of g) cs) ≡ true = rw p (split_fits (map width cs) x) in
    let t : total (map width cs) ≡ 8 = eqb-true _ 8 w₀ in
    let j : x < 256 → join 0 (map (field_of g) cs) ≡ x = λ b. rw p (join_split (map width cs) x (rw t b)) in
    let mk : Every Byte (x ∷ xs) → Makes (map (byte_of g) (cs ∷ css)) (x ∷ xs) = λ h. let y = m (every_tail Byte h) in record { sound = both_and s y.sound; is = λ i. sym (j (every_head Byte h)) i ∷ y.is i } in
    (mk, append_every sound g cs (flatten css) q r)
  where
    later : Apart (columns cs) (columns (flatten css)) → On (columns (flatten css)) (put cs (split (map width cs) x) (puts css xs f)) g
        → On (columns (flatten css)) (puts css xs f) g
    later a o j e = go (has j (columns cs)) refl
      where
        go : (y : Bool) → has j (columns cs) ≡ y → puts css xs f j ≡ g j
        go true q = clash e (a j q)
        go false q = sym (put_else cs (split (map width cs) x) (puts css xs f) j q) ∙ o j e

-- ---- what no fault says of the cells that have a value

pub fit_both : (a b : List Cell) (g : Columns) → fit (map (field_of g) a) ≡ true → fit (map (field_of g) b) ≡ true → fit (map (field_of g) (a ++ b)) ≡ true
unfolding fit
fit_both [] b g x y = y
fit_both (c ∷ a) b g x y = let (p, q) = fits_cons (width c) (stored c (g (column c))) (map (field_of g) a) x in cons_fits (width c) (stored c (g (column c))) (map (field_of g) (a ++ b)) p (fit_both a b g q y)

bytes_fit : (css : List (List Cell)) (g : Columns) → clean (map (byte_of g) css) ≡ true → fit (map (field_of g) (flatten css)) ≡ true
unfolding clean flatten fit
bytes_fit [] g e = refl
bytes_fit (cs ∷ css) g e = let (a, b) = and_both (fit (map (field_of g) cs)) _ e in fit_both cs (flatten css) g a (bytes_fit css g b)

pub all_fit : (known : List ℕ) (l : Layout) → proper known l ≡ true → (g : Columns) → clean (matches l g) ≡ true → clean (writes l g) ≡ true
    → fit (map (field_of g) (shown l g)) ≡ true
unfolding proper writes shown matches fit clean
all_fit known end p g m e = refl
all_fit known (line css l) p g m e =
    let (p₀, p₁) = and_both (eights css) _ p in
    let (p₂, p₃) = and_both (distinct (columns (flatten css))) _ p₁ in
    let (p₄, p₅) = and_both (free (columns (flatten css)) (all l)) _ p₃ in
    let (a, b) = clean_both (map (byte_of g) css) (writes l g) e in
    fit_both (flatten css) (shown l g) g (bytes_fit css g a) (all_fit (columns (flatten css) ++ known) l p₅ g m b)
all_fit known (word k l) p g m e =
    let (p₀, p₁) = and_both (not (has k (all l))) _ p in
    let (e₀, e₁) = and_both (fit (field 8 (g k / 256) ∷ [])) _ e in
    let (e₂, e₃) = and_both (fit (field 8 (g k % 256) ∷ [])) _ e₁ in
    let (h, _) = fits_cons 8 (g k / 256) [] e₀ in
    let w : g k < 2 ^ 16 = omega (arith, h) in
    cons_fits 16 (g k) (map (field_of g) (shown l g)) w (all_fit (k ∷ known) l p₁ g m e₃)
all_fit known (choose k is a c l) p g m e =
    let (p₀, p₁) = and_both (has k known) _ p in
    let (p₂, p₃) = and_both (proper known a) _ p₁ in
    let (p₄, p₅) = and_both (proper known c) _ p₃ in
    let (p₆, p₇) = and_both (free (all a ++ all c) (all l)) _ p₅ in
    let (m₀, m₁) = clean_both (pick (is (g k)) (matches a g) (matches c g)) (matches l g) m in
    let (e₀, e₁) = clean_both (pick (is (g k)) (writes a g) (writes c g)) (writes l g) e in
    fit_both (pick (is (g k)) (shown a g) (shown c g)) (shown l g) g (go (is (g k)) (all_fit known a p₂ g) (all_fit known c p₄ g) m₀ e₀) (all_fit known l p₇ g m₁ e₁)
  where
    go : (b : Bool) → (clean (matches a g) ≡ true → clean (writes a g) ≡ true → fit (map (field_of g) (shown a g)) ≡ true)
        → (clean (matches c g) ≡ true → clean (writes c g) ≡ true → fit (map (field_of g) (shown c g)) ≡ true)
        → clean (pick b (matches a g) (matches c g)) ≡ true → clean (pick b (writes a g) (writes c g)) ≡ true → fit (map (field_of g) (pick b (shown a g) (shown c g))) ≡ true
    go true x y = x
    go false x y = y
all_fit known (follows c j t x l) p g m e =
    let (p₀, p₁) = and_both (has j known) _ p in
    let (p₂, p₃) = and_both (slim c && suits c t) _ p₁ in
    let (p₄, p₅) = and_both (not (has (column c) (all l))) _ p₃ in
    let (m₀, m₁) = and_both (eqb (g (column c)) (get_or t (g j) 0)) _ m in
    let w = (suits_all c t (g j) (and_both (slim c) (suits c t) p₂).1).0 in
    cons_fits (width c) (stored c (g (column c))) (map (field_of g) (shown l g)) (rw (eqb-true (g (column c)) (get_or t (g j) 0) m₀) w) (all_fit (column c ∷ known) l p₅ g m₁ e)
all_fit known (judged a l) p g m e =
    let (p₀, p₁) = and_both (proper known a) _ p in
    let (p₂, p₃) = and_both (free (all a) (all l)) _ p₁ in
    let (e₀, e₁) = and_both (fit (map (field_of g) (shown a g))) _ e in
    let (m₀, m₁) = clean_both (matches a g) (matches l g) m in
    let (e₂, e₃) = clean_both (writes a g) (writes l g) e₁ in
    fit_both (shown a g) (shown l g) g e₀ (all_fit known l p₃ g m₁ e₃)

-- ---- what is read is written

-- g was read, from f on: its actions make these bytes, and the other columns are those of f
pub record Back (l : Layout) (f g : Columns) (bs : List ℕ) : Type 0 where
  pub makes : Every Byte bs → Makes (writes l g) bs
  pub fine : Fine l g
  pub rest : Off (columns (shown l g)) f g

abbrev Backs : Layout → Type 0
Backs l = (f g : Columns) (at : ℕ) (bs : List ℕ) → Takes (reads l f) at g bs → Back l f g bs

-- of one part and what comes after it
record Part (a l : Layout) (f g : Columns) (bs : List ℕ) : Type 0 where
  makes : Every Byte bs → Makes (writes a g ++ writes l g) bs
  first : Every Byte bs → clean (writes a g) ≡ true
  sounds : every sound g (shown a g ++ shown l g) ≡ true
  agrees : clean (matches a g ++ matches l g) ≡ true
  rest : Off (columns (shown a g ++ shown l g)) f g

part_back : (known : List ℕ) (a l : Layout) → proper known a ≡ true → Backs a → Backs l → Apart known (all l) → Apart (all a) (all l) → (f g : Columns) (at : ℕ) (bs : List ℕ)
    → Takes (reads a f >>= λ x. reads l x) at g bs → Part a l f g bs
part_back known a l p x y k d f g at bs t =
    let u = takes_split (reads a f) (λ x. reads l x) t in
    let m = u.value in
    let v = x f m at u.front u.first in
    let w = y m g (at + length u.front) u.back u.second in
    let o : On (columns (shown a m)) m g = within m w.rest in
    let s = same known a p m g (stay known l g k w.rest) o in
    let c : every sound g (shown a g) ≡ true = subst (λ (cs : List Cell). every sound g cs ≡ true) s.cells (sym (every_same sound (shown a m) o) ∙ v.fine.0) in
    let h : clean (matches a g) ≡ true = ap clean (sym s.matched) ∙ v.fine.1 in
    let one : Every Byte (u.front ++ u.back) → Makes (writes a g) u.front = λ h. subst (λ (q : List Act). Makes q u.front) s.acts (v.makes (every_left Byte u.front u.back h)) in
    let mk : Every Byte (u.front ++ u.back) → Makes (writes a g ++ writes l g) (u.front ++ u.back) = λ h. makes_both (one h) (w.makes (every_right Byte u.front u.back h)) in
    record {
      makes = subst (λ (b : List ℕ). Every Byte b → Makes (writes a g ++ writes l g) b) (sym u.joined) mk;
      first = λ h. (one (rw u.joined at h)).sound;
      sounds = append_every sound g (shown a g) (shown l g) c w.fine.0;
      agrees = clean_append (matches a g) (matches l g) ∙ both_and h w.fine.1;
      rest = λ j e. let (i, n) = none_columns j (shown a g) (shown l g) e in v.rest j (subst (λ (cs : List Cell). has j (columns cs) ≡ false) (sym s.cells) i) ∙ w.rest j n;
    }
  where
    within : (m : Columns) → Off (columns (shown l g)) m g → On (columns (shown a m)) m g
    within m r j e = go (has j (all a)) refl
      where
        go : (b : Bool) → has j (all a) ≡ b → m j ≡ g j
        go true q = r j (shown_in l g j (d j q))
        go false q = clash e (shown_in a m j q)

-- the same of one of two parts
record Choice (b : Bool) (a c l : Layout) (f g : Columns) (bs : List ℕ) : Type 0 where
  makes : Every Byte bs → Makes (pick b (writes a g) (writes c g) ++ writes l g) bs
  sounds : every sound g (pick b (shown a g) (shown c g) ++ shown l g) ≡ true
  agrees : clean (pick b (matches a g) (matches c g) ++ matches l g) ≡ true
  rest : Off (columns (pick b (shown a g) (shown c g) ++ shown l g)) f g

choice_back : (known : List ℕ) (a c l : Layout) → proper known a ≡ true → proper known c ≡ true → Backs a → Backs c → Backs l → Apart known (all l)
    → Apart (all a) (all l) → Apart (all c) (all l) → (b : Bool) (f g : Columns) (at : ℕ) (bs : List ℕ)
    → Takes (pick b (reads a f) (reads c f) >>= λ x. reads l x) at g bs → Choice b a c l f g bs
choice_back known a c l p q x z y k d d' true f g at bs t = let r = part_back known a l p x y k d f g at bs t in record { makes = r.makes; sounds = r.sounds; agrees = r.agrees; rest = r.rest }
choice_back known a c l p q x z y k d d' false f g at bs t = let r = part_back known c l q z y k d' f g at bs t in record { makes = r.makes; sounds = r.sounds; agrees = r.agrees; rest = r.rest }

choice_none : (a c l : Layout) (g : Columns) (j : ℕ) → has j (all a) ≡ false → has j (all c) ≡ false → has j (all l) ≡ false → (b : Bool)
    → has j (columns (pick b (shown a g) (shown c g) ++ shown l g)) ≡ false
choice_none a c l g j x z y true = columns_none j (shown a g) (shown l g) (shown_in a g j x) (shown_in l g j y)
choice_none a c l g j x z y false = columns_none j (shown c g) (shown l g) (shown_in c g j z) (shown_in l g j y)

pub set_else : (k v : ℕ) (f : Columns) (j : ℕ) → eqb j k ≡ false → set k v f j ≡ f j
set_else k v f j e = rw e

-- a column that is set and stays
set_stays : (k v : ℕ) (l : Layout) (f g : Columns) → has k (all l) ≡ false → Off (columns (shown l g)) (set k v f) g
    → (v ≡ g k) × ((j : ℕ) → has j (k ∷ columns (shown l g)) ≡ false → f j ≡ g j)
unfolding has
set_stays k v l f g n w =
    let e : eqb k k ≡ true = eq-eqb k k refl in
    let q : set k v f k ≡ g k = w k (shown_in l g k n) in
    let q' : v ≡ g k = rw e at q in
    (q', λ j h. let (a, b) = or_none (eqb j k) _ h in let r : set k v f j ≡ g j = w j b in rw a at r)

-- what a look took
pub record Looked {A : Type 0} (n : ℕ) (k : List ℕ → Prog A) (at : ℕ) (a : A) (bs : List ℕ) : Type 0 where
  pub front : List ℕ
  pub back : List ℕ
  pub long : length front ≡ n
  pub joined : bs ≡ front ++ back
  pub on : Takes (k front) (at + n) a back

pub looked : {A : Type 0} {n : ℕ} {k : List ℕ → Prog A} {at : ℕ} {a : A} {bs : List ℕ} → Takes (look n k) at a bs → Looked n k at a bs
looked (seen xs r n q t) = record { front = xs; back = r; long = n; joined = q; on = t }

two_bytes : (xs : List ℕ) → length xs ≡ 1 → xs ≡ get_or xs 0 0 ∷ []
two_bytes [] e = absurd (omega (arith, e))
two_bytes (x ∷ []) e = refl
two_bytes (x ∷ y ∷ xs) e = absurd (omega (arith, e))

pub back : (known : List ℕ) (l : Layout) → proper known l ≡ true → Apart known (all l) → Backs l
unfolding proper reads shown writes matches all has clean bytes every fit join
back known end p k f g at bs t =
    let (e, z) = takes_ret t in
    record { makes = λ h. record { sound = refl; is = z }; fine = (refl, refl); rest = λ j n. ap (λ (x : Columns). x j) e }
back known (line css l) p k f g at bs (seen xs r n q t) =
    let (p₀, p₁) = and_both (eights css) _ p in
    let (p₂, p₃) = and_both (distinct (columns (flatten css))) _ p₁ in
    let (p₄, p₅) = and_both (free (columns (flatten css)) (all l)) _ p₃ in
    let ks = columns (flatten css) in
    let a = free_apart ks (all l) p₄ in
    let w = back (ks ++ known) l p₅ (apart_both ks known (all l) a (apart_right known ks (all l) k)) (puts css xs f) g (at + length css) r t in
    let (m, c) = puts_back css xs n p₀ p₂ f g (stay ks l g a w.rest) in
    record {
      makes = λ h. let h' : Every Byte (xs ++ r) = rw q at h in rw q (makes_both (m (every_left Byte xs r h')) (w.makes (every_right Byte xs r h')));
      fine = (append_every sound g (flatten css) (shown l g) c w.fine.0, w.fine.1);
      rest = λ j e. let (x, y) = none_columns j (flatten css) (shown l g) e in sym (puts_else css xs f j x) ∙ w.rest j y;
    }
back known (word c l) p k f g at bs t₀ =
    let (p₀, p₁) = and_both (not (has c (all l))) _ p in
    let t₁ = looked t₀ in
    let t₂ = looked t₁.on in
    let xs = t₁.front in
    let ys = t₂.front in
    let r' = t₂.back in
    let x = get_or xs 0 0 in
    let y = get_or ys 0 0 in
    let a : Apart (c ∷ []) (all l) = lone c (all l) (not-true _ p₀) in
    let w = back (c ∷ known) l p₁ (apart_both (c ∷ []) known (all l) a (apart_right known (c ∷ []) (all l) k)) (set c (x * 256 + y) f) g (at + 1 + 1) r' t₂.on in
    let (v, o) = set_stays c (x * 256 + y) l f g (not-true _ p₀) w.rest in
    let j : bs ≡ x ∷ y ∷ r' = t₁.joined ∙ (λ i. two_bytes xs t₁.long i ++ (t₂.joined ∙ ap (λ (l : List ℕ). l ++ r') (two_bytes ys t₂.long)) i) in
    record {
      makes = λ h.
          let h' : Every Byte (x ∷ y ∷ r') = rw j at h in
          let hx : x < 256 = every_head Byte h' in
          let hy : y < 256 = every_head Byte (every_tail Byte h') in
          let m = w.makes (every_tail Byte (every_tail Byte h')) in
          let u : g c / 256 ≡ x = omega (arith, v) in
          let z : g c % 256 ≡ y = omega (arith, v) in
          record {
            sound = both_and (cons_fits 8 (g c / 256) [] (omega (arith, u, hx)) refl) (both_and (cons_fits 8 (g c % 256) [] (omega (arith, z, hy)) refl) m.sound);
            is = j ∙ (λ i. (sym u ∙ sym (zero-add (g c / 256))) i ∷ (sym z ∙ sym (zero-add (g c % 256))) i ∷ m.is i);
          };
      fine = w.fine;
      rest = o;
    }
back known (choose k' is a c l) p k f g at bs t =
    let (p₀, p₁) = and_both (has k' known) _ p in
    let (p₂, p₃) = and_both (proper known a) _ p₁ in
    let (p₄, p₅) = and_both (proper known c) _ p₃ in
    let (p₆, p₇) = and_both (free (all a ++ all c) (all l)) _ p₅ in
    let kac = apart_left known (all a ++ all c) (all l) k in
    let ka = apart_left known (all a) (all c) kac in
    let kc = apart_right known (all a) (all c) kac in
    let kl = apart_right known (all a ++ all c) (all l) k in
    let d = free_apart (all a ++ all c) (all l) p₆ in
    let r =
    choice_back known a c l p₂ p₄ (back known a p₂ ka) (back known c p₄ kc) (back known l p₇ kl) kl (apart_front (all a) (all c) (all l) d)
    (apart_back (all a) (all c) (all l) d) (is (f k')) f g at bs t in
    let e : f k' ≡ g k' = r.rest k' (choice_none a c l g k' (ka k' p₀) (kc k' p₀) (kl k' p₀) (is (f k'))) in
    let r' = subst (λ (b : Bool). Choice b a c l f g bs) (ap is e) r in
    record { makes = r'.makes; fine = (r'.sounds, r'.agrees); rest = r'.rest }
back known (follows c i tb x l) p k f g at bs t =
    let (p₀, p₁) = and_both (has i known) _ p in
    let (p₂, p₃) = and_both (slim c && suits c tb) _ p₁ in
    let (p₄, p₅) = and_both (not (has (column c) (all l))) _ p₃ in
    let ks = column c ∷ [] in
    let a : Apart ks (all l) = lone (column c) (all l) (not-true _ p₄) in
    let w = back (column c ∷ known) l p₅ (apart_both ks known (all l) a (apart_right known ks (all l) k)) (set (column c) (get_or tb (f i) 0) f) g at bs t in
    let (v, o) = set_stays (column c) (get_or tb (f i) 0) l f g (not-true _ p₄) w.rest in
    let e : f i ≡ g i = o i (let (y, z) = or_none (eqb i (column c)) (has i (all l)) (k i p₀) in none_or y (shown_in l g i z)) in
    let q : g (column c) ≡ get_or tb (g i) 0 = sym v ∙ ap (λ (n : ℕ). get_or tb n 0) e in
    record {
      makes = w.makes;
      fine = (both_and (subst (λ (n : ℕ). sound c n ≡ true) v (suits_all c tb (f i) (and_both (slim c) (suits c tb) p₂).1).1) w.fine.0, both_and (eq-eqb _ _ q) w.fine.1);
      rest = o;
    }
back known (judged a l) p k f g at bs t =
    let (p₀, p₁) = and_both (proper known a) _ p in
    let (p₂, p₃) = and_both (free (all a) (all l)) _ p₁ in
    let ka = apart_left known (all a) (all l) k in
    let kl = apart_right known (all a) (all l) k in
    let r = part_back known a l p₀ (back known a p₀ ka) (back known l p₃ kl) kl (free_apart (all a) (all l) p₂) f g at bs t in
    let m = (clean_both (matches a g) (matches l g) r.agrees).0 in
    record {
      makes = λ h. let y = r.makes h in record { sound = both_and (all_fit known a p₀ g m (r.first h)) y.sound; is = y.is };
      fine = (r.sounds, r.agrees);
      rest = r.rest;
    }

-- flags that fit their bit are flags
pub fit_flags : (cs : List Cell) (g : Columns) → fit (map (field_of g) cs) ≡ true → every flagged g cs ≡ true
unfolding every fit
fit_flags [] g e = refl
fit_flags (c ∷ cs) g e = let (a, b) = fits_cons (width c) (stored c (g (column c))) (map (field_of g) cs) e in both_and (go c (g (column c)) a) (fit_flags cs g b)
  where
    go : (c : Cell) (v : ℕ) → stored c v < 2 ^ width c → flagged c v ≡ true
    go (num w k) v h = refl
    go (reserved w k) v h = refl
    go (flag k) v h = le-leb v 1 (omega (arith, h))
    go (unset k) v h = le-leb v 1 (turned_flag v h)
    go (less_one w k) v h = refl

-- ---- how large a column can be

unfoldable pub narrow : List Cell → Bool
narrow [] = true
narrow (c ∷ cs) = slim c && narrow cs

narrow_both : (a b : List Cell) → narrow a ≡ true → narrow b ≡ true → narrow (a ++ b) ≡ true
unfolding narrow
narrow_both [] b x y = y
narrow_both (c ∷ a) b x y = let (p, q) = and_both (slim c) (narrow a) x in both_and p (narrow_both a b q y)

eight_slim : (c : Cell) → width c ≤ 8 → slim c ≡ true
eight_slim (num w k) h = le-leb w 16 (omega arith)
eight_slim (reserved w k) h = le-leb w 16 (omega arith)
eight_slim (flag k) h = refl
eight_slim (unset k) h = refl
eight_slim (less_one w k) h = le-leb w 15 (omega arith)

eights_narrow : (css : List (List Cell)) → eights css ≡ true → narrow (flatten css) ≡ true
unfolding eights flatten narrow total
eights_narrow [] e = refl
eights_narrow (cs ∷ css) e = let (a, b) = and_both (eqb (total (map width cs)) 8) (eights css) e in let q : total (map width cs) ≡ 8 = eqb-true _ 8 a in narrow_both cs (flatten css) (go cs (omega arith)) (eights_narrow css b)
  where
    go : (cs : List Cell) → total (map width cs) ≤ 8 → narrow cs ≡ true
    go [] h = refl
    go (c ∷ cs) h = both_and (eight_slim c (omega arith)) (go cs (omega arith))

pub shown_narrow : (known : List ℕ) (l : Layout) → proper known l ≡ true → (g : Columns) → narrow (shown l g) ≡ true
unfolding proper shown narrow
shown_narrow known end p g = refl
shown_narrow known (line css l) p g =
    let (p₀, p₁) = and_both (eights css) _ p in
    let (p₂, p₃) = and_both (distinct (columns (flatten css))) _ p₁ in
    let (p₄, p₅) = and_both (free (columns (flatten css)) (all l)) _ p₃ in
    narrow_both (flatten css) (shown l g) (eights_narrow css p₀) (shown_narrow (columns (flatten css) ++ known) l p₅ g)
shown_narrow known (word k l) p g = let (p₀, p₁) = and_both (not (has k (all l))) _ p in shown_narrow (k ∷ known) l p₁ g
shown_narrow known (choose k is a c l) p g =
    let (p₀, p₁) = and_both (has k known) _ p in
    let (p₂, p₃) = and_both (proper known a) _ p₁ in
    let (p₄, p₅) = and_both (proper known c) _ p₃ in
    let (p₆, p₇) = and_both (free (all a ++ all c) (all l)) _ p₅ in
    narrow_both (pick (is (g k)) (shown a g) (shown c g)) (shown l g) (go (is (g k)) (shown_narrow known a p₂ g) (shown_narrow known c p₄ g)) (shown_narrow known l p₇ g)
  where
    go : (b : Bool) → narrow (shown a g) ≡ true → narrow (shown c g) ≡ true → narrow (pick b (shown a g) (shown c g)) ≡ true
    go true x y = x
    go false x y = y
shown_narrow known (follows c j t x l) p g =
    let (p₀, p₁) = and_both (has j known) _ p in
    let (p₂, p₃) = and_both (slim c && suits c t) _ p₁ in
    let (p₄, p₅) = and_both (not (has (column c) (all l))) _ p₃ in
    both_and (and_both (slim c) (suits c t) p₂).0 (shown_narrow (column c ∷ known) l p₅ g)
shown_narrow known (judged a l) p g =
    let (p₀, p₁) = and_both (proper known a) _ p in
    let (p₂, p₃) = and_both (free (all a) (all l)) _ p₁ in
    narrow_both (shown a g) (shown l g) (shown_narrow known a p₀ g) (shown_narrow known l p₃ g)

-- every column that has a value is below 65536
pub cells_small : (cs : List Cell) (g : Columns) → narrow cs ≡ true → every sound g cs ≡ true → fit (map (field_of g) cs) ≡ true → (j : ℕ) → has j (columns cs) ≡ true → g j < 65536
unfolding narrow every fit has
cells_small [] g n s e j h = clash h refl
cells_small (c ∷ cs) g n s e j h =
    let (n₀, n₁) = and_both (slim c) (narrow cs) n in
    let (s₀, s₁) = and_both (sound c (g (column c))) (every sound g cs) s in
    let (a, b) = fits_cons (width c) (stored c (g (column c))) (map (field_of g) cs) e in
    elim (either (eqb j (column c)) (has j (columns cs)) h) [
      | inl q ↦ rw (eqb-true j (column c) q) (go c (g (column c)) n₀ s₀ a)
      | inr q ↦ cells_small cs g n₁ s₁ b j q
    ]
  where
    go : (c : Cell) (v : ℕ) → slim c ≡ true → sound c v ≡ true → stored c v < 2 ^ width c → v < 65536
    go (num w k) v n s h = omega (arith, wider w 16 (leb-true w 16 n) h)
    go (reserved w k) v n s h = omega (arith, wider w 16 (leb-true w 16 n) h)
    go (flag k) v n s h = omega (arith, h)
    go (unset k) v n s h = let z = turned_flag v h in omega arith
    go (less_one w k) v n s h = omega (arith, wider w 15 (leb-true w 15 n) h)

-- sound cells have flags that are flags, and counts that are not 0
pub sound_both : (cs : List Cell) (g : Columns) → every sound g cs ≡ true → (every flagged g cs ≡ true) × (every counted g cs ≡ true)
unfolding every
sound_both [] g e = (refl, refl)
sound_both (c ∷ cs) g e =
    let (a, b) = and_both (sound c (g (column c))) _ e in
    let (x, y) = and_both (flagged c (g (column c))) _ a in
    let (p, q) = sound_both cs g b in
    (both_and x p, both_and y q)

pub both_sound : (cs : List Cell) (g : Columns) → every flagged g cs ≡ true → every counted g cs ≡ true → every sound g cs ≡ true
unfolding every
both_sound [] g e f = refl
both_sound (c ∷ cs) g e f =
    let (a, b) = and_both (flagged c (g (column c))) _ e in
    let (x, y) = and_both (counted c (g (column c))) _ f in
    both_and (both_and a x) (both_sound cs g b y)

-- at most eight bits, and no count that is stored minus one: below 256
unfoldable pub bytewide : List Cell → Bool
bytewide [] = true
bytewide (num w k ∷ cs) = leb w 8 && bytewide cs
bytewide (reserved w k ∷ cs) = leb w 8 && bytewide cs
bytewide (flag k ∷ cs) = bytewide cs
bytewide (unset k ∷ cs) = bytewide cs
bytewide (less_one w k ∷ cs) = false

pub cells_byte : (cs : List Cell) (g : Columns) → bytewide cs ≡ true → fit (map (field_of g) cs) ≡ true → (j : ℕ) → has j (columns cs) ≡ true → g j < 256
unfolding fit has bytewide
cells_byte [] g u e j h = clash h refl
cells_byte (c ∷ cs) g u e j h =
    let (a, b) = fits_cons (width c) (stored c (g (column c))) (map (field_of g) cs) e in
    let (p, q) = go c u (g (column c)) a in
    elim (either (eqb j (column c)) (has j (columns cs)) h) [
      | inl z ↦ rw (eqb-true j (column c) z) q
      | inr z ↦ cells_byte cs g p b j z
    ]
  where
    go : (c : Cell) → bytewide (c ∷ cs) ≡ true → (v : ℕ) → stored c v < 2 ^ width c → (bytewide cs ≡ true) × (v < 256)
    go (num w k) u v h = let (a, b) = and_both (leb w 8) (bytewide cs) u in (b, omega (arith, wider w 8 (leb-true w 8 a) h))
    go (reserved w k) u v h = let (a, b) = and_both (leb w 8) (bytewide cs) u in (b, omega (arith, wider w 8 (leb-true w 8 a) h))
    go (flag k) u v h = (u, omega (arith, h))
    go (unset k) u v h = let z = turned_flag v h in (u, omega arith)
    go (less_one w k) u v h = clash u refl

pub bytewide_both : (cs ds : List Cell) → bytewide cs ≡ true → bytewide ds ≡ true → bytewide (cs ++ ds) ≡ true
unfolding bytewide
bytewide_both [] ds a b = b
bytewide_both (num w k ∷ cs) ds a b = let (x, y) = and_both (leb w 8) (bytewide cs) a in both_and x (bytewide_both cs ds y b)
bytewide_both (reserved w k ∷ cs) ds a b = let (x, y) = and_both (leb w 8) (bytewide cs) a in both_and x (bytewide_both cs ds y b)
bytewide_both (flag k ∷ cs) ds a b = bytewide_both cs ds a b
bytewide_both (unset k ∷ cs) ds a b = bytewide_both cs ds a b
bytewide_both (less_one w k ∷ cs) ds a b = clash a refl

-- a layout of such cells
unfoldable pub in_bytes : Layout → Bool
in_bytes end = true
in_bytes (line css l) = bytewide (flatten css) && in_bytes l
in_bytes (word k l) = false
in_bytes (choose k is p q l) = in_bytes p && (in_bytes q && in_bytes l)
in_bytes (follows c j t x l) = bytewide (c ∷ []) && in_bytes l
in_bytes (judged p l) = in_bytes p && in_bytes l

pub bytes_shown : (l : Layout) (g : Columns) → in_bytes l ≡ true → bytewide (shown l g) ≡ true
unfolding in_bytes shown bytewide
bytes_shown end g e = refl
bytes_shown (line css l) g e = let (a, b) = and_both (bytewide (flatten css)) (in_bytes l) e in bytewide_both (flatten css) (shown l g) a (bytes_shown l g b)
bytes_shown (word k l) g e = clash e refl
bytes_shown (choose k is p q l) g e =
    let (a, e₀) = and_both (in_bytes p) _ e in
    let (b, c) = and_both (in_bytes q) (in_bytes l) e₀ in
    bytewide_both (pick (is (g k)) (shown p g) (shown q g)) (shown l g) (go (is (g k)) (bytes_shown p g a) (bytes_shown q g b)) (bytes_shown l g c)
  where
    go : (b : Bool) → bytewide (shown p g) ≡ true → bytewide (shown q g) ≡ true → bytewide (pick b (shown p g) (shown q g)) ≡ true
    go true x y = x
    go false x y = y
bytes_shown (follows c j t x l) g e = let (a, b) = and_both (bytewide (c ∷ [])) (in_bytes l) e in bytewide_both (c ∷ []) (shown l g) a (bytes_shown l g b)
bytes_shown (judged p l) g e = let (a, b) = and_both (in_bytes p) (in_bytes l) e in bytewide_both (shown p g) (shown l g) (bytes_shown p g a) (bytes_shown l g b)

-- ---- nothing is passed over unseen

skips_on : {A : Type 0} (n at : ℕ) (s : List ℕ) (a : A) (k : ℕ) (b : Bool) {p : List Payload} {o : Out A} → (o ≡ done a k → p ≡ [])
    → ◌≡◌ {A = Out A} (elim b [ true ↦ o | false ↦ short (needing (at + n)) ]) (done a k)
    → ◌≡◌ {A = List Payload} (elim b [ true ↦ p | false ↦ [] ]) []
skips_on n at s a k true h e = h e
skips_on n at s a k false h e = refl

pub skips : (l : Layout) (f : Columns) (s : List ℕ) (at : ℕ) (g : Columns) (k : ℕ) → run (reads l f) s at ≡ done g k → passed (reads l f) s at ≡ []
unfolding reads passed run
skips end f s at g k e = refl
skips (line css l) f s at g k e = skips_on (length css) at s g k (leb (at + length css) (length s)) (skips l (puts css (slice at (at + length css) s) f) s (at + length css) g k) e
skips (word c l) f s at g k e =
    skips_on 1 at s g k (leb (at + 1) (length s))
    (λ e. skips_on 1 (at + 1) s g k (leb (at + 1 + 1) (length s)) (skips l (set c (get_or (slice at (at + 1) s) 0 0 * 256 + get_or (slice (at + 1) (at + 1 + 1) s) 0 0) f) s (at + 1 + 1) g k) e) e
skips (choose j is p q l) f s at g k e =
    let u = run_split (pick (is (f j)) (reads p f) (reads q f)) (λ x. reads l x) s at g k e in
    passed_bind (pick (is (f j)) (reads p f) (reads q f)) (λ x. reads l x) s at u.first
    ∙ (λ i. go (is (f j)) (skips p f s at u.value u.middle) (skips q f s at u.value u.middle) u.first i ++ skips l u.value s u.middle g k u.second i)
  where
    go : (b : Bool) {x : Columns} {n : ℕ} → (run (reads p f) s at ≡ done x n → passed (reads p f) s at ≡ [])
        → (run (reads q f) s at ≡ done x n → passed (reads q f) s at ≡ []) → run (pick b (reads p f) (reads q f)) s at ≡ done x n
        → passed (pick b (reads p f) (reads q f)) s at ≡ []
    go true h i e = h e
    go false h i e = i e
skips (follows c j t x l) f s at g k e = skips l (set (column c) (get_or t (f j) 0) f) s at g k e
skips (judged p l) f s at g k e =
    let u = run_split (reads p f) (λ x. reads l x) s at g k e in
    passed_bind (reads p f) (λ x. reads l x) s at u.first ∙ (λ i. skips p f s at u.value u.middle u.first i ++ skips l u.value s u.middle g k u.second i)
