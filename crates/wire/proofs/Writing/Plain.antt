-- Rows that are plain, counted by a loop; the row that stopped it is looked at after the loop.
use Prim.Native.Nat.{ℕ, zero, suc, ◌+◌, ◌-◌, ◌*◌, ◌≤◌, ◌<◌, ◌^◌}
use mathlib.Core.Path.{◌≡◌, refl, sym, ap, subst, ◌∙◌}
use mathlib.Core.List.{List, [], ◌∷◌, ◌++◌, append-nil, map, flatten}
use mathlib.Core.Bool.{Bool, true, false, ◌&&◌, and-true}
use native.Mathlib.Omega.{arith}
use native.Mathlib.Nat.{add-zero, sub-zero, mul-suc, suc-mul, mul-le-mul_left, lt_of_mul-lt-mul_right, mul-lt-mul_of_pos_right, eq-or-lt_of_le}
use mathlib.Core.Logic.{◌⊎◌, inl, inr}
use native.Mathlib.Numerals.{add-one}
use lib.ListN.{length}
use lib.Seq.{length-sets}
use lib.Dec.{eqb}
use borrow.Author.Tests.{ne_eqb, leb-true}
use Rattle.wire.specs.Lists.{each}
use Rattle.wire.specs.Bits.{Field, is_flag, fit}
use Rattle.wire.specs.Act.{Act, demand, byte, when, pick, rows}
use Rattle.wire.specs.Pen.{look, glance, looks, Checked, Quick, Ready, Filled, clean, bytes}
use Rattle.wire.specs.declared.pen.Fault.{Fault}
use Rattle.wire.specs.declared.pen.Fault.TheVariants as F
use Rattle.wire.specs.Pen.{Pen, At}
use Rattle.std.specs.Prelude.{Ok, Err, Some, None}
use Rattle.wire.specs.Spell.{PlainRows, PlainRun, fit_all, Spelt, ChecksAll, ReadyAll, FillsAll}
use Rattle.wire.proofs.Fields.{fit_append}
use Rattle.wire.proofs.Writing.Passes.{looks_append, then, more, rows_turn, rows_end, Checking, check_odd, check_end, quick_clean, quick_odd, Filling, fill_start, fill_demand, fill_row_lem, fill_turn, fill_end}
use Rattle.wire.proofs.Writing.Spelling.{spelt_long}

-- before the row i, which makes no more than `most` bytes
pub record Going (f : ℕ → List Act) (most count i bytes : ℕ) : Type 0 where
  pub within : i ≤ count
  pub each : i ≤ bytes
  pub few : bytes ≤ most * i
  pub passes : (n : ℕ) → looks (rows f 0 count) (At n) ≡ looks (rows f i (count - i)) (At (n + bytes))

-- a quick test counts no more bytes than there can be
pub quick_few : {q : List Act} {most k : ℕ} → Quick q most k → k ≤ most
quick_few {k = zero} w = omega arith
quick_few {k = suc k} w = let v = w.to (omega arith) 0 in omega (arith, v.near)

-- so the next row still has room
pub few_left : (most i count : ℕ) → i < count → most * i + most ≤ most * count
few_left most i count h = omega (arith, mul-suc most i, mul-le-mul_left most h)

-- the first column of a row, and of the next
pub next_column : (i columns : ℕ) {b : ℕ} → b ≡ i * columns → b + columns ≡ (i + 1) * columns
next_column i columns e = omega (arith, e, suc-mul i columns)

pub next_behind : (first i columns : ℕ) {b : ℕ} → b ≡ (first + i) * columns → b + columns ≡ (first + (i + 1)) * columns
next_behind first i columns e = next_column (first + i) columns e ∙ ap (λ (k : ℕ). k * columns) (omega arith)

-- a column before the last row's end is of a row before the end, and one behind it is not
pub row_left : (i end columns : ℕ) {b : ℕ} → b ≡ i * columns → b < end * columns → i < end
row_left i end columns e h = lt_of_mul-lt-mul_right columns (rw e at h)

pub none_left : (i end columns : ℕ) {b : ℕ} → 0 < columns → b ≡ i * columns → end * columns ≤ b → i ≤ end → end ≤ i
none_left i end columns p e h l = go (eq-or-lt_of_le l)
  where
    go : (i ≡ end) ⊎ (i < end) → end ≤ i
    go (inl q) = omega (arith, q)
    go (inr q) = let z : i * columns < end * columns = mul-lt-mul_of_pos_right q p in absurd (omega (arith, z, e, h))

pub column_fits : (i columns : ℕ) → i ≤ 2 ^ 32 → columns < 2 ^ 16 → i * columns < 2 ^ 49
column_fits i columns h k = let l : i * columns ≤ i * 65536 = mul-le-mul_left i (omega (arith, k)) in omega (arith, l, h)

pub going_start : (f : ℕ → List Act) (most count : ℕ) → Going f most count 0 0
going_start f most count = record { within = omega arith; each = omega arith; few = omega arith; passes = λ n. rw (sub-zero, add-zero) }

module _ {f : ℕ → List Act} {most count i bytes : ℕ} (v : Going f most count i bytes) {k : ℕ} (q : Quick (f i) most k) where
  pub going_turn : i < count → 0 < k → Going f most count (i + 1) (bytes + k)
  going_turn h p =
      let w : (n : ℕ) → Checked (f i) most (At n) (At (n + k)) = q.to p in
      let l : k ≤ most = omega (arith, (w 0).near) in
      record {
        within = omega arith;
        each = omega (arith, v.each);
        few = omega (arith, v.few, mul-suc most i, ap (λ (k : ℕ). most * k) (add-one i));
        passes = λ n.
            let e : n + bytes + k ≡ n + (bytes + k) = omega arith in
            v.passes n ∙ ap (λ (l : List Act). looks l (At (n + bytes))) (rows_turn f i count h) ∙ looks_append (f i) (rows f (i + 1) (count - (i + 1))) (At (n + bytes))
            ∙ ap (looks (rows f (i + 1) (count - (i + 1)))) (sym (w (n + bytes)).pens) ∙ ap (λ (m : ℕ). looks (rows f (i + 1) (count - (i + 1))) (At m)) e;
      }

  pub going_odd : k ≡ 0 → PlainRows f most count i bytes
  going_odd z = record { within = v.within; each = v.each; few = v.few; passes = v.passes; odd = λ h. q.odd z }

pub going_end : {f : ℕ → List Act} {most count i bytes : ℕ} → Going f most count i bytes → count ≤ i → PlainRows f most count i bytes
going_end v h = record { within = v.within; each = v.each; few = v.few; passes = v.passes; odd = λ l. absurd (omega arith) }

-- the same of a loop that only counts bytes
module _ {f : ℕ → List Act} {most count i bytes : ℕ} (v : Going f most count i bytes) where
  pub run_odd : {k : ℕ} → Quick (f i) most k → i < count → k ≡ 0 → PlainRun f most count None
  run_odd q h z = (i, bytes, h, going_odd v q z)

  pub run_end : count ≤ i → PlainRun f most count (Some bytes)
  run_end h =
      let e : i ≡ count = omega (arith, v.within) in
      let w : Going f most count count bytes = rw e at v in going_end w (omega arith)

-- what the check pass has after the loop
module _ (f : ℕ → List Act) (most count n : ℕ) {i bytes : ℕ} (v : PlainRows f most count i bytes) where
  going : Checking (rows f 0 count) (rows f i (count - i)) (most * i) (At n) (At (n + bytes))
  going = record { whole = v.passes n; near = omega (arith, v.few) }

  pub plain_odd : i < count → {r : Pen} → Checked (f i) most (At (n + bytes)) r → Checked (rows f 0 count) (most * count) (At n) r
  plain_odd h w = let l : most * i + most ≤ most * count = omega (arith, mul-suc most i, mul-le-mul_left most h) in check_odd (f i) (rows f (i + 1) (count - (i + 1))) (most * count) going (rows_turn f i count h) (v.odd h) w l

  pub plain_end : count ≤ i → Checked (rows f 0 count) (most * count) (At n) (At (n + bytes))
  plain_end h = let z : i ≡ count = omega (arith, v.within) in check_end (most * count) going (rows_end f i count h) (rw z (omega arith))

-- rows from row a on are those of a table that begins there
rows_shift : (f : ℕ → List Act) (a i k : ℕ) → rows f (a + i) k ≡ rows (λ j. f (a + j)) i k
unfolding rows each flatten
rows_shift f a i zero = refl
rows_shift f a i (suc k) = let e : a + i + 1 ≡ a + (i + 1) = omega arith in λ z. f (a + i) ++ (ap (λ (m : ℕ). rows f m k) e ∙ rows_shift f a (i + 1) k) z

pub rows_from_lem : (f : ℕ → List Act) (a k : ℕ) → rows f a k ≡ rows (λ j. f (a + j)) 0 k
rows_from_lem f a k = ap (λ (m : ℕ). rows f m k) (sym (add-zero a)) ∙ rows_shift f a 0 k

-- the fields of all bytes in one list
pub fit_flat : (fss : List (List Field)) → fit (flatten fss) ≡ fit_all fss
unfolding fit fit_all flatten
fit_flat [] = refl
fit_flat (fs ∷ fss) = fit_append fs (flatten fss) ∙ ap (λ (b : Bool). fit fs && b) (fit_flat fss)

-- a line of bytes is clean if all fit
pub clean_all : (fss : List (List Field)) → clean (map byte fss) ≡ fit_all fss
unfolding clean fit_all
clean_all [] = refl
clean_all (fs ∷ fss) = ap (λ (b : Bool). fit fs && b) (clean_all fss)

pub clean_when : (t : Bool) (fss : List (List Field)) → clean (when t (map byte fss)) ≡ pick t (fit_all fss) true
unfolding clean
clean_when true fss = clean_all fss
clean_when false fss = refl

pub bytes_long : (fss : List (List Field)) → length (bytes (map byte fss)) ≡ length fss
unfolding bytes
bytes_long [] = refl
bytes_long (fs ∷ fss) = ap suc (bytes_long fss)

-- ---- parts of a row, checked and filled one after the other

pub met : (f : Fault) (p : Pen) → Checked (demand f true ∷ []) 0 p p
unfolding looks glance look
met f (Ok n) = record { pens = refl; near = omega arith }
met f (Err x) = record { pens = refl; near = omega arith }

pub all_checked : {there : Bool} {vs : List ℕ} {p r : Pen} {fss : List (List Field)} → Spelt fss vs → ChecksAll there vs p r → Checked (when there (map byte fss)) (length fss) p r
all_checked {there} {p = p} {r} {fss} s w = subst (λ (k : ℕ). Checked (when there (map byte fss)) k p r) (sym (spelt_long s) ∙ bytes_long fss) (w.of fss s)

pub filled_long : {q : List Act} {n r : ℕ} {l o : List ℕ} → Filled q n l r o → length o ≡ length l
filled_long {q} {n} {l = l} w = ap length w.holds ∙ length-sets l n (bytes q)

module _ (rest : List Act) {all : List Act} {there : Bool} {fss : List (List Field)} {vs : List ℕ} {n₀ n : ℕ} {l o : List ℕ} (s : Spelt fss vs) (v : Filling all (when there (map byte fss) ++ rest) n₀ l n o) where
  pub ready_part : ReadyAll there vs n o
  ready_part = record { fss = fss; spelt = s; ready = fill_row_lem (when there (map byte fss)) rest v refl }

  pub fill_part_lem : {r : ℕ} {o' : List ℕ} → FillsAll there vs n o r o' → Filling all rest n₀ l r o'
  fill_part_lem w = let f = w.of fss s (fill_row_lem (when there (map byte fss)) rest v refl).sound in fill_turn v refl (filled_long f) f

-- ---- clean, part by part

pub absorb : (a b : Bool) → (b ≡ true → a ≡ true) → a && b ≡ b
absorb true b h = refl
absorb false true h = h refl
absorb false false h = refl

pub no_quick : {a : Bool} → a ≡ false → a ≡ true → ⊥
no_quick e f = let z : ◌≡◌ {A = ℕ} 0 1 = cc (sym e ∙ f) in omega arith

-- ---- rows that are bytes of fields and nothing else: no demand of theirs can fail

abbrev pub line_acts : List (List Field) → List Act
line_acts fss = demand F.Field true ∷ demand F.Empty true ∷ map byte fss

-- `e` is refl, unfolding writes, shown, cells, matches, matched, every, flatten and the layout.
module _ (acts : List Act) (fss : List (List Field)) (e : acts ≡ line_acts fss) where
  pub line_clean : clean acts ≡ fit_all fss
  unfolding clean
  line_clean = ap clean e ∙ clean_all fss

  -- it makes as many bytes as it has, or has a fault
  pub line_plain : fit_all fss ≡ true → 0 < length fss → Quick acts (length fss) (length fss)
  unfolding bytes
  line_plain f p = quick_clean acts (length fss) (line_clean ∙ f) (ap (λ (q : List Act). length (bytes q)) e ∙ bytes_long fss) p (omega arith)

  pub line_odd : fit_all fss ≡ false → Quick acts (length fss) 0
  line_odd f = quick_odd acts (length fss) (λ z. no_quick f (sym line_clean ∙ z))

  module _ {vs : List ℕ} (s : Spelt fss vs) where
    pub line_checked : {p r : Pen} → ChecksAll true vs p r → Checked acts (length fss) p r
    line_checked {p} {r} w =
        subst (λ (q : List Act). Checked q (length fss) p r) (sym e) (more (length fss) (then (met F.Field p) (then (met F.Empty p) (all_checked s w))) (omega arith))

    module _ {n : ℕ} {l : List ℕ} (w : Ready acts n l) where
      line_left : Filling (line_acts fss) (map byte fss ++ []) n l n l
      line_left =
          subst (λ (q : List Act). Filling (line_acts fss) q n l n l) (sym (append-nil (map byte fss)))
          (fill_demand (fill_demand (fill_start (subst (λ (q : List Act). Ready q n l) e w))))

      pub line_ready : ReadyAll true vs n l
      line_ready = ready_part [] {there = true} s line_left

      pub line_filled : {r : ℕ} {o : List ℕ} → FillsAll true vs n l r o → Filled acts n l r o
      line_filled {r} {o} x = subst (λ (q : List Act). Filled q n l r o) (sym e) (fill_end (fill_part_lem [] {there = true} s line_left x) refl)

-- ---- a flag, and what is said of its part only where it is set

pub flags_there : (v : ℕ) (a : Bool) → v ≡ 1 → is_flag v && pick (eqb v 1) a true ≡ a
flags_there v a t = rw t

pub flags_absent : (v : ℕ) (a : Bool) → (v ≡ 1 → ⊥) → is_flag v && pick (eqb v 1) a true ≡ is_flag v
flags_absent v a t = rw (ne_eqb v 1 t) (and-true (is_flag v))

pub bit_size : (v n : ℕ) → is_flag v ≡ true → pick (eqb v 1) n 0 ≡ v * n
bit_size zero n e = omega arith
bit_size (suc zero) n e = omega arith
bit_size (suc (suc v)) n e = absurd (omega (arith, leb-true (suc (suc v)) 1 e))
