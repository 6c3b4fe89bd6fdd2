-- Labels written: an entry checked, tested and filled, its ID before the payload; then a list, its count before its rows.
use Rattle.std.specs.Prelude.{Err}
use Prim.Native.Nat.{ℕ, ◌+◌, ◌*◌, ◌-◌, ◌/◌, ◌^◌, ◌≤◌, ◌<◌}
use mathlib.Core.Path.{◌≡◌, refl, sym, ap, subst, ◌∙◌}
use mathlib.Core.List.{List, [], ◌∷◌, ◌++◌, map, flatten}
use mathlib.Core.Bool.{Bool, true, false, ◌&&◌}
use native.Mathlib.Omega.{arith}
use native.Mathlib.Nat.{add-zero}
use lib.ListN.{length, set}
use lib.Seq.{slice}
use lib.Dec.{leb, ltb}
use borrow.Author.Tests.{leb-true}
use Rattle.wire.specs.Bits.{field}
use Rattle.wire.specs.Act.{Act, demand, byte, copy}
use Rattle.wire.specs.Pen.{reach, Checked, CheckedByte, CheckedRun, Quick, Ready, Filled, Pen, At}
use Rattle.wire.specs.Layout.{writes, shown, cells, matches, matched, every}
use Rattle.wire.specs.Spell.{Spells, none, more, fit_all, ChecksAll, ReadyAll, FillsAll}
use Rattle.wire.specs.declared.pen.Fault.TheVariants as F
use Rattle.wire.specs.declared.pen.Stopped.{Stopped}
use Rattle.wire.proofs.Writing.Acts.{and_both, both_and}
use Rattle.wire.proofs.Fields.{fits_cons, fit_one}
use Rattle.wire.proofs.Writing.Passes.{then, stopped, here, byte_fits, rows_turn, Filling, fill_start, fill_row_lem, fill_turn, fill_last}
use Rattle.wire.proofs.Writing.Passes as P
use Rattle.wire.proofs.Writing.Plain.{all_checked, ready_part, fill_part_lem, line_acts, line_plain, line_odd, line_checked}
use Rattle.wire.proofs.Layouts.Bearers.{head_acts, payload_acts, bear_checked, bear_plain, bear_odd, bear_inside, bear_filling, size_ready, bytes_room, bytes_filled}
use Rattle.labels.specs.Layout.{label}
use Rattle.labels.specs.Rows.{entry_cols, entry_of}
use Rattle.labels.specs.Write.{id_byte, entry_acts, row_acts, count_byte, entries_acts, list_acts}
use Rattle.labels.specs.declared.rows.TextLabelEntry.{TextLabelEntry}
use Rattle.labels.specs.declared.rows.Descriptions.{Descriptions}

-- ---- an entry

abbrev size : TextLabelEntry → ℕ
size e = e.«data».length

module _ (w : ℕ) (e : TextLabelEntry) where
  -- no demand of its head can fail
  head_so : head_acts (label w) (entry_cols e) ≡ line_acts (id_byte w e ∷ [])
  unfolding writes shown cells matches matched every flatten
  head_so = refl

  module _ {v : ℕ} (s : Spells (id_byte w e) v) where
    -- where the check pass stands
    module _ {n : ℕ} (h : n < 2 ^ 30) {inside : Bool} {p₀ p₁ : Pen} (w₀ : Checked (demand F.Range inside ∷ []) 0 (At n) p₀) (w₁ : ChecksAll true (v ∷ []) p₀ p₁) where
      pub id_reach : reach p₁ < 2 ^ 32
      id_reach = omega (arith, w₀.near, (w₁.of (id_byte w e ∷ []) (more s none)).near)

      pub length_reach : {fits : Bool} {p₂ : Pen} → fits ≡ ltb (size e) 256 → CheckedByte fits p₁ p₂ → reach p₂ < 2 ^ 32
      length_reach f w₂ = omega (arith, w₀.near, (w₁.of (id_byte w e ∷ []) (more s none)).near, (w₂.of (field 8 (size e) ∷ []) (f ∙ fit_one 8 (size e))).near)

    -- what the quick test says of its head
    head_plain : ltb v 65536 ≡ true → Quick (head_acts (label w) (entry_cols e)) 1 1
    unfolding fit_all
    head_plain z = line_plain _ (id_byte w e ∷ []) head_so (both_and (sym s.fits ∙ z) refl) (omega arith)

    head_odd : ltb v 65536 ≡ false → Quick (head_acts (label w) (entry_cols e)) 1 0
    unfolding fit_all
    head_odd z = line_odd _ (id_byte w e ∷ []) head_so (ap (λ (b : Bool). b && true) (sym s.fits ∙ z))

module _ (w : ℕ) (store : List ℕ) (e : TextLabelEntry) {v : ℕ} (s : Spells (id_byte w e) v) where
  abbrev in_store : Bool
  in_store = leb (e.«data».offset + size e) (length store)

  pub entry_checked : {inside fits : Bool} {n : ℕ} {p₀ p₁ p₂ r : Pen} → inside ≡ in_store → Checked (demand F.Range inside ∷ []) 0 (At n) p₀ → ChecksAll true (v ∷ []) p₀ p₁
      → fits ≡ ltb (size e) 256 → CheckedByte fits p₁ p₂ → CheckedRun (size e) p₂ r → Checked (entry_acts w store e) 257 (At n) r
  entry_checked {p₂ = p₂} i w₀ w₁ f w₂ w₃ =
      bear_checked (label w) store (entry_cols e) p₂ i w₀ (line_checked _ (id_byte w e ∷ []) (head_so w e) (more s none) w₁)
      (w₂.of (field 8 (size e) ∷ []) (f ∙ fit_one 8 (size e))) w₃

  -- the quick test
  module _ {inside fits : Bool} (i : inside ≡ in_store) (f : fits ≡ ltb (size e) 256) where
    pub entry_plain : inside && (ltb v 65536 && fits) ≡ true → Quick (entry_acts w store e) 257 (2 + size e)
    entry_plain q =
        let (a, b) = and_both inside _ q in
        let (z, y) = and_both (ltb v 65536) fits b in
        let n : 1 + (1 + size e) ≡ 2 + size e = omega arith in
        subst (λ (k : ℕ). Quick (entry_acts w store e) 257 k) n (bear_plain (label w) store (entry_cols e) i (head_plain w e s z) (both_and a (sym f ∙ y)))

    pub entry_odd : inside && (ltb v 65536 && fits) ≡ false → Quick (entry_acts w store e) 257 0
    entry_odd q = go (ltb v 65536) refl q
      where
        go : (t : Bool) → ltb v 65536 ≡ t → inside && (t && fits) ≡ false → Quick (entry_acts w store e) 257 0
        go true z q = bear_odd (label w) store (entry_cols e) i (head_plain w e s z) (ap (λ (b : Bool). inside && b) (sym f) ∙ q)
        go false z q = bear_odd (label w) store (entry_cols e) i (head_odd w e s z) q

  -- the fill pass
  module _ {n : ℕ} {l : List ℕ} (x : Ready (entry_acts w store e) n l) where
    abbrev behind_id : List Act
    behind_id = payload_acts (label w) store (entry_cols e)

    begun : Filling (entry_acts w store e) (map byte (id_byte w e ∷ []) ++ behind_id) n l n l
    unfolding writes
    begun = bear_filling (label w) store (entry_cols e) x

    pub id_ready : ReadyAll true (v ∷ []) n l
    id_ready = ready_part behind_id {there = true} (more s none) begun

    pub label_inside : e.«data».offset + size e ≤ length store
    label_inside = bear_inside (label w) store (entry_cols e) x

    module _ {n₁ : ℕ} {o₁ : List ℕ} (y : FillsAll true (v ∷ []) n l n₁ o₁) where
      left : Filling (entry_acts w store e) behind_id n l n₁ o₁
      left = fill_part_lem behind_id {there = true} (more s none) begun y

      pub length_fits : size e < 256
      length_fits = (size_ready (label w) store (entry_cols e) left).0

      pub length_room : n₁ < length o₁
      length_room = (size_ready (label w) store (entry_cols e) left).1

      module _ {n₂ : ℕ} {o₂ : List ℕ} (z : (n₂ ≡ n₁ + 1) × (o₂ ≡ set o₁ n₁ (size e))) where
        pub label_room : n₂ + size e ≤ length o₂
        label_room = bytes_room (label w) store (entry_cols e) left z label_inside

        pub entry_filled : {r : ℕ} {o : List ℕ} → Filled (copy (slice e.«data».offset (e.«data».offset + size e) store) ∷ []) n₂ o₂ r o → Filled (entry_acts w store e) n l r o
        entry_filled k = bytes_filled (label w) store (entry_cols e) left z k

-- ---- a row of the table: it is written as the entry that its columns make

module _ (w : ℕ) (t store : List ℕ) (i : ℕ) {e : TextLabelEntry} (q : e ≡ entry_of t (i * 4)) where
  row_same : entry_acts w store (entry_of t (i * 4)) ≡ row_acts w t store i
  unfolding writes shown cells matches matched every flatten
  row_same = rw add-zero

  acts_so : entry_acts w store e ≡ row_acts w t store i
  acts_so = ap (entry_acts w store) q ∙ row_same

  pub row_plain : {k : ℕ} → Quick (entry_acts w store e) 257 k → Quick (row_acts w t store i) 257 k
  row_plain {k} x = subst (λ (a : List Act). Quick a 257 k) acts_so x

  pub row_checked : {p r : Pen} → Checked (entry_acts w store e) 257 p r → Checked (row_acts w t store i) 257 p r
  row_checked {p} {r} x = subst (λ (a : List Act). Checked a 257 p r) acts_so x

  pub row_ready : {n : ℕ} {l : List ℕ} → Ready (row_acts w t store i) n l → Ready (entry_acts w store e) n l
  row_ready {n} {l} x = subst (λ (a : List Act). Ready a n l) (sym acts_so) x

  pub row_filled : {n r : ℕ} {l o : List ℕ} → Filled (entry_acts w store e) n l r o → Filled (row_acts w t store i) n l r o
  row_filled {n} {r} {l} {o} x = subst (λ (a : List Act). Filled a n l r o) acts_so x

-- the rows of a list stand in the table
pub rows_inside : (m : ℕ) (t : List ℕ) → leb m (length t / 4) ≡ true → m * 4 ≤ length t
rows_inside m t e = omega (arith, leb-true m (length t / 4) e)

-- ---- a list

module _ (w : ℕ) (d : Descriptions) {v : ℕ} (s : Spells (count_byte w d) v) {p p₁ : Pen} (c : ChecksAll true (v ∷ []) p p₁) where
  counted : Checked (byte (count_byte w d) ∷ []) 1 p p₁
  counted = all_checked (more s none) c

  module _ {n : ℕ} (q : p₁ ≡ At n) where
    pub count_fits : d.entries.count < 2 ^ w
    count_fits = (fits_cons w _ [] (fits_cons _ _ _ (byte_fits p counted q)).1).0

    pub count_reach : reach p < 2 ^ 28 → n < 2 ^ 29
    count_reach h = let k : n ≤ reach p + 1 = rw q at counted.near in omega (arith, h, k)

module _ (w : ℕ) (t store : List ℕ) (d : Descriptions) {v : ℕ} (s : Spells (count_byte w d) v) where
  module _ {p p₁ : Pen} (c : ChecksAll true (v ∷ []) p p₁) where
    pub count_stops : {x : Stopped} → p₁ ≡ Err x → Checked (list_acts w t store d) (1 + 257 * (2 ^ w - 1)) p (Err x)
    unfolding list_acts
    count_stops q = rw (← q) (then (counted w d s c) (stopped (entries_acts w t store d.entries) _ q))

    pub list_checked : {n : ℕ} {r : Pen} → p₁ ≡ At n → Checked (entries_acts w t store d.entries) (257 * d.entries.count) (At n) r
        → Checked (list_acts w t store d) (1 + 257 * (2 ^ w - 1)) p r
    unfolding list_acts
    list_checked q x = P.more _ (then (counted w d s c) (here q x)) (omega (arith, count_fits w d s c q))

  module _ {n : ℕ} {l : List ℕ} (x : Ready (list_acts w t store d) n l) where
    all_left : Filling (list_acts w t store d) (map byte (count_byte w d ∷ []) ++ entries_acts w t store d.entries) n l n l
    unfolding list_acts
    all_left = fill_start x

    pub count_ready : ReadyAll true (v ∷ []) n l
    count_ready = ready_part (entries_acts w t store d.entries) {there = true} (more s none) all_left

    module _ {n₁ : ℕ} {o₁ : List ℕ} (y : FillsAll true (v ∷ []) n l n₁ o₁) where
      entries_left : Filling (list_acts w t store d) (entries_acts w t store d.entries) n l n₁ o₁
      entries_left = fill_part_lem (entries_acts w t store d.entries) {there = true} (more s none) all_left y

      pub entries_ready : Ready (entries_acts w t store d.entries) n₁ o₁
      entries_ready = entries_left.ready

      pub list_filled : {r : ℕ} {o : List ℕ} → Filled (entries_acts w t store d.entries) n₁ o₁ r o → Filled (list_acts w t store d) n l r o
      list_filled z = fill_last entries_left z
