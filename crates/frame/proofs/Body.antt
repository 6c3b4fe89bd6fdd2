-- A kind that comes from its syntax tables is lawful (Lawful), if its rows are, its pieces pass tests that compute, and the declared record is its columns.
use Prim.Native.Nat.{ℕ, zero, suc, ◌+◌, ◌/◌, ◌≤◌, ◌<◌}
use mathlib.Core.List.{List, [], ◌∷◌, ◌++◌, flat_map}
use mathlib.Core.Bool.{Bool, true, false, not, ◌&&◌, ◌||◌}
use mathlib.Core.Option.{Option, none, some}
use mathlib.Core.Path.{◌≡◌, refl, sym, ap, subst, ◌∙◌}
use native.Mathlib.Omega.{arith}
use lib.ListN.{length, length-append, get_or-eq_default}
use lib.Seq.{slice}
use lib.Dec.{eqb, leb, ltb}
use borrow.Author.Tests.{not-true, eqb-true, eq-eqb, leb-true, ltb-true}
use Rattle.wire.specs.Lists.{Every, all_cons, Column}
use Rattle.wire.specs.Bits.{bit, is_flag, field}
use Rattle.wire.specs.Prog.{Prog, ret, span, Within}
use Rattle.wire.specs.Act.{Act, demand, byte, copy, pick, rows}
use Rattle.wire.specs.declared.pen.Fault.TheVariants as F
use Rattle.wire.specs.declared.rows.Payload.{Payload}
use Rattle.wire.specs.Pen.{clean}
use Rattle.wire.specs.Layout.{Cell, Columns, of, row, set, cells, every, flagged, columns, has, kept, blank, demands}
use Rattle.wire.proofs.Lists.{every_right}
use Rattle.wire.proofs.Writing.Acts.{and_both}
use Rattle.wire.proofs.Reading.Takes.{Takes, map_takes}
use Rattle.wire.proofs.Layouts.Codec.{Codec, Spells}
use Rattle.wire.proofs.Layouts.Cells.{On, clash, mix_in, mix_all}
use Rattle.wire.proofs.Layouts.Forms.{Form, form_read, form_goes, form_means, form_shown, form_all, form_proper, form_in_bytes, form_shown_in, below, row_of, rows_codec, RowFits, means_as, means_same, row_ready, row_bytes_lem, Faultless}
use Rattle.wire.proofs.Layouts.Rowed.{row_on, on_all}
use Rattle.frame.specs.Kind.{Lent, Rows, Held}
use Rattle.frame.specs.Claims.{Agree}
use Rattle.frame.specs.Entry.{needs, total, first_table, filled}
use Rattle.frame.specs.Body.{Pieces, last, carrying, list, layouts, offset_of, length_of, given, with_place, payloads, tables, heeded_rows, beyond, run, inside, pieced, means, heeds, Body, counts, acts_of, value_of, heeds_of, kind}
use Rattle.frame.proofs.Lawful.{Lawful}
use Rattle.frame.proofs.RowTypes.{Took}
use Rattle.frame.proofs.Records.{kept_so, record_spells, sound_at, record_ready, record_alike}
use Rattle.frame.proofs.Pieces.{LawfulPieces, form, cells_of, parse_goes, spans_so, breaks, pieced_so, holes_so, same_tables, all_there, took, Stood, Was, means_so, inside_so, ready_so, columns_so}

-- ---- the place of a payload: two columns of the record that stand in no byte

unfoldable pub places : {T M : Type 0} → Pieces T M → List ℕ
places (last l) = []
places (carrying l j o n) = o ∷ n ∷ []
places (list l k r p) = places p

unfoldable pub places_test : {T M : Type 0} → Pieces T M → (width : ℕ) → List ℕ → Bool
places_test (last l) w ks = true
places_test (carrying l j o n) w ks = below w (o ∷ n ∷ []) && (not (eqb n o) && (not (has o ks) && not (has n ks)))
places_test (list l k r p) w ks = places_test p w ks

record Apart (o n w : ℕ) (ks : List ℕ) : Type 0 where
  low : below w (o ∷ n ∷ []) ≡ true
  two : eqb n o ≡ false
  offset : has o ks ≡ false
  size : has n ks ≡ false

apart_of : (o n w : ℕ) (ks : List ℕ) → (below w (o ∷ n ∷ []) && (not (eqb n o) && (not (has o ks) && not (has n ks)))) ≡ true → Apart o n w ks
apart_of o n w ks e =
    let (a, e₀) = and_both (below w (o ∷ n ∷ [])) _ e in
    let (b, e₁) = and_both (not (eqb n o)) _ e₀ in
    let (c, d) = and_both (not (has o ks)) (not (has n ks)) e₁ in
    record { low = a; two = not-true _ b; offset = not-true _ c; size = not-true _ d }

-- two columns set to anything leave the others, and are found
set_others : (o n w : ℕ) (ks : List ℕ) → Apart o n w ks → (a b : ℕ) (f : Columns) (j : ℕ) → has j ks ≡ true → set o a (set n b f) j ≡ f j
set_others o n w ks t a b f j h = go (eqb j o) refl (eqb j n) refl
  where
    go : (x : Bool) → eqb j o ≡ x → (y : Bool) → eqb j n ≡ y → pick x a (pick y b (f j)) ≡ f j
    go true p y q = clash (subst (λ (k : ℕ). has k ks ≡ true) (eqb-true j o p) h) t.offset
    go false p true q = clash (subst (λ (k : ℕ). has k ks ≡ true) (eqb-true j n q) h) t.size
    go false p false q = refl

record Both (o n w : ℕ) (a b : ℕ) (f : Columns) : Type 0 where
  offset : of (row w (set o a (set n b f))) o ≡ a
  size : of (row w (set o a (set n b f))) n ≡ b

set_both : (o n w : ℕ) (ks : List ℕ) → Apart o n w ks → (a b : ℕ) (f : Columns) → Both o n w a b f
unfolding has
set_both o n w ks t a b f =
    let same : eqb o o ≡ true = eq-eqb o o refl in
    let also : eqb n n ≡ true = eq-eqb n n refl in
    let there : has n (o ∷ n ∷ []) ≡ true = rw (also, t.two) in
    let q = row_on w (o ∷ n ∷ []) t.low (row w (set o a (set n b f))) (set o a (set n b f)) refl in
    record { offset = q o (rw same) ∙ rw same; size = q n there ∙ rw (t.two, also) }

placed_on : {T M : Type 0} (p : Pieces T M) (w : ℕ) (ks : List ℕ) → places_test p w ks ≡ true → (x : T) (f : Columns) (j : ℕ) → has j ks ≡ true → with_place p x f j ≡ f j
unfolding places_test with_place
placed_on (last l) w ks e x f j h = refl
placed_on (carrying l i o n) w ks e x f j h = set_others o n w ks (apart_of o n w ks e) (offset_of x.0) (length_of x.0) f j h
placed_on (list l k r p) w ks e x f j h = placed_on p w ks e x.1 f j h

-- columns that are no place are left
placed_off : {T M : Type 0} (p : Pieces T M) (x : T) (f : Columns) (j : ℕ) → has j (places p) ≡ false → with_place p x f j ≡ f j
unfolding places with_place has
placed_off (last l) x f j h = refl
placed_off (carrying l i o n) x f j h = go (eqb j o) (eqb j n) h
  where
    go : (a b : Bool) → (a || (b || false)) ≡ false → pick a (offset_of x.0) (pick b (length_of x.0) (f j)) ≡ f j
    go true b e = clash refl e
    go false true e = clash refl e
    go false false e = refl
placed_off (list l k r p) x f j h = placed_off p x.1 f j h

placed_stands : {T M : Type 0} (p : Pieces T M) (w : ℕ) (ks : List ℕ) → places_test p w ks ≡ true → (x : T) (f : Columns) → Stood p x (of (row w (with_place p x f)))
unfolding places_test with_place
placed_stands (last l) w ks e x f = tt
placed_stands (carrying l i o n) w ks e x f = let y = set_both o n w ks (apart_of o n w ks e) (offset_of x.0) (length_of x.0) f in (y.offset, y.size)
placed_stands (list l k r p) w ks e x f = placed_stands p w ks e x.1 f

-- the place of a payload that stands in the body is small
placed_small : {T M : Type 0} (p : Pieces T M) (x : T) (f : Columns) (s : List ℕ) → Every (Within s) (payloads p x) → length s < 65536 → ((j : ℕ) → f j < 65536) → (j : ℕ)
    → with_place p x f j < 65536
unfolding with_place payloads
placed_small (last l) x f s h n c j = c j
placed_small (carrying l i o m) x f s h n c j = go x.0 h (eqb j o) (eqb j m)
  where
    go : (y : Option Payload) → Every (Within s) (given y) → (a b : Bool) → pick a (offset_of y) (pick b (length_of y) (f j)) < 65536
    go none h true b = omega arith
    go none h false true = omega arith
    go none h false false = c j
    go (some y) (all_cons h _) true b = omega (arith, h)
    go (some y) (all_cons h _) false true = omega (arith, h)
    go (some y) h false false = c j
placed_small (list l k r p) x f s h n c j = placed_small p x.1 f s (every_right (Within s) (flat_map r.payloads x.0) _ h) n c j

-- ---- what writing reads of the record decides its actions

-- h has the place that g has, if there is a payload
abbrev KeptPlace : {T M : Type 0} → Pieces T M → (m g h : Columns) → Type 0
KeptPlace (last l) m g h = Unit {0}
KeptPlace (carrying l j o n) m g h = eqb (m j) 1 ≡ true → (g o ≡ h o) × (g n ≡ h n)
KeptPlace (list l k r p) m g h = KeptPlace p m g h

heeds_place : {T M : Type 0} (p : Pieces T M) (w : ℕ) (ks : List ℕ) → places_test p w ks ≡ true → (m g f : Columns) → KeptPlace p m g (of (row w (heeds p g m f)))
unfolding places_test heeds
heeds_place (last l) w ks e m g f = tt
heeds_place (carrying l j o n) w ks e m g f = λ q.
    let y = set_both o n w ks (apart_of o n w ks e) (pick (eqb (m j) 1) (g o) 0) (pick (eqb (m j) 1) (g n) 0) f in
    (ap (λ (b : Bool). pick b (g o) 0) (sym q) ∙ sym y.offset, ap (λ (b : Bool). pick b (g n) 0) (sym q) ∙ sym y.size)
heeds_place (list l k r p) w ks e m g f = heeds_place p w ks e m g f

heeds_on : {T M : Type 0} (p : Pieces T M) (w : ℕ) (ks : List ℕ) → places_test p w ks ≡ true → (m g f : Columns) (j : ℕ) → has j ks ≡ true → heeds p g m f j ≡ f j
unfolding places_test heeds
heeds_on (last l) w ks e m g f j h = refl
heeds_on (carrying l i o n) w ks e m g f j h = set_others o n w ks (apart_of o n w ks e) (pick (eqb (m i) 1) (g o) 0) (pick (eqb (m i) 1) (g n) 0) f j h
heeds_on (list l k r p) w ks e m g f j h = heeds_on p w ks e m g f j h

record SamePlaces {T M : Type 0} (p : Pieces T M) (w : LawfulPieces p) (m g h : Columns) (lent : Lent) (store : List ℕ) : Type 0 where
  inside : inside p g m lent store ≡ inside p h m lent store
  breaks : breaks p w g m lent store ≡ breaks p w h m lent store

same_places : {T M : Type 0} (p : Pieces T M) (w : LawfulPieces p) (m g h : Columns) (lent : Lent) (store : List ℕ) → KeptPlace p m g h → SamePlaces p w m g h lent store
unfolding inside breaks form
same_places (last l) w m g h lent store k = record { inside = refl; breaks = refl }
same_places (carrying l j o n) w m g h lent store k = go (eqb (m j) 1) k
  where
    ran : Bool → Columns → List Act
    ran b g = pick b (byte (field 8 (g n) ∷ []) ∷ copy (run g o n store) ∷ []) []

    fits : Bool → Columns → Bool
    fits b g = pick b (leb (g o + g n) (length store)) true

    both : (b : Bool) → (b ≡ true → (g o ≡ h o) × (g n ≡ h n)) → (fits b g ≡ fits b h) × (ran b g ≡ ran b h)
    both true k = let (x, y) = k refl in (λ i. leb (x i + y i) (length store), λ i. byte (field 8 (y i) ∷ []) ∷ copy (slice (x i) (x i + y i) store) ∷ [])
    both false k = (refl, refl)

    go : (b : Bool) → (eqb (m j) 1 ≡ true → (g o ≡ h o) × (g n ≡ h n)) → SamePlaces (carrying l j o n) w m g h lent store
    go b k = let y = both (eqb (m j) 1) k in record { inside = y.0; breaks = λ i. (y.1 i, tt) }
same_places (list l k r p) w m g h lent store q =
    let y = same_places p w.1 m g h (beyond r.heeded lent) store q in
    record { inside = λ i. leb (m k) (length (first_table lent) / r.columns) && y.inside i; breaks = λ i. (rows (r.acts lent store) 0 (m k), y.breaks i) }

-- ---- what has to be proved of a body

-- tests that compute: of the layouts, of the place of a payload, and of the columns that reading starts from
unfoldable pub tests : {T M Top : Type 0} (b : Body T M Top) → LawfulPieces b.pieces → Bool
tests b w = let x = form b.pieces w in form_proper [] x && (below b.columns (form_all x) && (form_in_bytes x && (places_test b.pieces b.columns (form_all x) && (leb (length b.absent) b.columns && below 256 b.absent))))

pub record Passed {T M Top : Type 0} (b : Body T M Top) (w : LawfulPieces b.pieces) : Type 0 where
  pub proper : form_proper [] (form b.pieces w) ≡ true
  pub below : below b.columns (form_all (form b.pieces w)) ≡ true
  pub in_bytes : form_in_bytes (form b.pieces w) ≡ true
  pub apart : places_test b.pieces b.columns (form_all (form b.pieces w)) ≡ true
  pub absent_out : (j : ℕ) → b.columns ≤ j → of b.absent j ≡ 0
  pub absent_small : (j : ℕ) → of b.absent j < 256

-- columns that are given one by one, below 256
of_small : (l : List ℕ) → below 256 l ≡ true → (j : ℕ) → of l j < 256
unfolding below
of_small [] e j = omega arith
of_small (v ∷ l) e zero = ltb-true v 256 (and_both (ltb v 256) _ e).0
of_small (v ∷ l) e (suc j) = of_small l (and_both (ltb v 256) _ e).1 j

pub passed : {T M Top : Type 0} (b : Body T M Top) (w : LawfulPieces b.pieces) → tests b w ≡ true → Passed b w
unfolding tests
passed b w e =
    let x = form b.pieces w in
    let (proper, e₀) = and_both (form_proper [] x) _ e in
    let (low, e₁) = and_both (below b.columns (form_all x)) _ e₀ in
    let (in_bytes, e₂) = and_both (form_in_bytes x) _ e₁ in
    let (apart, e₃) = and_both (places_test b.pieces b.columns (form_all x)) _ e₂ in
    let (few, small) = and_both (leb (length b.absent) b.columns) _ e₃ in
    record { proper = proper; below = low; in_bytes = in_bytes; apart = apart; absent_out = λ j h. get_or-eq_default b.absent 0 (omega (arith, leb-true (length b.absent) b.columns few)); absent_small = of_small b.absent small }

pub record LawfulBody {T M Top : Type 0} (b : Body T M Top) : Type 1 where
  pub rows : LawfulPieces b.pieces
  pub passes : tests b rows ≡ true
  -- the declared record is its columns, if its flags are flags; its trailing run; and what its types can hold
  pub again : (g : Columns) (r : Payload) → every flagged g (cells (layouts b.pieces) g) ≡ true → b.fields (b.made (row b.columns g) r) ≡ row b.columns g
  pub kept : (m : Top) → b.fields (b.made (heeds_of b (of (b.fields m))) (b.trailing m)) ≡ heeds_of b (of (b.fields m))
  pub run_of : (c : List ℕ) (r : Payload) → b.trailing (b.made c r) ≡ r
  pub run_set : (c : List ℕ) (r q : Payload) → b.retrail (b.made c r) q ≡ b.made c q
  pub held : (g : Columns) → ((j : ℕ) → g j < 65536) → ((j : ℕ) → has j (places b.pieces) ≡ false → g j < 256) → (k n : ℕ) → k < 65536 → n < 65536
      → Every Held (b.bounds (b.made (row b.columns g) (span k n)))

module _ {T M Top : Type 0} (b : Body T M Top) (w : LawfulBody b) where
  abbrev p : Pieces T M
  p = b.pieces

  abbrev x : Form T M
  x = form p w.rows

  abbrev start : Columns
  start = of b.absent

  pub passing : Passed b w.rows
  passing = passed b w.rows w.passes

  unfoldable pub format : Codec (List ℕ × T) (List ℕ × M)
  format = rows_codec b.columns x start passing.proper passing.below passing.absent_out

  pub reads_so : format.read ≡ (kind b).program
  unfolding format rows_codec
  reads_so = form_goes x start (λ v. ret (row b.columns v.0, v.1)) ∙ parse_goes p w.rows start (λ g y. ret (row b.columns g, y))

  pub spans_are : (t : List ℕ × T) → format.spans t ≡ payloads p t.1
  unfolding format rows_codec
  spans_are t = spans_so p w.rows (of t.0) t.1

  -- ---- actions without a fault are those of the meaning

  spells_of : (g : Columns) (lent : Lent) (store : List ℕ) → clean (acts_of b g lent store) ≡ true → Spells format (acts_of b g lent store) (value_of b g lent store)
  unfolding format
  spells_of g lent store =
      let m = counts b g in
      record_spells p w.rows b.columns start passing.proper passing.below passing.absent_out (inside p g m lent store) g (breaks p w.rows g m lent store) (means p g m lent store) (pieced_so p w.rows g m lent store)
      (holes_so p w.rows g m lent store)

  -- ---- what was read of the body s; writing sees its columns with the place of its payload

  module _ (t : List ℕ × T) (s : List ℕ) (f : format.Fits (format.means s t)) (e : clean (format.acts (format.means s t)) ≡ true) (i : Every (Within s) (payloads p t.1)) where
    abbrev h : Columns
    h = of t.0

    abbrev full : Columns
    full = with_place p t.1 h

    abbrev g : Columns
    g = of (row b.columns full)

    fits : RowFits b.columns x start passing.proper passing.below passing.absent_out (t.0, form_means x s h t.1)
    unfolding format rows_codec
    fits = f

    full_on : On (form_all x) h full
    full_on j q = sym (placed_on p b.columns (form_all x) passing.apart t.1 h j q)

    g_on : On (form_all x) h g
    g_on j q = full_on j q ∙ sym (row_on b.columns (form_all x) passing.below (row b.columns full) full refl j q)

    faultless : (k : Columns) → On (form_all x) h k → Faultless x k
    unfolding format rows_codec
    faultless k o = row_ready b.columns x start passing.proper passing.below passing.absent_out (t.0, form_means x s h t.1) f e k (on_all x h k o)

    pub fields_are : (r : Payload) → b.fields (b.made (row b.columns full) r) ≡ row b.columns full
    fields_are r = w.again full r (sound_at p w.rows b.columns start passing.proper passing.below passing.absent_out (faultless full full_on)).0

    counts_were : counts b g ≡ h
    unfolding RowFits
    counts_were =
        kept_so p w.rows b.columns start passing.proper passing.below passing.absent_out g
        ∙ sym (means_same b.columns x start passing.proper passing.below passing.absent_out h g (on_all x h g g_on))
        ∙ mix_all (columns (form_shown x h)) fits.1

    was : Was p w.rows s g h t.1
    unfolding RowFits format rows_codec
    was = record { stood = placed_stands p b.columns (form_all x) passing.apart t.1 h; fits = f.2; sound = e; within = i }

    pub laid : (lent : Lent) → value_of b g (filled (tables p t.1) lent) s ≡ format.means s t
    unfolding RowFits format rows_codec
    laid lent =
        let l = filled (tables p t.1) lent in
        (λ z. (row b.columns (counts_were z), means p g (counts_were z) l s)) ∙ (λ z. (row_of b.columns t.0 f.0 z, means_so p w.rows was lent z))

    pub ready : (lent : Lent) → clean (acts_of b g (filled (tables p t.1) lent) s) ≡ true
    ready lent =
        let l = filled (tables p t.1) lent in
        ap (λ (m : Columns). clean (demand F.Range (inside p g m l s) ∷ demands (layouts p) g ++ pieced p g m l s)) counts_were
        ∙ record_ready p w.rows b.columns start passing.proper passing.below passing.absent_out (breaks p w.rows g h l s)
        (pieced_so p w.rows g h l s) (inside_so p w.rows was lent) (faultless g g_on) (ready_so p w.rows was lent)

    pub in_columns : length s < 65536 → total (needs (tables p t.1)) < 65536 → Every (λ (q : Rows). Every (Every Column) q.rows) (tables p t.1)
    in_columns = columns_so p w.rows was

    pub bounds_hold : length s < 65536 → (k n : ℕ) → k < 65536 → n < 65536 → Every Held (b.bounds (b.made (row b.columns full) (span k n)))
    unfolding format rows_codec
    bounds_hold n =
        let c =
        row_bytes_lem b.columns x start passing.proper passing.below passing.absent_out passing.in_bytes passing.absent_small (t.0, form_means x s h t.1) f e in
        w.held full (placed_small p t.1 h s i n (λ j. let y = c j in omega arith)) (λ j q. let y = c j in let z = placed_off p t.1 h j q in omega (arith, y, z))

  -- ---- what writing reads decides the actions

  heeds_so : (g : Columns) → On (columns (form_shown x g)) g (of (heeds_of b g))
  heeds_so g j q = go (has j (form_all x)) refl
    where
      k : Columns
      k = kept (layouts p) g blank

      go : (y : Bool) → has j (form_all x) ≡ y → g j ≡ of (heeds_of b g) j
      go false z = clash q (form_shown_in x g j z)
      go true z =
          let a = row_on b.columns (form_all x) passing.below (heeds_of b g) (heeds p g (counts b g) k) refl j z in
          let c = heeds_on p b.columns (form_all x) passing.apart (counts b g) g k j z in
          sym (a ∙ c ∙ mix_in (columns (cells (layouts p) g)) g blank j (ap (λ (cs : List Cell). has j (columns cs)) (cells_of p w.rows g) ∙ q))

  acts_kept : (g : Columns) (lent : Lent) (store : List ℕ) → acts_of b g lent store ≡ acts_of b (of (heeds_of b g)) lent store
  acts_kept g lent store =
      let m = counts b g in
      let h = of (heeds_of b g) in
      let o = heeds_so g in
      let c : (g : Columns) → counts b g ≡ means_as b.columns x start passing.proper passing.below passing.absent_out g =
      kept_so p w.rows b.columns start passing.proper passing.below passing.absent_out in
      let same : m ≡ counts b h = c g ∙ means_same b.columns x start passing.proper passing.below passing.absent_out g h o ∙ sym (c h) in
      let y = same_places p w.rows m g h lent store (heeds_place p b.columns (form_all x) passing.apart m g (kept (layouts p) g blank)) in
      record_alike p w.rows b.columns start passing.proper passing.below passing.absent_out g h o (y.inside ∙ ap (λ (m : Columns). inside p h m lent store) same)
      (breaks p w.rows g m lent store) (breaks p w.rows h (counts b h) lent store) (y.breaks ∙ ap (λ (m : Columns). breaks p w.rows h m lent store) same)
      (pieced_so p w.rows g m lent store) (pieced_so p w.rows h (counts b h) lent store)

  tables_heed : (g : Columns) (store : List ℕ) {lent lent' : Lent} → Agree (heeded_rows p) lent lent' → acts_of b g lent store ≡ acts_of b g lent' store
  tables_heed g store a = let s = same_tables p w.rows g (counts b g) store a in λ i. demand F.Range (s.inside i) ∷ demands (layouts p) g ++ s.acts i

  abbrev heeded_of : Top → Top
  heeded_of m = b.made (heeds_of b (of (b.fields m))) (b.trailing m)

  decided : (m m' : Top) (lent lent' : Lent) (store : List ℕ) → heeded_of m ≡ heeded_of m' → Agree (heeded_rows p) lent lent'
      → (acts_of b (of (b.fields m)) lent store ≡ acts_of b (of (b.fields m')) lent' store) × (b.trailing m ≡ b.trailing m')
  decided m m' lent lent' store e a =
      let one : (m : Top) → acts_of b (of (b.fields m)) lent store ≡ acts_of b (of (b.fields (heeded_of m))) lent store = λ m. acts_kept (of (b.fields m)) lent store ∙ ap (λ (r : List ℕ). acts_of b (of r) lent store) (sym (w.kept m)) in
      (one m ∙ ap (λ (m : Top). acts_of b (of (b.fields m)) lent store) e ∙ sym (one m') ∙ tables_heed (of (b.fields m')) store a, sym (w.run_of _ (b.trailing m)) ∙ ap b.trailing e ∙ w.run_of _ (b.trailing m'))

  -- ---- the kind

  took_of : (t : List ℕ × T) (bs : List ℕ) → Takes (kind b).program 0 t bs → Took (tables p t.1) bs
  unfolding format rows_codec
  took_of t bs d =
      let d' = subst (λ (q : Prog (List ℕ × T)). Takes q 0 t bs) (sym reads_so) d in
      let (z, e, y) = map_takes {B = List ℕ × T} (form_read x start) (λ v. (row b.columns v.0, v.1)) d' in
      subst (λ (t : List ℕ × T). Took (tables p t.1) bs) e (took p w.rows start 0 z bs y)

  pub lawful : Lawful (kind b)
  lawful = record {
    run_of = λ t r. w.run_of _ r;
    run_set = λ t r q. w.run_set _ r q;
    format = format;
    reads = reads_so;
    spans_so = spans_are;
    all_there = λ t. all_there p w.rows t.1;
    shaped = λ t bs d. (took_of t bs d).shaped;
    bounded = λ t bs d. (took_of t bs d).few;
    laid = λ t bs rest lent d f. ap (λ (r : List ℕ). value_of b (of r) (filled (tables p t.1) lent) (bs ++ rest)) (fields_are t (bs ++ rest) d.fits d.sound d.inside (span (length bs) (length rest))) ∙ laid t (bs ++ rest) d.fits d.sound d.inside lent;
    held = λ t bs rest d l. let n = length-append bs rest in bounds_hold t (bs ++ rest) d.fits d.sound d.inside l (length bs) (length rest) (omega (arith, n, l)) (omega (arith, n, l));
    columns = λ t bs rest d l. let n = (took_of t bs d.takes).few in let m = length-append bs rest in in_columns t (bs ++ rest) d.fits d.sound d.inside l (omega (arith, n, m, l));
    ready = λ t bs rest lent d f. ap (λ (r : List ℕ). clean (acts_of b (of r) (filled (tables p t.1) lent) (bs ++ rest))) (fields_are t (bs ++ rest) d.fits d.sound d.inside (span (length bs) (length rest))) ∙ ready t (bs ++ rest) d.fits d.sound d.inside lent;
    heeds = decided;
    spells = λ m lent store. spells_of (of (b.fields m)) lent store;
  }

-- ---- for the records that are declared

-- a flag in a record is one of its columns
pub bit_back : (v : ℕ) → is_flag v ≡ true → bit (eqb v 1) ≡ v
bit_back zero e = refl
bit_back (suc zero) e = refl
bit_back (suc (suc v)) e = let h : suc (suc v) ≤ 1 = leb-true _ _ e in absurd (omega arith)
