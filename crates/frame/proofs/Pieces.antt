-- The laws of a record in pieces with lists of lawful rows behind them: it is a format, its actions are those of the format, and its tables mean what was read. Body puts them together to a lawful kind.
use Prim.Native.Nat.{ℕ, ◌+◌, ◌/◌, ◌≤◌, ◌<◌}
use mathlib.Core.List.{List, [], ◌∷◌, ◌++◌, append-nil, flat_map, map}
use mathlib.Core.Bool.{Bool, true, false, ◌&&◌}
use mathlib.Core.Option.{Option, none, some}
use mathlib.Core.Path.{◌≡◌, refl, sym, ap, subst, ◌∙◌}
use native.Mathlib.Omega.{arith}
use lib.ListN.{length, length-append, length-map}
use lib.Seq.{slice}
use lib.Dec.{eqb, leb}
use borrow.Author.Tests.{leb-true, le-leb}
use Rattle.wire.specs.Lists.{Every, all_nil, all_cons, each, Column}
use Rattle.wire.specs.Bits.{field}
use Rattle.wire.specs.Prog.{Prog, u8, pass, many, Within, ◌>>=◌}
use Rattle.wire.specs.Act.{Act, byte, copy, pick, rows}
use Rattle.wire.specs.declared.rows.Payload.{Payload}
use Rattle.wire.specs.Pen.{clean, bytes}
use Rattle.wire.specs.Layout.{Cell, Layout, end, Columns, reads, writes, shown, matches, cells, matched}
use Rattle.wire.proofs.Lists.{every_left, every_right, every_both, map_every}
use Rattle.wire.proofs.Writing.Acts.{and_both, both_and, clean_both}
use Rattle.wire.proofs.Writing.Passes.{slice_long}
use Rattle.wire.proofs.Reading.Takes.{Takes, takes_split, map_takes, Listed, many_takes}
use Rattle.wire.proofs.Layouts.Codec.{Spells, seen_as, prefixed, prefixed_read, prefixed_acts, prefixed_fits, opt, opt_read, opt_means, opt_acts, OptFits, opt_spans, spells_rows, Counted}
use Rattle.wire.proofs.Layouts.Codec as C
use Rattle.wire.proofs.Layouts.Forms as W
use Rattle.wire.proofs.Layouts.Forms.{Form, hole, form_read, form_go, form_means, form_acts, FormFits, form_shown, form_matches, form_spans, Breaks, woven, Holes, Cleans}
use Rattle.wire.proofs.Layouts.Rowed.{Good, good_list, weight, weighs}
use Rattle.frame.specs.Kind.{Lent, Rows, Heeded}
use Rattle.frame.specs.Claims.{Agree, rows_agree}
use Rattle.frame.specs.Entry.{needs, total, first_table, other_tables, filled}
use Rattle.frame.specs.Body.{RowType, Pieces, last, carrying, list, layouts, carried, parse, offset_of, length_of, given, payloads, tables, heeded_rows, beyond, run, inside, pieced, means}
use Rattle.frame.proofs.Lawful.{Shaped}
use Rattle.frame.proofs.RowTypes.{Had, Took, LawfulRows}

abbrev pub LawfulPieces : {T M : Type 0} → Pieces T M → Type 1
LawfulPieces (last l) = Unit {1}
LawfulPieces (carrying l j o n) = Unit {1}
LawfulPieces (list l k r p) = LawfulRows r × LawfulPieces p

-- the last piece has no rows that could be outside
pub and-true : (b : Bool) → (b && true) ≡ b
and-true true = refl
and-true false = refl

-- ---- as a format

unfoldable pub form : {T M : Type 0} (p : Pieces T M) → LawfulPieces p → Form T M
form (last l) w = W.last l
form (carrying l j o n) w = hole l j (λ v. opt prefixed (eqb v 1)) (W.last end)
form (list l k r p) w = hole l k (C.list w.0.codec) (form p w.1)

cells_cons : {T M : Type 0} (l : Layout) (p : Pieces T M) (g : Columns) → cells (l ∷ layouts p) g ≡ shown l g ++ cells (layouts p) g
unfolding cells layouts
cells_cons l (last l') g = refl
cells_cons l (carrying l' j o n) g = refl
cells_cons l (list l' k r p) g = refl

pub cells_of : {T M : Type 0} (p : Pieces T M) (w : LawfulPieces p) (g : Columns) → cells (layouts p) g ≡ form_shown (form p w) g
unfolding cells layouts form form_shown shown
cells_of (last l) w g = refl
cells_of (carrying l j o n) w g = sym (append-nil (shown l g))
cells_of (list l k r p) w g = cells_cons l p g ∙ ap (λ (cs : List Cell). shown l g ++ cs) (cells_of p w.1 g)

matched_cons : {T M : Type 0} (l : Layout) (p : Pieces T M) (g : Columns) → matched (l ∷ layouts p) g ≡ matches l g ++ matched (layouts p) g
unfolding matched layouts
matched_cons l (last l') g = refl
matched_cons l (carrying l' j o n) g = refl
matched_cons l (list l' k r p) g = refl

pub matched_of : {T M : Type 0} (p : Pieces T M) (w : LawfulPieces p) (g : Columns) → matched (layouts p) g ≡ form_matches (form p w) g
unfolding matched layouts form form_matches matches
matched_of (last l) w g = refl
matched_of (carrying l j o n) w g = sym (append-nil (matches l g))
matched_of (list l k r p) w g = matched_cons l p g ∙ ap (λ (q : List Act). matches l g ++ q) (matched_of p w.1 g)

pub parse_goes : {T M B : Type 0} (p : Pieces T M) (w : LawfulPieces p) (f : Columns) (all : Columns → T → Prog B) → form_go (form p w) f all ≡ parse p f all
unfolding form form_go parse C.list opt opt_read prefixed seen_as prefixed_read carried reads u8 pass ◌>>=◌
parse_goes (last l) w f all = refl
parse_goes (carrying l j o n) w f all = λ i. reads l f >>= λ g. same (eqb (g j) 1) i >>= λ x. all g (x, tt)
  where
    same : (b : Bool) → opt_read prefixed b ≡ carried b
    same false = refl
    same true = refl
parse_goes (list l k r p) w f all = λ i. reads l f >>= λ g. many (g k) (w.0.reads i) >>= λ x. parse_goes p w.1 g (λ h y. all h (x, y)) i

pub spans_so : {T M : Type 0} (p : Pieces T M) (w : LawfulPieces p) (g : Columns) (x : T) → form_spans (form p w) g x ≡ payloads p x
unfolding form form_spans payloads C.list opt opt_spans prefixed seen_as
spans_so (last l) w g x = refl
spans_so (carrying l j o n) w g x = one x.0
  where
    one : (y : Option Payload) → opt_spans prefixed y ++ [] ≡ given y
    one none = refl
    one (some y) = refl
spans_so (list l k r p) w g x = λ i. flat_map (λ a. w.0.spans a i) x.0 ++ spans_so p w.1 g x.1 i

-- ---- the actions

unfoldable pub breaks : {T M : Type 0} (p : Pieces T M) (w : LawfulPieces p) → Columns → Columns → Lent → List ℕ → Breaks (form p w)
unfolding form
breaks (last l) w g m lent store = tt
breaks (carrying l j o n) w g m lent store = (pick (eqb (m j) 1) (byte (field 8 (g n) ∷ []) ∷ copy (run g o n store) ∷ []) [], tt)
breaks (list l k r p) w g m lent store = (rows (r.acts lent store) 0 (m k), breaks p w.1 g m (beyond r.heeded lent) store)

pub pieced_so : {T M : Type 0} (p : Pieces T M) (w : LawfulPieces p) (g m : Columns) (lent : Lent) (store : List ℕ)
    → pieced p g m lent store ≡ woven (form p w) g (breaks p w g m lent store)
unfolding pieced form woven breaks writes
pieced_so (last l) w g m lent store = refl
pieced_so (carrying l j o n) w g m lent store = ap (λ (q : List Act). writes l g ++ q) (sym (append-nil _))
pieced_so (list l k r p) w g m lent store = λ i. writes l g ++ (rows (r.acts lent store) 0 (m k) ++ pieced_so p w.1 g m (beyond r.heeded lent) store i)

carried_spells : (g : Columns) (o n : ℕ) (store : List ℕ) (b : Bool) → pick b (leb (g o + g n) (length store)) true ≡ true
    → clean (pick b (byte (field 8 (g n) ∷ []) ∷ copy (run g o n store) ∷ []) []) ≡ true
    → Spells (opt prefixed b) (pick b (byte (field 8 (g n) ∷ []) ∷ copy (run g o n store) ∷ []) []) (pick b (some (run g o n store)) none)
unfolding opt opt_acts OptFits clean
carried_spells g o n store false i e = record { fits = tt; sound = refl; same = refl }
carried_spells g o n store true i e =
    let l = run g o n store in
    let long : length l ≡ g n = slice_long (g o) (g n) store (leb-true _ _ i) in
    let q : byte (field 8 (g n) ∷ []) ∷ copy l ∷ [] ≡ prefixed.acts l = (λ z. byte (field 8 (sym long z) ∷ []) ∷ copy l ∷ []) ∙ sym (prefixed_acts l) in
    record { fits = prefixed_fits l; sound = ap clean (sym q) ∙ e; same = ap bytes q }

-- each break spells its part of the meaning
pub holes_so : {T M : Type 0} (p : Pieces T M) (w : LawfulPieces p) (g m : Columns) (lent : Lent) (store : List ℕ) → inside p g m lent store ≡ true
    → clean (pieced p g m lent store) ≡ true → Holes (form p w) m (breaks p w g m lent store) (means p g m lent store)
unfolding inside pieced form Holes breaks means
holes_so (last l) w g m lent store i e = tt
holes_so (carrying l j o n) w g m lent store i e = (carried_spells g o n store (eqb (m j) 1) i (clean_both (writes l g) _ e).1, tt)
holes_so (list l k r p) w g m lent store i e =
    let (_, i₁) = and_both (leb (m k) (length (first_table lent) / r.columns)) _ i in
    let (_, e₀) = clean_both (writes l g) _ e in
    let (e₁, e₂) = clean_both (rows (r.acts lent store) 0 (m k)) _ e₀ in
    (spells_rows w.0.codec (r.acts lent store) (r.means lent store) (λ i. w.0.spells lent store i) 0 (m k) e₁, holes_so p w.1 g m (beyond r.heeded lent) store i₁ e₂)

-- ---- what writing reads of the tables decides them

agree_beyond : (hs more : List Heeded) {lent lent' : Lent} → Agree (hs ++ more) lent lent' → Agree more (beyond hs lent) (beyond hs lent')
unfolding beyond other_tables
agree_beyond [] more a = a
agree_beyond (h ∷ hs) more (rows_agree l e a) = agree_beyond hs more a

pub record SameTables {T M : Type 0} (p : Pieces T M) (g m : Columns) (lent lent' : Lent) (store : List ℕ) : Type 0 where
  pub inside : inside p g m lent store ≡ inside p g m lent' store
  pub acts : pieced p g m lent store ≡ pieced p g m lent' store

pub same_tables : {T M : Type 0} (p : Pieces T M) → LawfulPieces p → (g m : Columns) {lent lent' : Lent} (store : List ℕ) → Agree (heeded_rows p) lent lent'
    → SameTables p g m lent lent' store
unfolding inside pieced heeded_rows
same_tables (last l) w g m store a = record { inside = refl; acts = refl }
same_tables (carrying l j o n) w g m store a = record { inside = refl; acts = refl }
same_tables (list l k r p) w g m store a =
    let s = w.0.heeds (heeded_rows p) a in
    let y = same_tables p w.1 g m store (agree_beyond r.heeded (heeded_rows p) a) in
    record { inside = λ z. leb (m k) (s.long z / r.columns) && y.inside z; acts = λ z. writes l g ++ (rows (s.acts store z) 0 (m k) ++ y.acts z) }

-- ---- the tables of what was read

pub all_there : {T M : Type 0} (p : Pieces T M) → LawfulPieces p → (x : T) → length (tables p x) ≡ length (heeded_rows p)
unfolding tables heeded_rows
all_there (last l) w x = refl
all_there (carrying l j o n) w x = refl
all_there (list l k r p) w x =
    omega (arith, length-append (r.tables x.0) (tables p x.1), length-append r.heeded (heeded_rows p), w.0.all_there x.0, all_there p w.1 x.1)

filled_beyond : (hs : List Heeded) (ts more : List Rows) → length ts ≡ length hs → (lent : Lent) → beyond hs (filled (ts ++ more) lent) ≡ filled more (beyond hs lent)
unfolding beyond filled other_tables
filled_beyond [] [] more e lent = refl
filled_beyond [] (t ∷ ts) more e lent = absurd (omega (arith, e))
filled_beyond (h ∷ hs) [] more e lent = absurd (omega (arith, e))
filled_beyond (h ∷ hs) (t ∷ ts) more e lent = filled_beyond hs ts more (omega (arith, e)) (other_tables lent)

total_both : (ts more : List Rows) → total (needs (ts ++ more)) ≡ total (needs ts) + total (needs more)
unfolding needs total
total_both [] more = omega arith
total_both (t ∷ ts) more = omega (arith, total_both ts more)

-- the bytes that its layouts have at least
unfoldable pub weights : {T M : Type 0} → Pieces T M → ℕ
weights (last l) = weight l
weights (carrying l j o n) = weight l
weights (list l k r p) = weight l + weights p

-- the tables of what a program took, and that its rows and its layouts are no more than its bytes
pub record Grown {T M : Type 0} (p : Pieces T M) (x : T) (bs : List ℕ) : Type 0 where
  pub shaped : Every Shaped (tables p x)
  pub heavy : weights p + total (needs (tables p x)) ≤ length bs

pub grown : {T M : Type 0} (p : Pieces T M) (w : LawfulPieces p) (f : Columns) (at : ℕ) (z : Columns × T) (bs : List ℕ) → Takes (form_read (form p w) f) at z bs
    → Grown p z.1 bs
unfolding form form_read tables C.list needs total weights
grown (last l) w f at z bs t = let (g, e, u) = map_takes (reads l f) (λ g. (g, tt)) t in record { shaped = all_nil; heavy = omega (arith, weighs l f g at bs u) }
grown (carrying l j o n) w f at z bs t =
    let u = takes_split {B = Columns × (Option Payload × Unit {0})} (reads l f) _ t in
    record { shaped = all_nil; heavy = omega (arith, weighs l f u.value at u.front u.first, ap length u.joined ∙ length-append u.front u.back) }
grown (list {A} {T = S} l k r p) w f at z bs t =
    let B : Type 0 = Columns × (List A × S) in
    let u = takes_split {B = B} (reads l f) _ t in
    let v = takes_split {B = B} (many (u.value k) w.0.codec.read) _ u.second in
    let (y, e, d) = map_takes {B = B} (form_read (form p w.1) u.value) (λ y. (y.0, (v.value, y.1))) v.second in
    let a =
    w.0.grows
    (subst (λ (q : Prog A). Listed q (u.value k) (at + length u.front) v.value v.front) w.0.reads (many_takes w.0.codec.read (u.value k) v.first)) in
    let b = grown p w.1 u.value _ y v.back d in
    let n₀ = weighs l f u.value at u.front u.first in
    let n₁ = ap length u.joined ∙ length-append u.front u.back in
    let n₂ = ap length v.joined ∙ length-append v.front v.back in
    subst (λ (z : B). Grown (list l k r p) z.1 bs) e (record {
      shaped = every_both _ a.shaped b.shaped;
      heavy = omega (arith, total_both (r.tables v.value) (tables p y.1), a.few, b.heavy, n₀, n₁, n₂);
    })

pub took : {T M : Type 0} (p : Pieces T M) (w : LawfulPieces p) (f : Columns) (at : ℕ) (z : Columns × T) (bs : List ℕ) → Takes (form_read (form p w) f) at z bs
    → Took (tables p z.1) bs
took p w f at z bs t = let g = grown p w f at z bs t in record { shaped = g.shaped; few = omega (arith, g.heavy) }

-- ---- a record that was read of the body s, its columns h; g are those that writing reads, with the place of its payload

abbrev pub Stood : {T M : Type 0} → Pieces T M → T → Columns → Type 0
Stood (last l) x g = Unit {0}
Stood (carrying l j o n) x g = (g o ≡ offset_of x.0) × (g n ≡ length_of x.0)
Stood (list l k r p) x g = Stood p x.1 g

pub record Was {T M : Type 0} (p : Pieces T M) (w : LawfulPieces p) (s : List ℕ) (g h : Columns) (x : T) : Type 0 where
  pub stood : Stood p x g
  pub fits : FormFits (form p w) h (form_means (form p w) s h x)
  pub sound : clean (form_acts (form p w) h (form_means (form p w) s h x)) ≡ true
  pub within : Every (Within s) (payloads p x)

pub record ListedSo {A C : Type 0} (r : RowType A C) (w : LawfulRows r) (s : List ℕ) (k : ℕ) (l : List A) : Type 0 where
  pub counted : k ≡ length l
  pub had : Had r w.codec s l

module _ {A D T M : Type 0} (l : Layout) (k : ℕ) (r : RowType A D) (p : Pieces T M) (w : LawfulPieces (list l k r p)) {s : List ℕ} {g h : Columns} {x : List A × T} (d : Was (list l k r p) w s g h x) where
  pub rest_was : Was p w.1 s g h x.1
  unfolding form form_means FormFits form_acts payloads C.list
  rest_was =
      let (_, e₀) = clean_both (writes l h) _ d.sound in
      let (_, e₁) = clean_both ((C.list w.0.codec (h k)).acts (map (w.0.codec.means s) x.0)) _ e₀ in
      record { stood = d.stood; fits = d.fits.1.1; sound = e₁; within = every_right (Within s) (flat_map r.payloads x.0) _ d.within }

  pub list_was : ListedSo r w.0 s (h k) x.0
  unfolding form form_means FormFits form_acts payloads C.list Counted
  list_was =
      let m = w.0.codec in
      let (_, e₀) = clean_both (writes l h) _ d.sound in
      let (e₁, _) = clean_both (flat_map m.acts (map (m.means s) x.0)) _ e₀ in
      let (n, f) = d.fits.1.0 in
      record {
        counted = sym n ∙ length-map x.0 (m.means s);
        had = record { good = map_every (m.means s) (Good m) x.0 (good_list m (map (m.means s) x.0) f e₁); inside = every_left (Within s) (flat_map r.payloads x.0) _ d.within };
      }

  -- its tables, and those behind them
  tables_on : (lent : Lent) → beyond r.heeded (filled (tables (list l k r p) x) lent) ≡ filled (tables p x.1) (beyond r.heeded lent)
  unfolding tables
  tables_on lent = filled_beyond r.heeded (r.tables x.0) (tables p x.1) (w.0.all_there x.0) lent

-- the payload that was read, as it stands in the record
carried_means : (s : List ℕ) (a b : ℕ) (y : Option Payload) (c : Bool) → a ≡ offset_of y → b ≡ length_of y → OptFits prefixed c (opt_means prefixed s y)
    → pick c (some (slice a (a + b) s)) none ≡ opt_means prefixed s y
unfolding opt_means OptFits prefixed seen_as
carried_means s a b none true p q f = absurd f
carried_means s a b none false p q f = refl
carried_means s a b (some y) true p q f = λ i. some (slice (p i) (p i + q i) s)
carried_means s a b (some y) false p q f = absurd f

carried_ready : (s : List ℕ) (a b : ℕ) (y : Option Payload) (c : Bool) → a ≡ offset_of y → b ≡ length_of y → OptFits prefixed c (opt_means prefixed s y)
    → clean (opt_acts prefixed (opt_means prefixed s y)) ≡ true → Every (Within s) (given y)
    → (pick c (leb (a + b) (length s)) true ≡ true) × (clean (pick c (byte (field 8 b ∷ []) ∷ copy (slice a (a + b) s) ∷ []) []) ≡ true)
unfolding opt_means opt_acts OptFits prefixed seen_as clean
carried_ready s a b none true p q f e i = absurd f
carried_ready s a b none false p q f e i = (refl, refl)
carried_ready s a b (some y) false p q f e i = absurd f
carried_ready s a b (some y) true p q f e (all_cons i _) =
    let l = slice y.offset (y.offset + y.length) s in
    let long : length l ≡ b = slice_long y.offset y.length s i ∙ sym q in
    let n : a + b ≤ length s = omega (arith, p, q, i) in
    (le-leb _ _ n, (λ z. clean (byte (field 8 (sym long z) ∷ []) ∷ copy (slice (p z) (p z + q z) s) ∷ [])) ∙ ap clean (sym (prefixed_acts l)) ∙ e)

pub means_so : {T M : Type 0} (p : Pieces T M) (w : LawfulPieces p) {s : List ℕ} {g h : Columns} {x : T} → Was p w s g h x → (lent : Lent)
    → means p g h (filled (tables p x) lent) s ≡ form_means (form p w) s h x
unfolding form form_means means FormFits tables opt C.list
means_so (last l) w d lent = refl
means_so (carrying l j o n) w {s} {g} {h} {x} d lent = λ i. (carried_means s (g o) (g n) x.0 (eqb (h j) 1) d.stood.0 d.stood.1 d.fits.1.0 i, tt)
means_so (list l k r p) w {s} {g} {h} {x} d lent =
    let y = list_was l k r p w d in
    let a = ap (each (r.means (filled (r.tables x.0 ++ tables p x.1) lent) s) 0) y.counted ∙ w.0.laid s x.0 y.had (tables p x.1) lent in
    let b = ap (λ (lent : Lent). means p g h lent s) (tables_on l k r p w d lent) ∙ means_so p w.1 (rest_was l k r p w d) (beyond r.heeded lent) in
    λ i. (a i, b i)

pub inside_so : {T M : Type 0} (p : Pieces T M) (w : LawfulPieces p) {s : List ℕ} {g h : Columns} {x : T} → Was p w s g h x → (lent : Lent)
    → inside p g h (filled (tables p x) lent) s ≡ true
unfolding inside tables form form_means form_acts FormFits opt payloads
inside_so (last l) w d lent = refl
inside_so (carrying l j o n) w {s} {g} {h} {x} d lent =
    let (e, _) = clean_both (opt_acts prefixed (opt_means prefixed s x.0)) _ (clean_both (writes l h) _ d.sound).1 in
    (carried_ready s (g o) (g n) x.0 (eqb (h j) 1) d.stood.0 d.stood.1 d.fits.1.0 e d.within).0
inside_so (list l k r p) w {s} {g} {h} {x} d lent =
    let y = list_was l k r p w d in
    let n = w.0.room s x.0 y.had (tables p x.1) lent in
    let k₀ : h k ≤ length (first_table (filled (r.tables x.0 ++ tables p x.1) lent)) / r.columns = omega (arith, y.counted, n) in
    both_and (le-leb _ _ k₀) (ap (λ (lent : Lent). inside p g h lent s) (tables_on l k r p w d lent) ∙ inside_so p w.1 (rest_was l k r p w d) (beyond r.heeded lent))

pub ready_so : {T M : Type 0} (p : Pieces T M) (w : LawfulPieces p) {s : List ℕ} {g h : Columns} {x : T} → Was p w s g h x → (lent : Lent)
    → Cleans (form p w) (breaks p w g h (filled (tables p x) lent) s)
unfolding form breaks Cleans tables form_means form_acts FormFits opt payloads
ready_so (last l) w d lent = tt
ready_so (carrying l j o n) w {s} {g} {h} {x} d lent =
    let (e, _) = clean_both (opt_acts prefixed (opt_means prefixed s x.0)) _ (clean_both (writes l h) _ d.sound).1 in
    ((carried_ready s (g o) (g n) x.0 (eqb (h j) 1) d.stood.0 d.stood.1 d.fits.1.0 e d.within).1, tt)
ready_so (list l k r p) w {s} {g} {h} {x} d lent =
    let y = list_was l k r p w d in (
      ap (λ (n : ℕ). clean (rows (r.acts (filled (r.tables x.0 ++ tables p x.1) lent) s) 0 n)) y.counted ∙ w.0.ready s x.0 y.had (tables p x.1) lent,
      subst (λ (lent : Lent). Cleans (form p w.1) (breaks p w.1 g h lent s)) (sym (tables_on l k r p w d lent)) (ready_so p w.1 (rest_was l k r p w d) (beyond r.heeded lent)),
    )

pub columns_so : {T M : Type 0} (p : Pieces T M) (w : LawfulPieces p) {s : List ℕ} {g h : Columns} {x : T} → Was p w s g h x → length s < 65536
    → total (needs (tables p x)) < 65536 → Every (λ (q : Rows). Every (Every Column) q.rows) (tables p x)
unfolding tables
columns_so (last l) w d a b = all_nil
columns_so (carrying l j o n) w d a b = all_nil
columns_so (list l k r p) w {s} {g} {h} {x} d a b =
    let n = total_both (r.tables x.0) (tables p x.1) in
    every_both _ (w.0.columns_so s x.0 (list_was l k r p w d).had a (omega (arith, n, b))) (columns_so p w.1 (rest_was l k r p w d) a (omega (arith, n, b)))
