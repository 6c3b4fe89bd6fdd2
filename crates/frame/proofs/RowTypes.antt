-- What has to be proved of a row type, so that a kind with lists of such rows is lawful (Bodies); and that the three row types of Body have it: plain rows, rows with rows of another table, and rows that end with a payload.
use Prim.Native.Nat.{ℕ, ◌+◌, ◌/◌, ◌≤◌, ◌<◌}
use mathlib.Core.List.{List, [], ◌∷◌, ◌++◌, map, map-id, flatten, flat_map}
use mathlib.Core.Bool.{true}
use mathlib.Core.Path.{◌≡◌, refl, sym, ap, subst, ◌∙◌}
use native.Mathlib.Omega.{arith}
use lib.ListN.{length, drop, length-map}
use Rattle.wire.specs.Lists.{Every, all_nil, all_cons, each, firsts, Column}
use Rattle.wire.specs.Prog.{Within}
use Rattle.wire.specs.Act.{Act, rows}
use Rattle.wire.specs.Pen.{clean}
use Rattle.wire.specs.Layout.{Layout, Columns, of, at, row, flat, flat_acts, Broken, broken, broken_row, broken_acts, Family, parents, Bearing, Borne, bearing, bearing_acts, bearing_means, bearing_heeds, borne_row}
use Rattle.wire.proofs.Lists.{every_as, every_flat, every_and, every_map, every_firsts}
use Rattle.wire.proofs.Reading.Takes.{Listed, listed_every, listed_bound}
use Rattle.wire.proofs.Reading.Nest.{flat_length, sum_suc}
use Rattle.wire.proofs.Layouts.Codec.{Codec, Spells, seen_as}
use Rattle.wire.proofs.Layouts.Cells.{On}
use Rattle.wire.proofs.Layouts.Forms.{form_all}
use Rattle.wire.proofs.Layouts.Rowed.{Flat, flats, flat_wide, flat_spells, flat_columns, flat_positive, Wide, Good, found, room_for, each_as, each_clean, rows_again, rows_ready, flat_weighs, flat_grows, listed_sum, Nest, broken_form, breaks, broken_on, broken_spells, nest_tests, families, family_grows, parents_long, parents_wide, parents_columns, kids_columns, parents_found, parents_room, families_mean, families_sound}
use Rattle.wire.proofs.Layouts.Heeds.{flat_heeds, broken_heeds_lem}
use Rattle.wire.proofs.Layouts.Borne.{Bear, bear_form, bears, meant, bear_spells, bear_again, bear_ready, bear_columns, bear_grows, bear_heeds, stands, borne_wide, borne_found, borne_room}
use Rattle.frame.specs.Kind.{Lent, Rows, Heeded}
use Rattle.frame.specs.Claims.{Agree}
use Rattle.frame.specs.Entry.{needs, total, first_table, other_tables, filled}
use Rattle.frame.specs.Body.{RowType, tabled, heeding, flat_row_type, family_rows, bearer_rows}
use Rattle.frame.proofs.Lawful.{Shaped, agrees}

-- rows that were read of the body s
pub record Had {A C : Type 0} (r : RowType A C) (m : Codec A C) (s : List ℕ) (l : List A) : Type 0 where
  pub good : Every (λ (a : A). Good m (m.means s a)) l
  pub inside : Every (Within s) (flat_map r.payloads l)

-- tables that are written alike
pub record SameRows {A C : Type 0} (r : RowType A C) (lent lent' : Lent) : Type 0 where
  pub long : length (first_table lent) ≡ length (first_table lent')
  pub acts : (store : List ℕ) → r.acts lent store ≡ r.acts lent' store

-- what the tables of rows that a program took need
pub record Took (ts : List Rows) (bs : List ℕ) : Type 0 where
  pub shaped : Every Shaped ts
  pub few : total (needs ts) ≤ length bs

pub record LawfulRows {A C : Type 0} (r : RowType A C) : Type 1 where
  -- the format of a row: its program, its payloads, and the actions of a row in its tables
  pub codec : Codec A C
  pub reads : codec.read ≡ r.reads
  pub spans : (a : A) → codec.spans a ≡ r.payloads a
  pub spells : (lent : Lent) (store : List ℕ) (i : ℕ) → clean (r.acts lent store i) ≡ true → Spells codec (r.acts lent store i) (r.means lent store i)
  pub heeds : (hs : List Heeded) {lent lent' : Lent} → Agree (r.heeded ++ hs) lent lent' → SameRows r lent lent'
  -- the tables of a list
  pub all_there : (l : List A) → length (r.tables l) ≡ length r.heeded
  pub grows : {k at : ℕ} {l : List A} {bs : List ℕ} → Listed r.reads k at l bs → Took (r.tables l) bs
  -- a list that was read, in its tables
  pub laid : (s : List ℕ) (l : List A) → Had r codec s l → (more : List Rows) (lent : Lent)
      → each (r.means (filled (r.tables l ++ more) lent) s) 0 (length l) ≡ map (codec.means s) l
  pub ready : (s : List ℕ) (l : List A) → Had r codec s l → (more : List Rows) (lent : Lent) → clean (rows (r.acts (filled (r.tables l ++ more) lent) s) 0 (length l)) ≡ true
  pub room : (s : List ℕ) (l : List A) → Had r codec s l → (more : List Rows) (lent : Lent) → length l ≤ length (first_table (filled (r.tables l ++ more) lent)) / r.columns
  pub columns_so : (s : List ℕ) (l : List A) → Had r codec s l → length s < 65536 → total (needs (r.tables l)) < 65536
      → Every (λ (q : Rows). Every (Every Column) q.rows) (r.tables l)

-- rows of one table, which may stand in it from any row on; kid is what writing reads of a row
pub record Leaf {A C : Type 0} (r : RowType A C) (kid : Heeded) : Type 1 where
  pub lawful : LawfulRows r
  pub number : ℕ
  pub stored : A → List ℕ
  pub heeded : r.heeded ≡ kid ∷ []
  pub table : (l : List A) → r.tables l ≡ tabled number kid.columns (map stored l) ∷ []
  pub wide : (s : List ℕ) (l : List A) → Had r lawful.codec s l → Every (Wide kid.columns) (map stored l)
  -- a list that was read, in a table that has it from row i on
  pub laid_at : (s : List ℕ) (l : List A) → Had r lawful.codec s l → (lent : Lent) (i : ℕ)
      → each (λ j. row kid.columns (at kid.columns (first_table lent) j)) i (length l) ≡ map stored l
      → each (r.means lent s) i (length l) ≡ map (lawful.codec.means s) l
  pub ready_at : (s : List ℕ) (l : List A) → Had r lawful.codec s l → (lent : Lent) (i : ℕ)
      → each (λ j. row kid.columns (at kid.columns (first_table lent) j)) i (length l) ≡ map stored l → clean (rows (r.acts lent s) i (length l)) ≡ true

-- ---- plain rows

module _ (t : ℕ) (x : Flat) where
  abbrev r : RowType (List ℕ) (List ℕ)
  r = flat_row_type t x.columns x.layout

  good_of : {s : List ℕ} {l : List (List ℕ)} → Had r (flats x) s l → Every (Good (flats x)) l
  unfolding flats seen_as
  good_of h = h.good

  wide_of : {s : List ℕ} {l : List (List ℕ)} → Had r (flats x) s l → Every (Wide x.columns) l
  wide_of h = every_as (Good (flats x)) (Wide x.columns) (λ y g. flat_wide x y g.0) (good_of h)

  pub flat_lawful : LawfulRows r
  unfolding flats seen_as filled first_table needs total
  flat_lawful = record {
    codec = flats x;
    reads = refl;
    spans = λ a. refl;
    spells = λ lent store i. flat_spells x (at x.columns (first_table lent) i);
    heeds = λ hs {lent} {lent'} a. let e = agrees a in record { long = e.long; acts = λ store z i. flat_heeds x (at x.columns (first_table lent) i) (at x.columns (first_table lent') i) (e.same i) z };
    all_there = λ l. refl;
    grows = λ {k} {at} {l} {bs} k₀. let least = (flat_positive x).1 in
        record { shaped = all_cons (listed_every (flat x.columns x.layout) (Wide x.columns) (flat_grows x.columns x.layout) k₀) all_nil; few = let n = listed_bound (flat x.columns x.layout) (λ at y bs d. let i = flat_weighs x.columns x.layout at y bs d in omega (arith, least)) k₀ in omega arith };
    laid = λ s l h more lent. let t = drop (length (flatten l)) (first_table lent) in rows_again x (flatten l ++ t) 0 (length l) l (found x.columns l (wide_of h) t) (good_of h) ∙ sym (map-id l);
    ready = λ s l h more lent. let t = drop (length (flatten l)) (first_table lent) in rows_ready x (flatten l ++ t) 0 (length l) l (found x.columns l (wide_of h) t) (good_of h);
    room = λ s l h more lent. room_for x.columns l _ (flat_positive x).0 (wide_of h);
    columns_so = λ s l h few more. all_cons (every_as (Good (flats x)) (Every Column) (λ y g. flat_columns x y g.0 g.1) (good_of h)) all_nil;
  }

-- ---- rows with rows of another table; writing sees the columns of a row that was read as they are

module _ (t u : ℕ) (nest : Nest) (seen : Columns → Columns) (kept : (x : Family) → (families nest).Fits x → (g : Columns) → On (form_all (broken_form nest.row (flats nest.kid))) (of x.0) g → seen g ≡ g) where
  abbrev b : Broken
  b = nest.row

  abbrev n : ℕ
  n = nest.kid.columns

  abbrev l : Layout
  l = nest.kid.layout

  abbrev q : RowType Family Family
  q = family_rows t u seen b n l

  family_meant : (s : List ℕ) (x : Family) → (families nest).means s x ≡ x
  unfolding breaks seen_as flats
  family_meant s x = λ i. (x.0, map-id x.1 i)

  all_meant : (s : List ℕ) (xs : List Family) → map ((families nest).means s) xs ≡ xs
  all_meant s [] = refl
  all_meant s (x ∷ xs) = λ i. family_meant s x i ∷ all_meant s xs i

  families_good : {s : List ℕ} {xs : List Family} → Had q (families nest) s xs → Every (Good (families nest)) xs
  families_good {s} h = every_as (λ x. Good (families nest) ((families nest).means s x)) (Good (families nest)) (λ x g. subst (Good (families nest)) (family_meant s x) g) h.good

  stand : (xs : List Family) (behind : List ℕ) → Every (Good (families nest)) xs
      → each (λ i. row b.width (seen (at b.width (flatten (parents b xs) ++ behind) i))) 0 (length xs) ≡ parents b xs
  stand xs behind h =
      each_as (λ (y : ℕ × Family). Good (families nest) y.1) (broken_row b) (λ i. row b.width (at b.width table i))
      (λ i. row b.width (seen (at b.width table i))) (broken_row b)
      (λ i y e g. ap (row b.width) (kept y.1 g.0 (at b.width table i) (broken_on b (flats nest.kid) nest.passes y.0 y.1 (at b.width table i) e)) ∙ e)
      0 (length xs) (firsts (λ x. length x.1) 0 xs) (parents_found nest xs behind []) (every_firsts (λ x. length x.1) 0 (Good (families nest)) xs h)
    where
      table : List ℕ
      table = flatten (parents b xs) ++ behind

  families_took : {k at : ℕ} {xs : List Family} {bs : List ℕ} → Listed (broken b (flat n l)) k at xs bs → Took (q.tables xs) bs
  unfolding needs total
  families_took {xs = xs} {bs} k₀ =
      let p = broken b (flat n l) in
      let least = (nest_tests b (flats nest.kid) nest.passes).weight_so in
      let sums = listed_sum p (λ x. 1 + length x.1) (λ at x bs d. let i = (family_grows nest at x bs d).heavy in omega (arith, least)) k₀ in
      record {
        shaped = all_cons (parents_wide nest xs) (all_cons (every_flat (λ (x : Family). x.1) (Wide n) xs (listed_every p (λ x. Every (Wide n) x.1) (λ at x bs d. (family_grows nest at x bs d).wide) k₀)) all_nil);
        few = omega (arith, sums, parents_long nest xs, sum_suc (λ (x : Family). length x.1) xs, flat_length (λ (x : Family). x.1) xs);
      }

  families_heed : (hs : List Heeded) {lent lent' : Lent} → Agree (q.heeded ++ hs) lent lent' → SameRows q lent lent'
  families_heed hs {lent} {lent'} a =
      let e = agrees a in
      let d = agrees e.rest in
      let kid : Lent → ℕ → List Act = λ lent j. flat_acts l (at n (first_table (other_tables lent)) j) in
      let k : kid lent ≡ kid lent' = λ z j. flat_heeds nest.kid (at n (first_table (other_tables lent)) j) (at n (first_table (other_tables lent')) j) (d.same j) z in
      let col : Lent → ℕ → Columns = λ lent i. seen (at b.width (first_table lent) i) in
      record {
        long = e.long;
        acts = λ store z i. (broken_heeds_lem nest (length (first_table (other_tables lent)) / n) (kid lent) (col lent i) (col lent' i) (e.same i) ∙ λ z. broken_acts b (d.long z / n) (k z) (col lent' i)) z;
      }

  pub family_lawful : 0 < b.width → LawfulRows q
  unfolding breaks seen_as flats filled first_table other_tables needs total flat_map
  family_lawful wide = record {
    codec = families nest;
    reads = refl;
    spans = λ x. none x.1;
    spells = λ lent store i. broken_spells b (flats nest.kid) nest.passes _ _ _ (λ j. flat_spells nest.kid (at n (first_table (other_tables lent)) j)) (seen (at b.width (first_table lent) i));
    heeds = families_heed;
    all_there = λ xs. refl;
    grows = families_took;
    laid = λ s xs h more lent. families_mean nest xs _ (stand xs _ (families_good h)) _ (families_good h) ∙ sym (all_meant s xs);
    ready = λ s xs h more lent. families_sound nest xs _ (stand xs _ (families_good h)) _ (families_good h);
    room = λ s xs h more lent. parents_room nest xs _ [] wide;
    columns_so = λ s xs h small few. all_cons (parents_columns nest xs (families_good h) (omega arith)) (all_cons (kids_columns nest xs (families_good h)) all_nil);
  }
    where
      none : (rs : List (List ℕ)) → flat_map (flats nest.kid).spans rs ≡ []
      none [] = refl
      none (x ∷ rs) = none rs

-- ---- rows that end with a payload

module _ (t : ℕ) (bear : Bear) (seen : Columns → Columns) (kept : (s : List ℕ) (x : Borne) → (bears bear).Fits (meant bear s x) → (g : Columns) → On (form_all (bear_form bear.row)) (of x.0) g → seen g ≡ g) where
  abbrev w : Bearing
  w = bear.row

  abbrev v : RowType Borne (List ℕ × List ℕ)
  v = bearer_rows t seen w

  abbrev Stood : List ℕ → Borne → Type 0
  Stood s x = Good (bears bear) (meant bear s x)

  bears_good : {s : List ℕ} {xs : List Borne} → Had v (bears bear) s xs → Every (Stood s) xs
  unfolding bears seen_as
  bears_good h = h.good

  bears_within : {s : List ℕ} {xs : List Borne} → Had v (bears bear) s xs → Every (λ (x : Borne). Stood s x × Within s x.1) xs
  unfolding flat_map
  bears_within {s} {xs} h = every_and (Stood s) (λ x. Within s x.1) (bears_good h) (single xs h.inside)
    where
      single : (xs : List Borne) → Every (Within s) (flat_map v.payloads xs) → Every (λ (x : Borne). Within s x.1) xs
      single [] all_nil = all_nil
      single (x ∷ xs) (all_cons a i) = all_cons a (single xs i)

  -- rows in a table that has them from row i on
  module _ (s : List ℕ) (xs : List Borne) (h : Had v (bears bear) s xs) (table : List ℕ) (i : ℕ) (e : each (λ j. row w.width (at w.width table j)) i (length xs) ≡ map (borne_row w) xs) where
    abbrev cols : ℕ → Columns
    cols j = at w.width table j

    as_read : (j : ℕ) (x : Borne) → row w.width (cols j) ≡ borne_row w x → Stood s x → seen (cols j) ≡ cols j
    as_read j x q g = kept s x g.0 (cols j) (stands bear x (cols j) q).on

    bears_laid : each (λ j. bearing_means w s (seen (cols j))) i (length xs) ≡ map (meant bear s) xs
    bears_laid =
        each_as (Stood s) (borne_row w) (λ j. row w.width (cols j)) (λ j. bearing_means w s (seen (cols j))) (meant bear s)
        (λ j x q g. ap (bearing_means w s) (as_read j x q g) ∙ bear_again bear s x g.0 (cols j) q) i (length xs) xs e (bears_good h)

    bears_ready : clean (rows (λ j. bearing_acts w s (seen (cols j))) i (length xs)) ≡ true
    bears_ready =
        each_clean (λ x. Stood s x × Within s x.1) (borne_row w) (λ j. row w.width (cols j)) (λ j. bearing_acts w s (seen (cols j)))
        (λ j x q g. ap (λ (k : Columns). clean (bearing_acts w s k)) (as_read j x q g.0) ∙ bear_ready bear s x g.0 g.1 (cols j) q) i (length xs) xs e (bears_within h)

  pub bearer_lawful : LawfulRows v
  unfolding bears seen_as filled first_table other_tables needs total
  bearer_lawful = record {
    codec = bears bear;
    reads = refl;
    spans = λ x. refl;
    spells = λ lent store i. bear_spells bear store (seen (at w.width (first_table lent) i));
    heeds = λ hs {lent} {lent'} a. let e = agrees a in record { long = e.long; acts = λ store z i. bear_heeds bear store (seen (at w.width (first_table lent) i)) (seen (at w.width (first_table lent') i)) (e.same i) z };
    all_there = λ xs. refl;
    grows = λ {k} {at} {l = xs} {bs} k₀. record { shaped = all_cons (borne_wide bear xs) all_nil; few = omega (arith, listed_bound (bearing w) (λ at x bs d. (bear_grows bear at x bs d).1) k₀, length-map xs (borne_row w)) };
    laid = λ s xs h more lent. let rs = flatten (map (borne_row w) xs) in let u = drop (length rs) (first_table lent) in bears_laid s xs h (rs ++ u) 0 (borne_found bear xs u);
    ready = λ s xs h more lent. let rs = flatten (map (borne_row w) xs) in let u = drop (length rs) (first_table lent) in bears_ready s xs h (rs ++ u) 0 (borne_found bear xs u);
    room = λ s xs h more lent. borne_room bear xs _;
    columns_so = λ s xs h small few. all_cons (every_map (borne_row w) (Every Column) xs (every_as (λ x. Stood s x × Within s x.1) (λ x. Every Column (borne_row w x)) (λ x g. bear_columns bear s x g.0 (omega (arith, g.1, small)) (omega (arith, g.1, small))) (bears_within h))) all_nil;
  }

  pub bearer_leaf : Leaf v (heeding w.width (λ g. bearing_heeds w (seen g)))
  unfolding bears seen_as bearer_lawful
  bearer_leaf = record {
    lawful = bearer_lawful;
    number = t;
    stored = borne_row w;
    heeded = refl;
    table = λ xs. refl;
    wide = λ s xs h. borne_wide bear xs;
    laid_at = λ s xs h lent i e. bears_laid s xs h (first_table lent) i e;
    ready_at = λ s xs h lent i e. bears_ready s xs h (first_table lent) i e;
  }
