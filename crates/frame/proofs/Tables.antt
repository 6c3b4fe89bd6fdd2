-- The room of the lent tables, one after the other, is what is lacking of all; with room the body is opened, and a body without rows needs none.
use Rattle.std.specs.Prelude.{Ok, Err}
use Prim.Native.Nat.{ℕ, zero, suc, ◌/◌, ◌<◌}
use mathlib.Core.List.{List, [], ◌∷◌, flatten}
use mathlib.Core.Bool.{Bool, true, false}
use mathlib.Core.Option.{Option, none, some}
use mathlib.Core.Path.{◌≡◌, refl, sym, ap, subst, ◌∙◌}
use native.Mathlib.Omega.{arith}
use lib.ListN.{length}
use lib.Dec.{leb}
use borrow.Author.Tests.{le-leb}
use Rattle.wire.specs.Lists.{Every, all_nil, all_cons}
use Rattle.wire.specs.Prog.{done, run}
use Rattle.frame.specs.declared.Lack.{Lack}
use Rattle.frame.specs.declared.Refusal.TheVariants as R
use Rattle.frame.specs.Kind.{Kind, Lent, Rows}
use Rattle.frame.specs.Numbers.{accepted, refused, refusal}
use Rattle.frame.specs.Entry.{Sizes, Need, needs, room, first_table, other_tables, lacking, filled, sizes, Measures, Reads}
use Rattle.frame.specs.Sight.{Room, Enough, Lacks, Roomy, Fills, Opened, and_table, and_tables}
use Rattle.frame.proofs.Entries.{within_measured, roomy, reads_lacking, reads_filled, measures_walked, fills_walked}

-- ---- one table

module _ (n : Need) (t : List ℕ) where
  pub lacks_before : {r : Room} {x : Lack} → r ≡ Err x → Err x ≡ and_table r n t
  unfolding and_table
  lacks_before e = sym (ap (λ (r : Room). and_table r n t) e)

  pub has_table : {r : Room} → r ≡ Enough → leb n.rows (length t / n.columns) ≡ true → Enough ≡ and_table r n t
  unfolding and_table
  has_table e h = sym (ap (λ (r : Room). and_table r n t) e ∙ rw (h, and_table) refl)

  pub lacks_table : {r : Room} → r ≡ Enough → leb n.rows (length t / n.columns) ≡ false → Lacks n.number n.rows ≡ and_table r n t
  unfolding and_table
  lacks_table e h = sym (ap (λ (r : Room). and_table r n t) e ∙ rw (h, and_table) refl)

-- ---- all of them

stays : (i k : ℕ) (ns : List Need) (lent : Lent) → and_tables (Lacks i k) ns lent ≡ Lacks i k
unfolding and_tables and_table
stays i k [] lent = refl
stays i k (n ∷ ns) lent = stays i k ns (other_tables lent)

abbrev found : Option Need → Room
found none = Enough
found (some n) = Lacks n.number n.rows

all_so : (ns : List Need) (lent : Lent) → and_tables Enough ns lent ≡ found (lacking ns lent)
unfolding and_tables lacking and_table room
all_so [] lent = refl
all_so (n ∷ ns) lent = go (leb n.rows (length (first_table lent) / n.columns)) (all_so ns (other_tables lent))
  where
    go : (b : Bool) → and_tables Enough ns (other_tables lent) ≡ found (lacking ns (other_tables lent))
        → and_tables (elim b [ true ↦ Enough | false ↦ Lacks n.number n.rows ]) ns (other_tables lent) ≡ found (elim b [ true ↦ lacking ns (other_tables lent) | false ↦ some n ])
    go true h = h
    go false h = stays n.number n.rows ns (other_tables lent)

-- enough is enough for all, and what is lacking is the lowest
pub enough : (ns : List Need) (lent : Lent) → and_tables Enough ns lent ≡ Enough → lacking ns lent ≡ none
enough ns lent e = go (lacking ns lent) (sym (all_so ns lent) ∙ e)
  where
    go : (o : Option Need) → found o ≡ Enough → o ≡ none
    go none e = refl
    go (some n) e = let z : ◌≡◌ {A = ℕ} 0 1 = cc e in absurd (omega arith)

pub record Lowest (ns : List Need) (lent : Lent) (i k : ℕ) : Type 0 where
  pub need : Need
  pub is : lacking ns lent ≡ some need
  pub number : need.number ≡ i
  pub rows : need.rows ≡ k

pub lowest : (ns : List Need) (lent : Lent) {i k : ℕ} → and_tables Enough ns lent ≡ Lacks i k → Lowest ns lent i k
lowest ns lent {i} {k} e = go (lacking ns lent) refl (sym (all_so ns lent) ∙ e)
  where
    go : (o : Option Need) → lacking ns lent ≡ o → found o ≡ Lacks i k → Lowest ns lent i k
    go none q e = let z : ◌≡◌ {A = ℕ} 0 1 = cc e in absurd (omega arith)
    go (some n) q e =
        let s : ◌≡◌ {A = Lack} (record { table = n.number; rows = n.rows }) (record { table = i; rows = k }) = cc e in
        record { need = n; is = q; number = ap (λ (x : Lack). x.table) s; rows = ap (λ (x : Lack). x.rows) s }

-- a body that is measured, and whose tables are lent one by one
module _ {Tree Top Value : Type 0} (K : Kind Tree Top Value) (body : List ℕ) {y : Sizes} (m : Measures K body (accepted y)) (lent : Lent) where
  -- the lowest that is short is what reading answers
  pub reads_lowest : {x : Lack} → Err x ≡ and_tables Enough y.tables lent → Reads K body lent (refused (refusal (R.NoRoom x.table x.rows))) lent
  reads_lowest {x} e =
      let l = lowest y.tables lent {i = x.table} {k = x.rows} (sym e) in
      subst (λ (k : ℕ). Reads K body lent (refused (refusal (R.NoRoom x.table k))) lent) l.rows
      (subst (λ (i : ℕ). Reads K body lent (refused (refusal (R.NoRoom i l.need.rows))) lent) l.number (reads_lacking K body m lent l.need l.is))

  -- else there is room, and once they are filled the body is opened
  module _ (e : Enough ≡ and_tables Enough y.tables lent) where
    pub all_roomy : Roomy K body lent
    all_roomy = roomy K body m lent (enough y.tables lent (sym e))

    pub filled_opens : {F : Type 0} → F → {after : Lent} → Fills K body lent after → Opened K F body lent after
    filled_opens f {after} w = record { found = f; few = (within_measured K body m).all; reads = λ t. reads_filled K body m lent after (enough y.tables lent (sym e)) w t }

-- ---- the rows that the k-th table needs

abbrev pub rows_at : ℕ → List Need → ℕ
rows_at k [] = 0
rows_at zero (n ∷ ns) = n.rows
rows_at (suc k) (n ∷ ns) = rows_at k ns

pub same_rows : {y y' : Sizes} → y ≡ y' → (k : ℕ) → rows_at k y.tables ≡ rows_at k y'.tables
same_rows e k = ap (λ (y : Sizes). rows_at k y.tables) e

-- ---- tables without rows: no room is lacking, and they stay as they are

abbrev pub Empty : Rows → Type 0
Empty r = r.rows ≡ []

none_lacks : (rs : List Rows) (lent : Lent) → Every Empty rs → lacking (needs rs) lent ≡ none
unfolding needs lacking
none_lacks [] lent all_nil = refl
none_lacks (r ∷ rs) lent (all_cons e w) =
    rw (e, le-leb 0 (room (record { number = r.number; columns = r.columns; rows = 0 }) lent) (omega arith), lacking) (none_lacks rs (other_tables lent) w)

all_stay : (rs : List Rows) (lent : Lent) → length rs ≡ length lent → Every Empty rs → filled rs lent ≡ lent
unfolding filled first_table other_tables flatten
all_stay [] [] q all_nil = refl
all_stay [] (t ∷ lent) q w = absurd (omega (arith, q))
all_stay (r ∷ rs) [] q w = absurd (omega (arith, q))
all_stay (r ∷ rs) (t ∷ lent) q (all_cons e w) = rw e (ap (λ (l : Lent). t ∷ l) (all_stay rs lent (omega (arith, q)) w))

module _ {Tree Top Value : Type 0} (K : Kind Tree Top Value) (body : List ℕ) {t : Tree} {k : ℕ} (h : length body < 65536) (e : run K.program body 0 ≡ done t k) where
  pub empty_opens : {F : Type 0} → F → (lent : Lent) → length (K.tables t) ≡ length lent → Every Empty (K.tables t) → Opened K F body lent lent
  unfolding sizes
  empty_opens f lent q w = record { found = f; few = h; reads = λ r. reads_filled K body (measures_walked K body h e refl) lent lent (none_lacks (K.tables t) lent w) (fills_walked K body h e (sym (all_stay (K.tables t) lent q w))) r }
