-- What has to be proved of a kind, so that all of Claims holds of it (Proofs): it is a lawful format, and its record, tables and actions are those of the format.
use Prim.Native.Nat.{ℕ, ◌*◌, ◌≤◌, ◌<◌}
use mathlib.Core.List.{List, ◌∷◌, ◌++◌}
use mathlib.Core.Bool.{true}
use mathlib.Core.Option.{none}
use mathlib.Core.Path.{◌≡◌}
use lib.ListN.{length}
use Rattle.wire.specs.Lists.{Every, Byte, Column}
use Rattle.wire.specs.Prog.{span, Within}
use Rattle.wire.specs.declared.rows.Payload.{Payload}
use Rattle.wire.specs.Pen.{clean}
use Rattle.wire.proofs.Reading.Takes.{Takes}
use Rattle.wire.proofs.Layouts.Codec.{Codec, Spells}
use Rattle.frame.specs.Numbers.{accepted}
use Rattle.frame.specs.Kind.{Kind, Lent, Rows, Held, Heeded}
use Rattle.frame.specs.Claims.{Agree, rows_agree}
use Rattle.frame.specs.Entry.{leaves, needs, total, first_table, other_tables, lacking, filled, Sizes, reading, measuring, tallying}

-- every row has as many columns as its table
abbrev pub Shaped : Rows → Type 0
Shaped r = Every (λ (row : List ℕ). length row ≡ r.columns) r.rows

-- tables that agree, one by one
pub record Agrees (h : Heeded) (hs : List Heeded) (lent lent' : Lent) : Type 0 where
  pub long : length (first_table lent) ≡ length (first_table lent')
  pub same : (i : ℕ) → h.row (first_table lent) (i * h.columns) ≡ h.row (first_table lent') (i * h.columns)
  pub rest : Agree hs (other_tables lent) (other_tables lent')

pub agrees : {h : Heeded} {hs : List Heeded} {lent lent' : Lent} → Agree (h ∷ hs) lent lent' → Agrees h hs lent lent'
unfolding first_table other_tables
agrees (rows_agree l e r) = record { long = l; same = e; rest = r }

module _ {Tree Top Value : Type 0} (K : Kind Tree Top Value) where
  -- a record that was read, with bs before its trailing run and rest in it
  abbrev pub top_of : Tree → List ℕ → List ℕ → Top
  top_of t bs rest = K.top t (span (length bs) (length rest))

  -- what is known of a tree that was read: bs is what the program takes, its payloads stand in the body, and the actions of its meaning meet no fault
  pub record Taken (format : Codec Tree Value) (t : Tree) (bs rest : List ℕ) : Type 0 where
    pub takes : Takes K.program 0 t bs
    pub inside : Every (Within (bs ++ rest)) (K.payloads t)
    pub fits : format.Fits (format.means (bs ++ rest) t)
    pub sound : clean (format.acts (format.means (bs ++ rest) t)) ≡ true

  pub record Lawful : Type 1 where
    -- the trailing run of a record
    pub run_of : (t : Tree) (r : Payload) → K.trailing (K.top t r) ≡ r
    pub run_set : (t : Tree) (r q : Payload) → K.retrail (K.top t r) q ≡ K.top t q
    -- the format, its program and its payloads
    pub format : Codec Tree Value
    pub reads : format.read ≡ K.program
    pub spans_so : (t : Tree) → format.spans t ≡ K.payloads t
    -- the tables: all are there, rows are as wide as they should be, and at most as many as the bytes read
    pub all_there : (t : Tree) → length (K.tables t) ≡ K.lends
    pub shaped : (t : Tree) (bs : List ℕ) → Takes K.program 0 t bs → Every Shaped (K.tables t)
    pub bounded : (t : Tree) (bs : List ℕ) → Takes K.program 0 t bs → total (needs (K.tables t)) ≤ length bs
    -- what stands in the record and the tables means what was read, and is what the code's types can hold
    pub laid : (t : Tree) (bs rest : List ℕ) (lent : Lent) → Taken format t bs rest → lacking (needs (K.tables t)) lent ≡ none
        → K.value (top_of t bs rest) (filled (K.tables t) lent) (bs ++ rest) ≡ format.means (bs ++ rest) t
    pub held : (t : Tree) (bs rest : List ℕ) → Taken format t bs rest → length (bs ++ rest) < 65536 → Every Held (K.bounds (top_of t bs rest))
    pub columns : (t : Tree) (bs rest : List ℕ) → Taken format t bs rest → length (bs ++ rest) < 65536 → Every (λ (r : Rows). Every (Every Column) r.rows) (K.tables t)
    -- what was read is written without a fault
    pub ready : (t : Tree) (bs rest : List ℕ) (lent : Lent) → Taken format t bs rest → lacking (needs (K.tables t)) lent ≡ none
        → clean (K.acts (top_of t bs rest) (filled (K.tables t) lent) (bs ++ rest)) ≡ true
    -- the actions, and the trailing run, are decided by what writing reads
    pub heeds : (top top' : Top) (lent lent' : Lent) (store : List ℕ) → K.heeded top ≡ K.heeded top' → Agree K.heeded_rows lent lent'
        → (K.acts top lent store ≡ K.acts top' lent' store) × (K.trailing top ≡ K.trailing top')
    -- actions without a fault are those of the meaning
    pub spells : (top : Top) (lent : Lent) (store : List ℕ) → clean (K.acts top lent store) ≡ true → Spells format (K.acts top lent store) (K.value top lent store)

  -- two bodies that are read, and differ in everything; and an output that is not the first
  pub record Samples : Type 0 where
    pub lent : Lent
    pub one : List ℕ
    pub other : List ℕ
    pub top : Top
    pub top' : Top
    pub after : Lent
    pub after' : Lent
    pub reads : reading K one lent ≡ leaves (accepted top) after
    pub reads' : reading K other lent ≡ leaves (accepted top') after'
    pub tops_differ : top ≡ top' → ⊥
    pub size : Sizes
    pub size' : Sizes
    pub measures : measuring K one ≡ accepted size
    pub measures' : measuring K other ≡ accepted size'
    pub sizes_differ : size ≡ size' → ⊥
    pub count : ℕ
    pub count' : ℕ
    pub tallies : tallying K one ≡ accepted count
    pub tallies' : tallying K other ≡ accepted count'
    pub counts_differ : count ≡ count' → ⊥
    pub bytes : Every Byte one
    pub blank : List ℕ
    pub as_long : length blank ≡ length one
    pub not_blank : one ≡ blank → ⊥
