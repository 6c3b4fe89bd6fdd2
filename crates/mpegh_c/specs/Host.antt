-- The entry points for hosts: an answer is one number (Code), and what is not a number of it stands in a lent slice, as columns at its front. A slice too
-- short for them counts as table 0, which needs 1 row.
use Rattle.std.specs.Prelude.{ℕ, List, [], ◌∷◌, ◌++◌, true, false, ◌≡◌, length, drop, leb}
use Rattle.frame.specs.Numbers.{Answer, accepted, refused}
use Rattle.frame.specs.Kind.{Kind, Lent}
use Rattle.frame.specs.Entry.{Need, Sizes, Outcome, no_room, judging, reading, measuring, tallying, writing}
use Rattle.mpegh_c.specs.Code.{answer_code}

-- a code, and the lent slices afterwards
pub record Hosted : Type 0 where
  pub code : ℕ
  pub front : List ℕ
  pub tables : Lent

abbrev pub hosted : Answer ℕ → List ℕ → Lent → Hosted
hosted a front lent = record { code = answer_code a; front = front; tables = lent }

-- columns at the front of a slice
abbrev pub fronted : List ℕ → List ℕ → List ℕ
fronted row slice = row ++ drop (length row) slice

-- reading returns nothing beside the record
abbrev pub topped : {Top : Type 0} → (Top → List ℕ) → List ℕ → Outcome Top → Hosted
topped row slice o = elim o.answer [ accepted t ↦ hosted (accepted 0) (fronted (row t) slice) o.tables | refused x ↦ hosted (refused x) slice o.tables ]

-- the rows of each table, by their counts
abbrev pub rows_of : List Need → List ℕ
rows_of [] = []
rows_of (n ∷ ns) = n.rows ∷ rows_of ns

-- measuring returns k
abbrev pub hosted_sizes : List ℕ → Answer Sizes → Hosted
hosted_sizes slice (accepted z) = elim (leb (length (rows_of z.tables)) (length slice)) [
  | true ↦ hosted (accepted z.before) (fronted (rows_of z.tables) slice) []
  | false ↦ hosted (no_room 0 1) slice []
]
hosted_sizes slice (refused x) = hosted (refused x) slice []

-- with no room for the top record a body is judged all the same
abbrev pub unroomed : {A : Type 0} → Answer A → Answer ℕ
unroomed a = elim a [ accepted s ↦ no_room 0 1 | refused x ↦ refused x ]

module _ {Tree Top Value : Type 0} (K : Kind Tree Top Value) where
  -- 2, then 1
  abbrev pub unread : List ℕ → Answer ℕ
  unread body = unroomed (judging K body)

  -- what reading answers a host that lends so many columns for the top record
  unfoldable pub host_reading : ℕ → (Top → List ℕ) → List ℕ → List ℕ → Lent → Hosted
  host_reading columns row body top lent = elim (leb columns (length top)) [ true ↦ topped row top (reading K body lent) | false ↦ hosted (unread body) top lent ]

  unfoldable pub host_measuring : List ℕ → List ℕ → Hosted
  host_measuring body rows = hosted_sizes rows (measuring K body)

  -- ---- the promises

  pub record HostReads (columns : ℕ) (row : Top → List ℕ) (body top : List ℕ) (lent : Lent) (code : ℕ) (topAfter : List ℕ) (after : Lent) : Type 0 where
    pub promised : record { code = code; front = topAfter; tables = after } ≡ host_reading columns row body top lent

  pub record HostMeasures (body rows : List ℕ) (code : ℕ) (after : List ℕ) : Type 0 where
    pub promised : record { code = code; front = after; tables = [] } ≡ host_measuring body rows

  pub record HostTallies (body : List ℕ) (code : ℕ) : Type 0 where
    pub promised : code ≡ answer_code (tallying K body)

  pub record HostWrites (top : Top) (lent : Lent) (store out : List ℕ) (code : ℕ) (after : List ℕ) : Type 0 where
    pub answers : code ≡ answer_code (writing K top lent store out).answer
    pub leaves : after ≡ (writing K top lent store out).output
