-- A host takes out of a code what was put in, as the inline functions of include/mpegh.h do: the number, its value, and of number 3 the table and its rows;
-- and so the low 8 bits of what an entry point answers are document 01's number.
use Prim.Native.Nat.{ℕ, ◌/◌, ◌%◌, ◌^◌, ◌<◌, ◌≤◌}
use mathlib.Core.List.{List, [], ◌∷◌}
use mathlib.Core.Path.{◌≡◌, refl, ap, ◌∙◌}
use mathlib.Core.Logic.{◌⊎◌, inl, inr}
use native.Mathlib.Omega.{arith}
use lib.ListN.{length}
use borrow.Author.Tests.{le-leb, lt-leb}
use Rattle.frame.specs.Numbers.{Answer, accepted, refused, number}
use Rattle.frame.specs.Kind.{Kind, Lent}
use Rattle.frame.specs.Entry.{Sizes, no_room, leaves, reading, measuring, tallying, writing}
use Rattle.frame.proofs.More.{answered}
use Rattle.mpegh_c.specs.Code.{code, table_code, values_code, answer_code}
use Rattle.mpegh_c.specs.Host.{Hosted, hosted, topped, rows_of, hosted_sizes, host_reading, host_measuring, HostReads, HostMeasures, HostTallies, HostWrites}

-- ---- a code

module _ (n v : ℕ) (h : n < 256) where
  pub number_taken : code n v % 256 ≡ n
  number_taken = omega arith

  pub value_taken : v < 2 ^ 56 → code n v / 256 ≡ v
  value_taken l = omega arith

module _ (n t r : ℕ) (h : n < 256) where
  pub table_number_taken : table_code n t r % 256 ≡ n
  table_number_taken = omega arith

  pub table_taken : t < 2 ^ 24 → table_code n t r / 256 % 2 ^ 24 ≡ t
  table_taken l = omega arith

  pub rows_taken : t < 2 ^ 24 → r < 2 ^ 32 → table_code n t r / 2 ^ 32 ≡ r
  rows_taken l m = omega arith

-- ---- an answer

values_taken : (n : ℕ) (vs : List ℕ) → n < 256 → values_code n vs % 256 ≡ n
values_taken n [] h = omega arith
values_taken n (v ∷ []) h = number_taken n v h
values_taken n (t ∷ r ∷ vs) h = table_number_taken n t r h

pub answer_taken : (a : Answer ℕ) → number a < 256 → answer_code a % 256 ≡ number a
unfolding number
answer_taken (accepted v) h = number_taken 0 v h
answer_taken (refused x) h = values_taken x.number x.values h

topped_taken : {Top : Type 0} (row : Top → List ℕ) (top : List ℕ) (a : Answer Top) (after : Lent) → number a < 256 → (topped row top (leaves a after)).code % 256 ≡ number a
unfolding number
topped_taken row top (accepted t) after h = number_taken 0 0 h
topped_taken row top (refused x) after h = values_taken x.number x.values h

sized_taken : (rows : List ℕ) (a : Answer Sizes) → ((z : Sizes) → a ≡ accepted z → length (rows_of z.tables) ≤ length rows) → number a < 256
    → (hosted_sizes rows a).code % 256 ≡ number a
unfolding number
sized_taken rows (accepted z) h l = rw (le-leb _ _ (h z refl), hosted_sizes) (number_taken 0 z.before l)
sized_taken rows (refused x) h l = values_taken x.number x.values l

-- ---- an entry point: of the numbers that it can answer none takes more than 8 bits

module _ {Tree Top Value : Type 0} (K : Kind Tree Top Value) where
  pub tally_told : {body : List ℕ} {n : ℕ} → HostTallies K body n → n % 256 ≡ number (tallying K body)
  tally_told {body} w = ap (λ (m : ℕ). m % 256) w.promised ∙ answer_taken (tallying K body) (omega (arith, (answered K).tallied_numbers body))

  pub write_told : {top : Top} {lent : Lent} {store out after : List ℕ} {n : ℕ} → HostWrites K top lent store out n after → n % 256 ≡ number (writing K top lent store out).answer
  write_told {top} {lent} {store} {out} w =
      ap (λ (m : ℕ). m % 256) w.answers ∙ answer_taken (writing K top lent store out).answer (small ((answered K).written_numbers top lent store out))
    where
      small : {n : ℕ} → (n ≡ 0) ⊎ ((4 ≤ n) × (n ≤ 10)) → n < 256
      small (inl e) = omega (arith, e)
      small (inr h) = omega (arith, h.1)

  -- where there is room for the record
  pub read_told : {columns : ℕ} {row : Top → List ℕ} {body top top' : List ℕ} {lent after : Lent} {n : ℕ} → columns ≤ length top
      → HostReads K columns row body top lent n top' after
      → n % 256 ≡ number (reading K body lent).answer
  unfolding host_reading
  read_told {columns} {row} {body} {top} {lent = lent} h w =
      let e : host_reading K columns row body top lent ≡ topped row top (reading K body lent) = rw (le-leb _ _ h, host_reading) refl in
      ap (λ (o : Hosted). o.code % 256) (w.promised ∙ e)
      ∙ topped_taken row top (reading K body lent).answer (reading K body lent).tables (omega (arith, (answered K).read_numbers body lent))

  -- where there is room for the counts
  pub measure_told : {body rows rows' : List ℕ} {n : ℕ} → ((z : Sizes) → measuring K body ≡ accepted z → length (rows_of z.tables) ≤ length rows)
      → HostMeasures K body rows n rows'
      → n % 256 ≡ number (measuring K body)
  unfolding host_measuring
  measure_told {body} {rows} h w = ap (λ (o : Hosted). o.code % 256) w.promised ∙ sized_taken rows (measuring K body) h (omega (arith, (answered K).measured_numbers body))

  -- where there is none, and the body is sound: 3, table 0, 1 row, and nothing is stored
  pub measure_roomless : {body rows rows' : List ℕ} {n : ℕ} (z : Sizes) → measuring K body ≡ accepted z → length rows < length (rows_of z.tables)
      → HostMeasures K body rows n rows' → (n ≡ table_code 3 0 1) × (rows' ≡ rows)
  unfolding host_measuring
  measure_roomless {rows = rows} z e h w =
      let r : hosted_sizes rows (accepted z) ≡ hosted (no_room 0 1) rows [] = rw (lt-leb _ _ h, hosted_sizes) refl in
      let q = w.promised ∙ ap (hosted_sizes rows) e ∙ r in
      (ap (λ (o : Hosted). o.code) q, ap (λ (o : Hosted). o.front) q)
