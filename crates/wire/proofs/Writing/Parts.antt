-- A part that stands only where a flag is set: some actions and what follows them, in the check pass and in the fill pass, and its rows in their table.
use Prim.Native.Nat.{ℕ, ◌+◌, ◌*◌, ◌/◌, ◌≤◌, ◌<◌}
use mathlib.Core.List.{List, ◌++◌}
use mathlib.Core.Bool.{Bool, true, false}
use mathlib.Core.Path.{◌≡◌, sym, subst}
use native.Mathlib.Omega.{arith}
use native.Mathlib.Nat.{le-div_iff_mul-le}
use lib.ListN.{length}
use lib.Dec.{leb}
use borrow.Author.Tests.{leb-true, le-leb}
use Rattle.wire.specs.Act.{Act, pick, when, within}
use Rattle.wire.specs.Pen.{Checked, Ready, Filled}
use Rattle.wire.specs.declared.pen.Fault.{Fault}
use Rattle.wire.specs.Pen.{Pen, At, Stop}
use Rattle.wire.proofs.Writing.Passes.{then, more, here, nothing, stopped, Filling, fill_start, fill_none}

module _ (b : Bool) (front rest : List Act) where
  -- what stands first stops the pen
  pub part_stops : (k : ℕ) {j n : ℕ} {p r : Pen} {f : Fault} → b ≡ true → Checked front j p r → r ≡ Stop f n → j ≤ k → Checked (when b (front ++ rest)) k p r
  part_stops k t w e l = rw t (more k (then w (stopped rest 0 e)) (omega arith))

  -- it fits, and what follows was looked at
  pub part_goes : (k : ℕ) {i j n : ℕ} {p q r : Pen} → b ≡ true → Checked front i p q → q ≡ At n → Checked rest j (At n) r → i + j ≤ k → Checked (when b (front ++ rest)) k p r
  part_goes k t w e v l = rw t (more k (then w (here e v)) l)

  module _ {n : ℕ} {l : List ℕ} where
    pub part_begins : b ≡ true → Ready (when b (front ++ rest)) n l → Filling (when b (front ++ rest)) (when true front ++ rest) n l n l
    part_begins t r =
        subst (λ (b : Bool). Filling (when b (front ++ rest)) (front ++ rest) n l n l) (sym t) (fill_start (subst (λ (b : Bool). Ready (when b (front ++ rest)) n l) t r))

-- it is not there
pub part_absent : (b : Bool) (q : List Act) (k : ℕ) (p : Pen) → b ≡ false → Checked (when b q) k p p
part_absent b q k p t = rw t (nothing k p)

pub part_empty : (b : Bool) (q : List Act) {n : ℕ} {l : List ℕ} → b ≡ false → Filled (when b q) n l n l
part_empty b q {n} {l} t = rw t (fill_none n l)

-- ---- its rows stand in their table

module _ (b : Bool) (count columns : ℕ) (t : List ℕ) where
  pub within_there : {r : Bool} → b ≡ true → r ≡ leb count (length t / columns) → r ≡ within b count columns t
  unfolding within
  within_there p e = rw p e

  pub within_absent : b ≡ false → true ≡ within b count columns t
  unfolding within
  within_absent p = rw p (sym (le-leb 0 (length t / columns) (omega arith)))

  pub rows_there : 0 < columns → within b count columns t ≡ true → b ≡ true → count * columns ≤ length t
  unfolding within
  rows_there z e p = let h : leb count (length t / columns) ≡ true = subst (λ (b : Bool). leb (pick b count 0) (length t / columns) ≡ true) p e in (le-div_iff_mul-le z).0 (leb-true _ _ h)
