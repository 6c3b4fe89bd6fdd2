-- Both passes of writing, of every kind: the fields, and the trailing run behind them. `own` are the actions of the fields as the writer that stands beside the Rust has them.
use Prim.Native.Nat.{ℕ, ◌+◌, ◌≤◌}
use mathlib.Core.Bool.{Bool, true, false}
use mathlib.Core.List.{List, [], ◌∷◌, ◌++◌}
use mathlib.Core.Path.{◌≡◌, refl, sym, subst}
use lib.ListN.{length}
use lib.Dec.{leb}
use borrow.Author.Tests.{leb-true}
use Rattle.wire.specs.Act.{Act, demand, copy}
use Rattle.wire.specs.declared.pen.Fault.TheVariants as F
use Rattle.wire.specs.Pen.{Pen, At, Stop}
use Rattle.wire.specs.Pen.{Checked, CheckedRun, Ready, Filled}
use Rattle.wire.proofs.Writing.Passes.{then, passed, refused, run_looked, Filling, fill_start, fill_demand, fill_row_lem, fill_turn, fill_last, demanded, run_room}
use Rattle.frame.specs.Kind.{Kind, Lent}
use Rattle.frame.specs.Entry.{all_acts, trail}

module _ {Tree Top Value : Type 0} (K : Kind Tree Top Value) where
  abbrev ends : Top → ℕ
  ends m = (K.trailing m).offset + (K.trailing m).length

  abbrev behind : Top → Lent → List ℕ → List Act
  behind m lent store = K.acts m lent store ++ copy (trail K m store) ∷ []

  -- ---- the check pass

  pub run_outside : (m : Top) (lent : Lent) (store : List ℕ) → leb (ends m) (length store) ≡ false → (k : ℕ) → Checked (all_acts K m lent store) k (At 0) (Stop F.Range 0)
  unfolding all_acts
  run_outside m lent store e k =
      subst (λ (b : Bool). Checked (demand F.Range b ∷ behind m lent store) k (At 0) (Stop F.Range 0)) (sym e) (refused F.Range 0 (behind m lent store) k)

  module _ {m : Top} {lent : Lent} {store : List ℕ} {own : List Act} (same : K.acts m lent store ≡ own) where
    pub all_looked : leb (ends m) (length store) ≡ true → {k : ℕ} {p r : Pen} → Checked own k (At 0) p → CheckedRun (K.trailing m).length p r
        → Checked (all_acts K m lent store) (k + (K.trailing m).length) (At 0) r
    unfolding all_acts
    all_looked e {k} {p} {r} f w =
        let fields : Checked (K.acts m lent store) k (At 0) p = subst (λ (q : List Act). Checked q k (At 0) p) (sym same) f in
        let run = run_looked (K.trailing m).offset (K.trailing m).length store (leb-true (ends m) (length store) e) w in
        subst (λ (b : Bool). Checked (demand F.Range b ∷ behind m lent store) (k + (K.trailing m).length) (At 0) r) (sym e) (passed F.Range 0 (then fields run))

    -- ---- the fill pass

    module _ {out : List ℕ} (ready : Ready (all_acts K m lent store) 0 out) where
      pub fields_ready : Ready own 0 out
      unfolding all_acts
      fields_ready = subst (λ (q : List Act). Ready q 0 out) same (fill_row_lem (K.acts m lent store) (copy (trail K m store) ∷ []) (fill_demand (fill_start ready)) refl)

      module _ {n : ℕ} {o : List ℕ} (long : length o ≡ length out) (f : Filled own 0 out n o) where
        fields_filled : Filling (all_acts K m lent store) (copy (trail K m store) ∷ []) 0 out n o
        unfolding all_acts
        fields_filled = fill_turn (fill_demand (fill_start ready)) refl long (subst (λ (q : List Act). Filled q 0 out n o) (sym same) f)

        pub run_ready : (ends m ≤ length store) × (n + (K.trailing m).length ≤ length o)
        unfolding all_acts
        run_ready = let h = leb-true (ends m) (length store) (demanded ready) in (h, run_room (K.trailing m).offset (K.trailing m).length store h fields_filled.ready)

        pub all_filled : {n' : ℕ} {o' : List ℕ} → Filled (copy (trail K m store) ∷ []) n o n' o' → Filled (all_acts K m lent store) 0 out n' o'
        all_filled = fill_last fields_filled
