-- Writing a value that is its head and its trailing run: both passes, and that a kind's own value of this shape is written so.
use Prim.Native.Nat.{ℕ, suc, ◌+◌, ◌^◌, ◌≤◌, ◌<◌}
use mathlib.Core.Bool.{true}
use mathlib.Core.List.{List, [], ◌∷◌, ◌++◌, map}
use mathlib.Core.Path.{◌≡◌, refl, sym, ap, ◌∙◌}
use native.Mathlib.Omega.{arith}
use lib.ListN.{length}
use lib.Dec.{leb}
use lib.Seq.{slice}
use Rattle.wire.specs.Bits.{Field}
use Rattle.wire.specs.Act.{Act, demand, byte, copy, settle}
use Rattle.wire.specs.Pen.{Checked, CheckedRun, Ready, Filled, bytes}
use Rattle.wire.specs.Spell.{Spelt, none, more}
use Rattle.wire.specs.declared.rows.Payload.{Payload}
use Rattle.wire.specs.declared.pen.Fault.TheVariants as F
use Rattle.wire.specs.Pen.{Pen}
use Rattle.wire.specs.Pen.{At}
use Rattle.wire.proofs.Writing.Passes.{passed, unskip}
use Rattle.frame.specs.Numbers.{Answer}
use Rattle.frame.specs.Kind.{Kind, Lent}
use Rattle.frame.specs.Entry.{all_acts, put, writing, Writes}
use Rattle.frame.specs.Sight.{head_acts, head_kind, Heads}
use Rattle.frame.proofs.Passes.{all_looked, fields_ready, run_ready, all_filled}

-- numbers that spell few bytes
long_as : {fss : List (List Field)} {vs : List ℕ} → Spelt fss vs → length vs ≡ length fss
long_as none = refl
long_as (more s r) = ap suc (long_as r)

pub heads : (fss : List (List Field)) {vs : List ℕ} → Spelt fss vs → length fss < 2 ^ 16 → Heads vs
heads fss s h = record { fields = fss; spelt = s; few = omega (arith, long_as s) }

module _ (fss : List (List Field)) (run : Payload) (store : List ℕ) where
  -- the check pass
  pub head_looked : leb (run.offset + run.length) (length store) ≡ true → {k : ℕ} {p r : Pen} → Checked (map byte fss) k (At 0) p → CheckedRun run.length p r
      → Checked (all_acts (head_kind fss) run [] store) (k + run.length) (At 0) r
  unfolding head_kind
  head_looked e v w = all_looked (head_kind fss) {own = head_acts fss} refl e (passed F.Range 0 (passed F.Field 0 (passed F.Empty 0 v))) w

  -- the fill pass
  module _ {out : List ℕ} (ready : Ready (all_acts (head_kind fss) run [] store) 0 out) where
    pub head_ready : Ready (map byte fss) 0 out
    unfolding head_kind
    head_ready = unskip (unskip (unskip (fields_ready (head_kind fss) {own = head_acts fss} refl ready)))

    module _ {n : ℕ} {o : List ℕ} (long : length o ≡ length out) (f : Filled (map byte fss) 0 out n o) where
      with_tests : Filled (head_acts fss) 0 out n o
      unfolding bytes
      with_tests = record { place = f.place; holds = f.holds }

      pub bare_run_ready : (run.offset + run.length ≤ length store) × (n + run.length ≤ length o)
      unfolding head_kind
      bare_run_ready = run_ready (head_kind fss) {own = head_acts fss} refl ready long with_tests

      pub bare_filled : {n' : ℕ} {o' : List ℕ} → Filled (copy (slice run.offset (run.offset + run.length) store) ∷ []) n o n' o'
          → Filled (all_acts (head_kind fss) run [] store) 0 out n' o'
      unfolding head_kind
      bare_filled v = all_filled (head_kind fss) {own = head_acts fss} refl ready long with_tests v

-- a value of any kind that acts so
pub bare_writes : {Tree Top Value : Type 0} (K : Kind Tree Top Value) (m : Top) (lent : Lent) (store out : List ℕ) (fss : List (List Field)) {r : Answer ℕ} {after : List ℕ}
    → K.acts m lent store ≡ head_acts fss → Writes (head_kind fss) (K.trailing m) [] store out r after → Writes K m lent store out r after
unfolding writing all_acts head_kind
bare_writes K m lent store out fss e w =
    let p : Payload = K.trailing m in
    let s : ℕ = p.offset + p.length in
    record { promised = w.promised ∙ ap (λ (q : List Act). put out (settle (demand F.Range (leb s (length store)) ∷ q ++ copy (slice p.offset s store) ∷ []) 0)) (sym e) }
