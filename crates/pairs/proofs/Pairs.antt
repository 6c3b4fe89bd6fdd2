-- A pair is one byte: read, tallied and written, with no demand that can fail.
use Prim.Native.Nat.{ℕ, ◌+◌, ◌≤◌, ◌<◌}
use mathlib.Core.Path.{◌≡◌, refl, sym, ap, ◌∙◌}
use mathlib.Core.List.{List, [], ◌∷◌, flatten}
use mathlib.Core.Bool.{Bool, true, false, ◌&&◌, and-true}
use native.Mathlib.Omega.{arith}
use lib.ListN.{length, get_or}
use Rattle.wire.specs.Lists.{each, sum}
use Rattle.wire.specs.Bits.{part, total, split, zeros, fit}
use Rattle.wire.specs.Prog.{done, run}
use Rattle.wire.specs.Reads.{is_done}
use Rattle.wire.specs.Pen.{looks, glance, look, Checked, Quick, Ready, Filled, clean, Pen, At, Stop}
use Rattle.wire.specs.Layout.{of, put, blank, flat, writes, shown, cells, matches, matched, every, tally}
use Rattle.wire.specs.Straight.{puts_at, took, spans}
use Rattle.wire.specs.Spell.{fit_all, Spells, none, more, ChecksAll, ReadyAll, FillsAll}
use Rattle.wire.specs.declared.pen.Fault.TheVariants as F
use Rattle.wire.proofs.Layouts.Straight.{Whole, flat_done}
use Rattle.wire.proofs.Writing.Plain.{line_acts, line_clean, line_plain, line_odd, line_checked, line_ready, line_filled}
use Rattle.pairs.specs.Layout.{pair}
use Rattle.pairs.specs.Rows.{pair_from}
use Rattle.pairs.specs.Write.{pair_fields, pair_acts}

-- ---- read

pub pair_one : (s : List ℕ) (at : ℕ) → spans pair blank s at ≡ 1 ∷ []
unfolding pair took
pair_one s at = refl

-- a pair that was measured: its byte is there, and what it gives
module _ (s : List ℕ) (pos : ℕ) (h : pos ≤ length s) (q : is_done (run (flat 2 pair) s pos) ≡ true) where
  whole : Whole 2 pair s pos
  whole = flat_done 2 pair s pos h q

  pub pair_there : pos < length s
  unfolding pair took total
  pair_there = let w = whole.there in omega (arith, w)

  pub pair_run : run (flat 2 pair) s pos ≡ done (pair_from (get_or s pos 0)) (pos + 1)
  unfolding pair took puts_at put split total each
  pair_run = whole.is

pub pair_tally : (b : ℕ) → tally (pair ∷ []) (of (pair_from b)) ≡ zeros 1 (part 7 1 b)
unfolding tally cells shown pair sum flatten
pair_tally b = omega arith

-- ---- written

pair_acts_lem : (u : List ℕ) (j : ℕ) → pair_acts u j ≡ line_acts (pair_fields u j ∷ [])
unfolding pair writes shown cells matches matched every flatten
pair_acts_lem u j = refl

-- `b` is the test of its fields
module _ (u : List ℕ) (j : ℕ) {b : Bool} (f : b ≡ fit (pair_fields u j)) where
  pub pair_plain : b ≡ true → Quick (pair_acts u j) 1 1
  unfolding fit_all
  pair_plain e = line_plain (pair_acts u j) (pair_fields u j ∷ []) (pair_acts_lem u j) (ap (λ (x : Bool). x && true) (sym f ∙ e)) (omega arith)

  pub pair_odd : b ≡ false → Quick (pair_acts u j) 1 0
  unfolding fit_all
  pair_odd e = line_odd (pair_acts u j) (pair_fields u j ∷ []) (pair_acts_lem u j) (ap (λ (x : Bool). x && true) (sym f ∙ e))

module _ (u : List ℕ) (j : ℕ) {v : ℕ} (w : Spells (pair_fields u j) v) where
  pub pair_ready : {n : ℕ} {l : List ℕ} → Ready (pair_acts u j) n l → ReadyAll true (v ∷ []) n l
  pair_ready r = line_ready (pair_acts u j) (pair_fields u j ∷ []) (pair_acts_lem u j) (more w none) r

  pub pair_filled : {n r : ℕ} {l o : List ℕ} → Ready (pair_acts u j) n l → FillsAll true (v ∷ []) n l r o → Filled (pair_acts u j) n l r o
  pair_filled r x = line_filled (pair_acts u j) (pair_fields u j ∷ []) (pair_acts_lem u j) (more w none) r x

  pub pair_checked : {p r : Pen} → ChecksAll true (v ∷ []) p r → Checked (pair_acts u j) 1 p r
  pair_checked x = line_checked (pair_acts u j) (pair_fields u j ∷ []) (pair_acts_lem u j) (more w none) x

pub pair_stopped : (u : List ℕ) (j n : ℕ) → clean (pair_acts u j) ≡ false → Checked (pair_acts u j) 1 (At n) (Stop F.Field n)
unfolding fit_all looks glance look
pair_stopped u j n e =
    let c : fit (pair_fields u j) ≡ false = sym (and-true (fit (pair_fields u j))) ∙ sym (line_clean (pair_acts u j) (pair_fields u j ∷ []) (pair_acts_lem u j)) ∙ e in
    rw (pair_acts_lem u j) (record { pens = rw c; near = omega arith })
