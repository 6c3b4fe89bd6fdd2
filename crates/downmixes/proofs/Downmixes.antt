-- A downmix definition is two bytes: read, tallied and written, with no demand that can fail.
use Prim.Native.Nat.{ℕ, ◌+◌, ◌*◌, ◌≤◌}
use mathlib.Core.Path.{◌≡◌, refl, sym, ◌∙◌}
use mathlib.Core.List.{List, [], ◌∷◌, flatten}
use mathlib.Core.Bool.{Bool, true, false}
use native.Mathlib.Omega.{arith}
use native.Mathlib.Nat.{add-zero}
use lib.ListN.{length, get_or}
use Rattle.wire.specs.Lists.{each, sum}
use Rattle.wire.specs.Bits.{part, total, split, zeros}
use Rattle.wire.specs.Prog.{done, run, many}
use Rattle.wire.specs.Reads.{end_of, is_done}
use Rattle.wire.specs.Pen.{Checked, Quick, Ready, Filled}
use Rattle.wire.specs.Layout.{of, put, blank, flat, writes, shown, cells, matches, matched, every, tally}
use Rattle.wire.specs.Straight.{ends, ones, puts_at, took, spans}
use Rattle.wire.specs.Spell.{Spelt, FitsAll, ChecksAll, ReadyAll, FillsAll}
use Rattle.wire.specs.Pen.{Pen}
use Rattle.wire.proofs.Layouts.Straight.{Whole, flat_done}
use Rattle.wire.proofs.Layouts.Families.{lines_end}
use Rattle.wire.proofs.Writing.Plain.{line_acts, line_plain, line_odd, line_checked, line_ready, line_filled}
use Rattle.downmixes.specs.Layout.{downmix}
use Rattle.downmixes.specs.declared.rows.DownmixDefinition.{DownmixDefinition}
use Rattle.downmixes.specs.Rows.{downmix_row, downmix_of, downmix_from}
use Rattle.downmixes.specs.Write.{downmix_fields, row_acts}

-- ---- read

downmix_two : (s : List ℕ) (at : ℕ) → spans downmix blank s at ≡ ones 2
unfolding downmix took ones
downmix_two s at = refl

pub downmixes_end : (s : List ℕ) (at count : ℕ) → ends (ones (2 * count)) s at ≡ end_of (run (many count (flat 4 downmix)) s at)
downmixes_end s at count = sym (lines_end 4 downmix 2 downmix_two s count at)

-- a row that was measured: its bytes are there, and what they give
module _ (s : List ℕ) (pos : ℕ) (h : pos ≤ length s) (q : is_done (run (flat 4 downmix) s pos) ≡ true) where
  whole : Whole 4 downmix s pos
  whole = flat_done 4 downmix s pos h q

  pub downmix_there : pos + 2 ≤ length s
  unfolding downmix took total
  downmix_there = whole.there

  pub downmix_run : run (flat 4 downmix) s pos ≡ done (downmix_row (downmix_from (get_or s pos 0) (get_or s (pos + 1) 0))) (pos + 2)
  unfolding downmix took puts_at put split total each
  downmix_run = whole.is

pub downmix_tally : (id kind : ℕ) → tally (downmix ∷ []) (of (downmix_row (downmix_from id kind))) ≡ zeros 1 (part 7 1 id)
unfolding tally cells shown downmix sum flatten
downmix_tally id kind = omega arith

-- ---- written

module _ (t : List ℕ) (i : ℕ) {d : DownmixDefinition} (e : d ≡ downmix_of t (i * 4)) where
  acts_so : row_acts t i ≡ line_acts (downmix_fields d)
  unfolding downmix writes shown cells matches matched every flatten
  acts_so = rw (e, add-zero)

  module _ {vs : List ℕ} (s : Spelt (downmix_fields d) vs) where
    pub row_plain : {b : Bool} → FitsAll vs b → b ≡ true → Quick (row_acts t i) 2 2
    row_plain f z = line_plain (row_acts t i) (downmix_fields d) acts_so (sym (f.of (downmix_fields d) s) ∙ z) (omega arith)

    pub row_odd : {b : Bool} → FitsAll vs b → b ≡ false → Quick (row_acts t i) 2 0
    row_odd f z = line_odd (row_acts t i) (downmix_fields d) acts_so (sym (f.of (downmix_fields d) s) ∙ z)

    pub row_checked : {p r : Pen} → ChecksAll true vs p r → Checked (row_acts t i) 2 p r
    row_checked w = line_checked (row_acts t i) (downmix_fields d) acts_so s w

    pub row_ready : {n : ℕ} {l : List ℕ} → Ready (row_acts t i) n l → ReadyAll true vs n l
    row_ready r = line_ready (row_acts t i) (downmix_fields d) acts_so s r

    pub row_filled : {n r : ℕ} {l o : List ℕ} → Ready (row_acts t i) n l → FillsAll true vs n l r o → Filled (row_acts t i) n l r o
    row_filled w x = line_filled (row_acts t i) (downmix_fields d) acts_so s w x
