-- What the tests of a value that is written say: its languages stand in table 6 and are at most 15, and the lists of a language stand in table 7.
use Prim.Native.Nat.{ℕ, ◌*◌, ◌/◌, ◌≤◌, ◌<◌}
use mathlib.Core.List.{List, [], ◌∷◌, map}
use mathlib.Core.Bool.{Bool, true}
use mathlib.Core.Path.{◌≡◌, sym, ◌∙◌}
use native.Mathlib.Omega.{arith}
use lib.ListN.{length}
use lib.Dec.{leb}
use borrow.Author.Tests.{leb-true}
use Rattle.wire.specs.Bits.{field, fit}
use Rattle.wire.specs.Act.{byte}
use Rattle.wire.specs.Pen.{Checked, clean, Pen, At}
use Rattle.wire.proofs.Fields.{fits_cons}
use Rattle.wire.proofs.Writing.Acts.{and_both}
use Rattle.wire.proofs.Writing.Passes.{passed_clean}
use Rattle.labels.specs.Write.{in_table}
use Rattle.text_label.specs.declared.rows.TextLabelLanguage.{TextLabelLanguage}
use Rattle.text_label.specs.declared.rows.MpegH3dAudioTextLabel.{MpegH3dAudioTextLabel}
use Rattle.text_label.specs.Write.{all_within, head_fields}

pub record Within (l : TextLabelLanguage) (u : List ℕ) : Type 0 where
  pub groups : in_table l.groups.entries u ≡ true
  pub switch_groups : in_table l.switch_groups.entries u ≡ true
  pub presets : in_table l.presets.entries u ≡ true

pub all_three : (l : TextLabelLanguage) (u : List ℕ) → all_within l u ≡ true → Within l u
all_three l u e =
    let (g, r) = and_both (in_table l.groups.entries u) _ e in
    let (s, p) = and_both (in_table l.switch_groups.entries u) _ r in
    record { groups = g; switch_groups = s; presets = p }

-- a count of languages that was checked
pub languages_few : (m : MpegH3dAudioTextLabel) {k n₀ n : ℕ} {r : Pen} → Checked (map byte (head_fields m)) k (At n₀) r → r ≡ At n → m.languages < 16
unfolding clean
languages_few m {n₀ = n₀} w e =
    let (_, c) = and_both (fit (field 8 m.scene_info_id ∷ [])) _ (passed_clean (map byte (head_fields m)) (At n₀) w e) in
    let (f, _) = and_both (fit (field 4 m.reserved ∷ field 4 m.languages ∷ [])) _ c in
    (fits_cons 4 m.languages [] (fits_cons 4 m.reserved _ f).1).0

-- its languages stand in table 6
pub languages_there : (count : ℕ) (t : List ℕ) {r : Bool} → r ≡ leb count (length t / 12) → r ≡ true → count * 12 ≤ length t
languages_there count t e f = omega (arith, leb-true count (length t / 12) (sym e ∙ f))
