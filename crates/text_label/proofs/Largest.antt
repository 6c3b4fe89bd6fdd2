-- The largest image of the text label body: 15 languages with all lists full, every label of 255 bytes, and the longest trailing run make 794,222 bytes.
use Prim.Native.Nat.{ℕ, ◌+◌, ◌*◌, ◌-◌, ◌/◌, ◌^◌, ◌≤◌, ◌<◌}
use mathlib.Core.List.{List, [], ◌∷◌, ◌++◌}
use mathlib.Core.Bool.{true}
use mathlib.Core.Path.{◌≡◌, refl, sym, subst}
use native.Mathlib.Omega.{arith}
use native.Mathlib.Nat.{mul-le-mul_right}
use lib.ListN.{length}
use lib.Dec.{leb}
use Rattle.wire.specs.Bits.{field, fit}
use Rattle.wire.specs.Act.{Act}
use Rattle.wire.specs.Pen.{clean, bytes}
use Rattle.wire.specs.Layout.{at}
use Rattle.wire.proofs.Fields.{fits_cons}
use Rattle.wire.proofs.Writing.Acts.{and_both, clean_both}
use Rattle.wire.proofs.Layouts.Most.{both_long, most, rows_most, bearing_most}
use Rattle.frame.specs.Kind.{Lent}
use Rattle.frame.specs.Numbers.{refuses}
use Rattle.frame.specs.Entry.{Writes, first_table, other_tables}
use Rattle.frame.proofs.Largest.{longest}
use Rattle.labels.specs.Layout.{label}
use Rattle.labels.specs.Write.{row_acts as entry_row, count_byte, list_acts}
use Rattle.labels.specs.declared.rows.Descriptions.{Descriptions}
use Rattle.text_label.specs.declared.rows.TextLabelLanguage.{TextLabelLanguage}
use Rattle.text_label.specs.declared.rows.MpegH3dAudioTextLabel.{MpegH3dAudioTextLabel}
use Rattle.text_label.specs.Rows.{language_of}
use Rattle.text_label.specs.Write.{all_within, language_acts, row_acts, text_label_acts}
use Rattle.text_label.specs.Kind.{kind}
use Rattle.text_label.proofs.Mirrored.{written_so}

-- a full list with labels of 255 bytes
list_most : (w full : ℕ) (t store : List ℕ) (d : Descriptions) → 2 ^ w ≡ full + 1 → clean (list_acts w t store d) ≡ true → length (bytes (list_acts w t store d)) ≤ 1 + full * 257
unfolding list_acts clean bytes most
list_most w full t store d p c =
    let k = d.entries.count in
    let (a, r) = and_both (fit (count_byte w d)) _ c in
    let n : k < 2 ^ w = (fits_cons w k [] (fits_cons (8 - w) d.reserved _ a).1).0 in
    let m : k ≤ full = below p n in
    omega (arith, rows_most (entry_row w t store) 257 (λ i e. bearing_most (label w) store (at 4 t i) e) d.entries.first k r, mul-le-mul_right {m = k} {n = full} 257 m)
  where
    below : {a b m : ℕ} → b ≡ m + 1 → a < b → a ≤ m
    below e h = omega (arith, e, h)

language_most : (u store : List ℕ) (l : TextLabelLanguage) → clean (language_acts u store l) ≡ true → length (bytes (language_acts u store l)) ≤ 48579
unfolding language_acts clean bytes
language_most u store l c =
    let g = list_acts 7 u store l.groups in
    let s = list_acts 5 u store l.switch_groups in
    let p = list_acts 5 u store l.presets in
    let (_, c₀) = and_both (all_within l u) _ c in
    let (_, c₁) = and_both (fit (field 8 l.language.0 ∷ [])) _ c₀ in
    let (_, c₂) = and_both (fit (field 8 l.language.1 ∷ [])) _ c₁ in
    let (_, c₃) = and_both (fit (field 8 l.language.2 ∷ [])) _ c₂ in
    let (x, c₄) = clean_both g (s ++ p) c₃ in
    let (y, z) = clean_both s p c₄ in
    omega
    (arith, both_long g (s ++ p), both_long s p, list_most 7 127 u store l.groups refl x, list_most 5 31 u store l.switch_groups refl y, list_most 5 31 u store l.presets refl z)

body_most : (m : MpegH3dAudioTextLabel) (t u store : List ℕ) → clean (text_label_acts m t u store) ≡ true → length (bytes (text_label_acts m t u store)) ≤ 728687
unfolding text_label_acts clean bytes
body_most m t u store c =
    let (_, c₀) = and_both (leb m.languages (length t / 12)) _ c in
    let (_, c₁) = and_both (fit (field 8 m.scene_info_id ∷ [])) _ c₀ in
    let (f, c₂) = and_both (fit (field 4 m.reserved ∷ field 4 m.languages ∷ [])) _ c₁ in
    let n = (fits_cons 4 m.languages [] (fits_cons 4 m.reserved _ f).1).0 in
    omega (arith, n, rows_most (row_acts t u store) 48579 (λ i e. language_most u store (language_of t (i * 12)) e) 0 m.languages c₂)

-- where writing answers 10, the length is at most 794,222
pub largest : (m : MpegH3dAudioTextLabel) (lent : Lent) (store out after : List ℕ) (n : ℕ) → m.trailing.length < 65536
    → Writes kind m lent store out (refuses 10 (n ∷ [])) after → n ≤ 794222
unfolding kind
largest m lent store out after n h w =
    longest kind m lent store 728687
    (subst (λ (q : List Act). clean q ≡ true → length (bytes q) ≤ 728687) (sym (written_so m lent store)) (body_most m (first_table lent) (first_table (other_tables lent)) store)) h out after n w
