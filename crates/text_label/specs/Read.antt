-- Reading the text label body line by line as the Rust: `MpegH3dAudioTextLabel::parse`. The layouts read the same (proofs/Mirrored).
use Rattle.std.specs.Prelude.{ℕ, ◌+◌, List, [], ◌∷◌, get_or}
use Rattle.wire.specs.Bits.{part}
use Rattle.wire.specs.Prog.{Prog, ret, u8, u8s, many, ◌>>=◌}
use Rattle.wire.specs.Layout.{Borne, bearing}
use Rattle.labels.specs.Layout.{label}
use Rattle.labels.specs.Read.{entry, Labels, labels_over}
use Rattle.text_label.specs.Rows.{letters, Language, TextLabel}
use Rattle.text_label.specs.declared.rows.DescriptionLanguage.{DescriptionLanguage}

-- the letters of a language, whose bytes stand at a position of the body
abbrev pub letters_at : List ℕ → ℕ → DescriptionLanguage
letters_at s at = letters (part 0 8 (get_or s at 0)) (part 0 8 (get_or s (at + 1) 0)) (part 0 8 (get_or s (at + 2) 0))

-- the first rows of its lists are set in the table
abbrev pub language_is : List ℕ → Labels → Labels → Labels → Language
language_is l g s p = (
  part 0 8 (get_or l 0 0) ∷ part 0 8 (get_or l 1 0) ∷ part 0 8 (get_or l 2 0) ∷ g.reserved ∷ 0 ∷ g.count ∷ s.reserved ∷ 0 ∷ s.count ∷ p.reserved ∷ 0 ∷ p.count ∷ [],
  (g.entries, (s.entries, (p.entries, tt))),
)

-- over any readers of an entry, by the width of its ID; the three bytes of a language are one read
unfoldable pub language_over : (ℕ → Prog Borne) → Prog Language
language_over e = do
  l ← u8s 3
  g ← labels_over 7 (e 7)
  s ← labels_over 5 (e 5)
  p ← labels_over 5 (e 5)
  ret (language_is l g s p)

-- over any reader of a language
unfoldable pub text_label_over : Prog Language → Prog TextLabel
text_label_over p = do
  id ← u8
  b ← u8
  l ← many (part 0 4 b) p
  ret (part 0 8 id ∷ part 4 4 b ∷ part 0 4 b ∷ [], (l, tt))

abbrev pub text_label : Prog TextLabel
text_label = text_label_over (language_over entry)

-- a language over the layout of its entries
abbrev pub language : Prog Language
language = language_over (λ w. bearing (label w))
