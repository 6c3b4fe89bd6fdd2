-- The layouts read what the Rust's `MpegH3dAudioTextLabel::parse` reads, line by line, and write what its `write` does.
use Prim.Native.Nat.{ℕ, ◌+◌, ◌*◌, ◌-◌, ◌/◌}
use native.Mathlib.Omega.{arith}
use native.Mathlib.Nat.{add-zero}
use mathlib.Core.Path.{◌≡◌, refl, sym, ap, ◌∙◌}
use mathlib.Core.List.{List, [], ◌∷◌, ◌++◌, append-nil, map, flatten}
use mathlib.Core.Bool.{Bool, true, ◌&&◌}
use lib.ListN.{length, get_or}
use lib.Dec.{leb}
use Rattle.wire.specs.Lists.{each}
use Rattle.wire.specs.Bits.{part, total, split}
use Rattle.wire.specs.Prog.{Prog, ret, look, u8, u8s, pass, many, ◌>>=◌}
use Rattle.wire.specs.Act.{Act, demand, byte, rows}
use Rattle.wire.specs.declared.pen.Fault.TheVariants as F
use Rattle.wire.specs.Layout.{Columns, from, put, puts, reads, cells, matches, matched, shown, writes, every, has, Borne, bearing}
use Rattle.wire.proofs.Lists.{second, third}
use Rattle.wire.proofs.Reading.Runs.{bind_assoc}
use Rattle.labels.specs.Layout.{label}
use Rattle.labels.specs.Read.{entry, Labels, labels_over}
use Rattle.labels.specs.Rows.{range, descriptions}
use Rattle.labels.specs.Write.{in_table, count_byte, entries_acts, list_acts}
use Rattle.frame.specs.Kind.{Lent}
use Rattle.frame.specs.Entry.{first_table, other_tables}
use Rattle.frame.specs.Body.{layouts, parse, inside, pieced, beyond}
use Rattle.frame.specs.Ranges.{all_inside, ranged_bytes, ranged_acts}
use Rattle.frame.proofs.Pieces.{and-true}
use Rattle.text_label.specs.declared.rows.TextLabelLanguage.{TextLabelLanguage}
use Rattle.text_label.specs.declared.rows.MpegH3dAudioTextLabel.{MpegH3dAudioTextLabel}
use Rattle.text_label.specs.Layout.{head, groups, switch_group_list, presets}
use Rattle.text_label.specs.Rows.{letters, language_of, Language}
use Rattle.text_label.specs.Read.{language_is, language_over, text_label_over, text_label, language}
use Rattle.text_label.specs.Write.{letter_fields, language_acts, row_acts, head_fields, text_label_acts}
use Rattle.text_label.specs.Kind.{lists, language_rows, kind}

-- ---- a label

seven_so : bearing (label 7) ≡ entry 7
unfolding reads puts put split total entry u8 pass ◌>>=◌ each
seven_so = refl

five_so : bearing (label 5) ≡ entry 5
unfolding reads puts put split total entry u8 pass ◌>>=◌ each
five_so = refl

-- ---- a language: its columns are read list by list

abbrev labels_of : ℕ → ℕ → List Borne → Labels
labels_of w b l = record { reserved = part w (8 - w) b; count = part 0 w b; entries = l }

list_so : {B : Type 0} (w : ℕ) (p : Prog Borne) (k : Labels → Prog B) → look 1 (λ b. many (part 0 w (get_or b 0 0)) p >>= λ l. k (labels_of w (get_or b 0 0) l)) ≡ labels_over w p >>= k
unfolding labels_over u8 ◌>>=◌
list_so w p k = λ i. look 1 (λ b. sym (bind_assoc (many (part 0 w (get_or b 0 0)) p) (λ l. ret (labels_of w (get_or b 0 0) l)) k) i)

pub language_so : language_rows.reads ≡ language
unfolding parse groups switch_group_list presets reads puts put split total language_over u8s ◌>>=◌ each
language_so =
    let p : ℕ → Prog Borne = λ w. bearing (label w) in
    let is : List ℕ → Labels → Labels → Labels → Prog Language = λ l g s q. ret (language_is l g s q) in
    (λ i. look 3 (λ l. look 1 (λ b. many (part 0 7 (get_or b 0 0)) (p 7) >>= λ x. look 1 (λ c. many (part 0 5 (get_or c 0 0)) (p 5) >>= λ y. look 1 (λ d. many (part 0 5 (get_or d 0 0)) (p 5) >>= λ z. is (get_or l 0 0 ∷ second l i ∷ third l i ∷ []) (labels_of 7 (get_or b 0 0) x) (labels_of 5 (get_or c 0 0) y) (labels_of 5 (get_or d 0 0) z))))))
    ∙ (λ i. look 3 (λ l. look 1 (λ b. many (part 0 7 (get_or b 0 0)) (p 7) >>= λ x. look 1 (λ c. many (part 0 5 (get_or c 0 0)) (p 5) >>= λ y. list_so 5 (p 5) (is l (labels_of 7 (get_or b 0 0) x) (labels_of 5 (get_or c 0 0) y)) i))))
    ∙ (λ i. look 3 (λ l. look 1 (λ b. many (part 0 7 (get_or b 0 0)) (p 7) >>= λ x. list_so 5 (p 5) (λ s. labels_over 5 (p 5) >>= is l (labels_of 7 (get_or b 0 0) x) s) i)))
    ∙ (λ i. look 3 (λ l. list_so 7 (p 7) (λ g. labels_over 5 (p 5) >>= λ s. labels_over 5 (p 5) >>= is l g s) i))

-- ---- the body

-- it reads as the Rust's `parse`, over the layout of its labels
pub parse_over : kind.program ≡ text_label_over language
unfolding kind parse head reads puts put split total text_label_over u8 ◌>>=◌ each
parse_over = λ i. look 1 (λ a. look 1 (λ b. many (part 0 4 (get_or b 0 0)) (language_so i) >>= λ l. ret (part 0 8 (get_or a 0 0) ∷ part 4 4 (get_or b 0 0) ∷ part 0 4 (get_or b 0 0) ∷ [], (l, tt))))

-- and with that of its labels
pub mirrored : kind.program ≡ text_label
unfolding language_over
mirrored =
    parse_over
    ∙ (λ i. text_label_over (u8s 3 >>= λ l. labels_over 7 (seven_so i) >>= λ g. labels_over 5 (five_so i) >>= λ s. labels_over 5 (five_so i) >>= λ p. ret (language_is l g s p)))

-- ---- and is written as the Rust's `write`

-- the row with these columns
abbrev pub language_at : Columns → TextLabelLanguage
language_at g = record {
  language = letters (g 0) (g 1) (g 2);
  groups = descriptions (g 3) (range (g 4) (g 5));
  switch_groups = descriptions (g 6) (range (g 7) (g 8));
  presets = descriptions (g 9) (range (g 10) (g 11));
}

pub columns_so : (t : List ℕ) (b : ℕ) → language_at (from t b) ≡ language_of t b
columns_so t b =
    let c : (i j : ℕ) → i ≡ j → get_or t i 0 ≡ get_or t j 0 = λ i j e. ap (λ (k : ℕ). get_or t k 0) e in
    λ i. record {
      language = letters (c (b + 0) b (add-zero b) i) (get_or t (b + 1) 0) (get_or t (b + 2) 0);
      groups = descriptions (get_or t (b + 3) 0) (range (c (b + 4) (b + 3 + 1) (omega arith) i) (c (b + 5) (b + 3 + 2) (omega arith) i));
      switch_groups = descriptions (get_or t (b + 6) 0) (range (c (b + 7) (b + 6 + 1) (omega arith) i) (c (b + 8) (b + 6 + 2) (omega arith) i));
      presets = descriptions (get_or t (b + 9) 0) (range (c (b + 10) (b + 9 + 1) (omega arith) i) (c (b + 11) (b + 9 + 2) (omega arith) i));
    }

-- behind its last list stands nothing
row_so : (lent : Lent) (store : List ℕ) (g : Columns) → ranged_acts 12 lists (length (first_table lent) / 4) lent store g ≡ language_acts (first_table lent) store (language_at g)
unfolding all_inside ranged_bytes layouts groups switch_group_list presets cells matches matched shown writes every flatten language_acts list_acts
row_so lent store g = λ i. ends (λ t. and-true t i) (λ q. append-nil q i)
  where
    u : List ℕ
    u = first_table lent

    l : TextLabelLanguage
    l = language_at g

    -- t is what is done with the last range, f what with the last list
    ends : (Bool → Bool) → (List Act → List Act) → List Act
    ends t f =
        demand F.Range (in_table l.groups.entries u && (in_table l.switch_groups.entries u && t (in_table l.presets.entries u)))
        ∷ demand F.Field true
        ∷ demand F.Empty true
        ∷ map byte (letter_fields l.language)
        ++ (list_acts 7 u store l.groups ++ (list_acts 5 u store l.switch_groups ++ (byte (count_byte 5 l.presets) ∷ f (entries_acts 5 u store l.presets.entries))))

module _ (m : MpegH3dAudioTextLabel) (lent : Lent) (store : List ℕ) where
  languages_so : rows (language_rows.acts lent store) 0 m.languages ≡ rows (row_acts (first_table lent) (first_table (other_tables lent)) store) 0 m.languages
  languages_so = λ i. rows (λ j. (row_so (other_tables lent) store (from (first_table lent) (j * 12)) ∙ ap (language_acts (first_table (other_tables lent)) store) (columns_so (first_table lent) (j * 12))) i) 0 m.languages

  -- neither a range nor a byte stands behind the languages
  pub written_so : kind.acts m lent store ≡ text_label_acts m (first_table lent) (first_table (other_tables lent)) store
  unfolding kind layouts inside pieced beyond text_label_acts head cells matches matched shown writes every flatten has
  written_so = case ∙ λ i. ends (λ t. and-true t i) (λ q. append-nil q i) (languages_so i)
    where
      ends : (Bool → Bool) → (List Act → List Act) → List Act → List Act
      ends t f q = demand F.Range (t (leb m.languages (length (first_table lent) / 12))) ∷ demand F.Field true ∷ demand F.Empty true ∷ map byte (head_fields m) ++ f q

      case : kind.acts m lent store ≡ ends (λ t. t && true) (λ q. q ++ []) (rows (language_rows.acts lent store) 0 m.languages)
      case = refl

-- t and u are tables 6 and 7
pub acts_are : (m : MpegH3dAudioTextLabel) (t u store : List ℕ) → kind.acts m (t ∷ u ∷ []) store ≡ text_label_acts m t u store
unfolding first_table other_tables
acts_are m t u store = written_so m (t ∷ u ∷ []) store
