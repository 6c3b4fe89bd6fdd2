-- A record or a row in pieces, its lists written in any way: the demand that its ranges are inside, those of its layouts, and its bytes with what stands at the lists. Such actions spell what they mean, have no fault if
-- what was read has none, and are decided by the columns that have a meaning.
use Prim.Native.Nat.{ℕ, ◌≤◌}
use mathlib.Core.List.{List, [], ◌∷◌, ◌++◌}
use mathlib.Core.Bool.{Bool, true}
use mathlib.Core.Path.{◌≡◌, sym, ap, subst, ◌∙◌}
use Rattle.wire.specs.Act.{Act, demand}
use Rattle.wire.specs.declared.pen.Fault.TheVariants as F
use Rattle.wire.specs.Pen.{clean, bytes}
use Rattle.wire.specs.Layout.{Cell, Columns, row, cells, matched, every, flagged, counted, columns, mix, kept, demands}
use Rattle.wire.proofs.Writing.Acts.{and_both, both_and, clean_append, clean_both}
use Rattle.wire.proofs.Layouts.Codec.{Codec, Spells}
use Rattle.wire.proofs.Layouts.Cells.{On, sound, every_same, both_sound, sound_both}
use Rattle.wire.proofs.Layouts.Forms.{Form, form_shown, form_all, form_proper, below, rows_codec, means_as, alike, row_spells, Breaks, woven, Holes, Cleans, Faultless}
use Rattle.wire.proofs.Layouts.Rowed.{after_demands}
use Rattle.frame.specs.Body.{Pieces, layouts}
use Rattle.frame.proofs.Pieces.{LawfulPieces, form, cells_of, matched_of}

module _ {T M : Type 0} (p : Pieces T M) (w : LawfulPieces p) (n : ℕ) (start : Columns) (proper : form_proper [] (form p w) ≡ true) (low : below n (form_all (form p w)) ≡ true) (out : (j : ℕ) → n ≤ j → start j ≡ 0) where
  abbrev x : Form T M
  x = form p w

  abbrev codec : Codec (List ℕ × T) (List ℕ × M)
  codec = rows_codec n x start proper low out

  -- `inside` says whether the ranges are inside, a are the bytes
  abbrev pub record_acts : Bool → Columns → List Act → List Act
  record_acts inside g a = demand F.Range inside ∷ demands (layouts p) g ++ a

  pub kept_so : (g : Columns) → kept (layouts p) g start ≡ means_as n x start proper low out g
  kept_so g = ap (λ (cs : List Cell). mix (columns cs) g start) (cells_of p w g)

  pub record_spells : (inside : Bool) (g : Columns) (q : Breaks x) (c : M) {a : List Act} → a ≡ woven x g q
      → (inside ≡ true → clean a ≡ true → Holes x (kept (layouts p) g start) q c) → clean (record_acts inside g a) ≡ true
      → Spells codec (record_acts inside g a) (row n (kept (layouts p) g start), c)
  unfolding rows_codec clean bytes
  record_spells inside g q c {a} o holes e =
      let (i, e₀) = and_both inside _ e in
      let (d, e₁) = and_both (every flagged g (cells (layouts p) g)) _ e₀ in
      let (f, e₂) = and_both (every counted g (cells (layouts p) g)) _ e₁ in
      let (m, e₃) = clean_both (matched (layouts p) g) _ e₂ in
      let fit-so : every sound g (form_shown x g) ≡ true = subst (λ (cs : List Cell). every sound g cs ≡ true) (cells_of p w g) (both_sound (cells (layouts p) g) g d f) in
      let h = subst (λ (m : Columns). Holes x m q c) (kept_so g) (holes i e₃) in
      let s = row_spells n x start proper low out g q c (fit-so, ap clean (sym (matched_of p w g)) ∙ m) (ap clean (sym o) ∙ e₃) h in
      let z = after_demands (layouts p) g a ∙ ap bytes o in
      subst (λ (h : Columns). Spells codec (record_acts inside g a) (row n h, c)) (sym (kept_so g)) (record { fits = s.fits; sound = s.sound; same = z ∙ s.same })

  -- flags and counts of what was read have no fault
  pub sound_at : {g : Columns} → Faultless x g → (every flagged g (cells (layouts p) g) ≡ true) × (every counted g (cells (layouts p) g) ≡ true)
  sound_at {g} y = sound_both (cells (layouts p) g) g (ap (every sound g) (cells_of p w g) ∙ y.fit.0)

  pub record_ready : {inside : Bool} {g : Columns} (q : Breaks x) {a : List Act} → a ≡ woven x g q → inside ≡ true → Faultless x g → Cleans x q
      → clean (record_acts inside g a) ≡ true
  unfolding clean
  record_ready {g = g} q {a} o i y h =
      let (c, d) = sound_at y in
      both_and i (both_and c (both_and d (clean_append (matched (layouts p) g) a ∙ both_and (ap clean (matched_of p w g) ∙ y.fit.1) (ap clean o ∙ y.sound q h))))

  -- columns that agree where they have a meaning
  pub record_alike : (f h : Columns) → On (columns (form_shown x f)) f h → {inside inside' : Bool} → inside ≡ inside' → (q r : Breaks x) → q ≡ r → {a b : List Act}
      → a ≡ woven x f q → b ≡ woven x h r
      → record_acts inside f a ≡ record_acts inside' h b
  record_alike f h o i q r e {a} {b} s t =
      let y = alike n x start proper low out f h o in
      let test : (z : Cell → ℕ → Bool) → every z f (cells (layouts p) f) ≡ every z h (cells (layouts p) h) = λ z. ap (every z f) (cells_of p w f) ∙ every_same z (form_shown x f) o ∙ ap (every z h) (y.cells ∙ sym (cells_of p w h)) in
      let c = matched_of p w f ∙ y.matched ∙ sym (matched_of p w h) in
      let d : a ≡ b = s ∙ ap (woven x f) e ∙ y.acts r ∙ sym t in
      λ z. demand F.Range (i z) ∷ demand F.Field (test flagged z) ∷ demand F.Empty (test counted z) ∷ (c z ++ d z)
