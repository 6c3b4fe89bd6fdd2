-- The largest image of the DRC and loudness body: 63 instructions with all that they can have, 63 loudness entries of 255 bytes, 31 downmix definitions and the longest trailing run make 82,989 bytes.
use Prim.Native.Nat.{ℕ, ◌+◌, ◌/◌, ◌≤◌, ◌<◌}
use mathlib.Core.List.{List, [], ◌∷◌, ◌++◌, append-nil, map, flatten}
use mathlib.Core.Bool.{Bool, true, false}
use mathlib.Core.Path.{◌≡◌, ap, ◌∙◌}
use native.Mathlib.Omega.{arith}
use lib.ListN.{length}
use lib.Dec.{eqb, leb}
use borrow.Author.Tests.{leb-true}
use Rattle.wire.specs.Bits.{field, fit}
use Rattle.wire.specs.Act.{Act, byte, copy, pick, rows}
use Rattle.wire.specs.Pen.{clean, bytes}
use Rattle.wire.specs.Layout.{Cell, num, reserved, flag, Columns, of, at, blank, writes, shown, cells, field_of, has, columns, mix, flat_acts, family_acts_of, bearing_acts, borne_bytes}
use Rattle.wire.proofs.Fields.{fits_cons}
use Rattle.wire.proofs.Writing.Acts.{and_both, clean_both}
use Rattle.wire.proofs.Writing.Passes.{slice_long}
use Rattle.wire.proofs.Layouts.Most.{both_long, most, writes_most, demanded_clean, demanded_long, rows_most, flat_most}
use Rattle.frame.specs.Kind.{Lent}
use Rattle.frame.specs.Body as B
use Rattle.frame.specs.Body.{table}
use Rattle.frame.specs.Numbers.{refuses}
use Rattle.frame.specs.Entry.{Writes}
use Rattle.frame.proofs.Largest.{longest}
use Rattle.pairs.specs.Layout.{pair}
use Rattle.scopes.specs.Layout.{scope}
use Rattle.scopes.specs.Rows.{scoped}
use Rattle.instructions.specs.Layout as I
use Rattle.instructions.specs.Layout.{additional, settings, effect, instruction}
use Rattle.loudness.specs.Layout.{entry}
use Rattle.downmixes.specs.Layout.{downmix}
use Rattle.drc_kind.specs.declared.rows.MpegH3dAudioDrcLoudness.{MpegH3dAudioDrcLoudness}
use Rattle.drc_kind.specs.Layout.{head, counts, layouts}
use Rattle.drc_kind.specs.Rows.{fields}
use Rattle.drc_kind.specs.Kind.{pieces, body, kind}

-- ---- the rows

-- how many additional IDs an instruction has
count_few : (g : Columns) → clean (writes settings g) ≡ true → g 11 ≤ 7
unfolding writes clean
count_few g e =
    let (_, e₀) = and_both (fit (map (field_of g) (shown (scope I.types) g))) _ e in
    let (_, e₁) = clean_both (writes (scope I.types) g) _ e₀ in
    let (_, e₂) = and_both (fit (field 2 (g 5) ∷ field 6 (g 6) ∷ [])) _ e₁ in
    let (_, e₃) = and_both (fit (field 1 (g 7) ∷ field 7 (g 8) ∷ [])) _ e₂ in
    let (f, _) = and_both (fit (field 3 (g 9) ∷ field 3 (g 11) ∷ field 1 (g 13) ∷ field 1 (g 15) ∷ [])) _ e₃ in
    let n = (fits_cons 3 (g 11) _ (fits_cons 3 (g 9) _ f).1).0 in
    omega (arith, n)

instruction_most : (ids : List ℕ) (g : Columns) → clean (family_acts_of instruction 2 additional ids g) ≡ true → length (bytes (family_acts_of instruction 2 additional ids g)) ≤ 18
unfolding clean bytes most pair scope
instruction_most t g c =
    let kid : ℕ → List Act = λ j. flat_acts additional (at 2 t j) in
    let ids = rows kid (g 10) (g 11) in
    let own = writes settings g ++ (ids ++ writes effect g) in
    let (_, e₀) = and_both (leb (g 10 + g 11) (length t / 2)) _ c in
    let (a, e₁) = clean_both (writes settings g) _ (demanded_clean (settings ∷ effect ∷ []) g own e₀) in
    let (b, _) = clean_both ids _ e₁ in
    omega (
      arith,
      demanded_long (settings ∷ effect ∷ []) g own,
      both_long (writes settings g) (ids ++ writes effect g),
      both_long ids (writes effect g),
      writes_most settings g,
      writes_most effect g,
      rows_most kid 1 (λ j e. flat_most additional (at 2 t j)) (g 10) (g 11) b,
      count_few g a,
    )

entry_most : (store : List ℕ) (g : Columns) → clean (bearing_acts entry store g) ≡ true → length (bytes (bearing_acts entry store g)) ≤ 258
unfolding clean bytes most scope
entry_most store g c =
    let w = entry.head in
    let l = borne_bytes entry store g in
    let run = byte (field 8 (g 6) ∷ []) ∷ copy l ∷ [] in
    let (r, e₀) = and_both (leb (g 5 + g 6) (length store)) _ c in
    let (_, e₁) = clean_both (writes w g) run (demanded_clean (w ∷ []) g (writes w g ++ run) e₀) in
    let (f, _) = and_both (fit (field 8 (g 6) ∷ [])) _ e₁ in
    let n = (fits_cons 8 (g 6) [] f).0 in
    omega (
      arith,
      n,
      demanded_long (w ∷ []) g (writes w g ++ run),
      both_long (writes w g) run,
      writes_most w g,
      ap length (append-nil l) ∙ slice_long (g 5) (g 6) store (leb-true _ _ r),
    )

downmix_most : (g : Columns) → length (bytes (flat_acts downmix g)) ≤ 2
unfolding most downmix
downmix_most g = flat_most downmix g

-- ---- the body

-- the counts that count fit their bits
record Few (m : Columns) : Type 0 where
  instructions : m 5 < 64
  entries : m 6 < 64
  downmixes : m 7 < 32

counts_few : (g : Columns) → clean (writes head g) ≡ true → Few (B.counts body g)
unfolding B.layouts writes clean head cells shown flatten has
counts_few g e = let (_, f) = and_both (fit (field 7 (g 0) ∷ field 1 (g 1) ∷ [])) _ e in go (eqb (g 1) 1) f
  where
    some : Bool → List Cell
    some x = reserved 7 0 ∷ flag 1 ∷ (pick x (reserved 2 2 ∷ num 6 5 ∷ reserved 2 3 ∷ num 6 6 ∷ reserved 3 4 ∷ num 5 7 ∷ []) [] ++ [])

    go : (x : Bool) → clean (pick x (writes counts g) [] ++ []) ≡ true → Few (mix (columns (some x ++ [])) g blank)
    go true f =
        let (a, f₀) = and_both (fit (field 2 (g 2) ∷ field 6 (g 5) ∷ [])) _ f in
        let (b, f₁) = and_both (fit (field 2 (g 3) ∷ field 6 (g 6) ∷ [])) _ f₀ in
        let (c, _) = and_both (fit (field 3 (g 4) ∷ field 5 (g 7) ∷ [])) _ f₁ in
        record { instructions = (fits_cons 6 (g 5) [] (fits_cons 2 (g 2) _ a).1).0; entries = (fits_cons 6 (g 6) [] (fits_cons 2 (g 3) _ b).1).0; downmixes = (fits_cons 5 (g 7) [] (fits_cons 3 (g 4) _ c).1).0 }
    go false f = record { instructions = omega arith; entries = omega arith; downmixes = omega arith }

acts_most : (m : MpegH3dAudioDrcLoudness) (lent : Lent) (store : List ℕ) → clean (kind.acts m lent store) ≡ true → length (bytes (kind.acts m lent store)) ≤ 17454
unfolding kind B.layouts B.inside B.pieced B.beyond writes clean bytes most head
acts_most m lent store c =
    let g = of (fields m) in
    let n = B.counts body g in
    let instruction-acts : ℕ → List Act = λ i. family_acts_of instruction 2 additional (table 1 lent) (scoped (at 24 (table 0 lent) i)) in
    let entry-acts : ℕ → List Act = λ i. bearing_acts entry store (scoped (at 7 (table 2 lent) i)) in
    let downmix-acts : ℕ → List Act = λ i. flat_acts downmix (at 4 (table 3 lent) i) in
    let is = rows instruction-acts 0 (n 5) in
    let ls = rows entry-acts 0 (n 6) in
    let ds = rows downmix-acts 0 (n 7) in
    let (_, e₀) = and_both (B.inside pieces g n lent store) _ c in
    let (h, e₁) = clean_both (writes head g) _ (demanded_clean layouts g (writes head g ++ (is ++ (ls ++ (ds ++ [])))) e₀) in
    let (a, e₂) = clean_both is _ e₁ in
    let (b, e₃) = clean_both ls _ e₂ in
    let (d, _) = clean_both ds [] e₃ in
    let few = counts_few g h in
    omega (
      arith,
      few.instructions,
      few.entries,
      few.downmixes,
      demanded_long layouts g (writes head g ++ (is ++ (ls ++ (ds ++ [])))),
      both_long (writes head g) (is ++ (ls ++ (ds ++ []))),
      both_long is (ls ++ (ds ++ [])),
      both_long ls (ds ++ []),
      both_long ds [],
      writes_most head g,
      rows_most instruction-acts 18 (λ i e. instruction_most (table 1 lent) (scoped (at 24 (table 0 lent) i)) e) 0 (n 5) a,
      rows_most entry-acts 258 (λ i e. entry_most store (scoped (at 7 (table 2 lent) i)) e) 0 (n 6) b,
      rows_most downmix-acts 2 (λ i e. downmix_most (at 4 (table 3 lent) i)) 0 (n 7) d,
    )

-- where writing answers 10, the length is at most 82,989
pub largest : (m : MpegH3dAudioDrcLoudness) (lent : Lent) (store out after : List ℕ) (n : ℕ) → m.trailing.length < 65536
    → Writes kind m lent store out (refuses 10 (n ∷ [])) after → n ≤ 82989
unfolding kind
largest m lent store out after n h w = longest kind m lent store 17454 (acts_most m lent store) h out after n w
