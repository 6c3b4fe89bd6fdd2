-- Filling the tables of a body whose lists were found: what the functions that fill ask for, and that they leave the rows of the tree.
use Prim.Native.Nat.{ℕ, ◌+◌, ◌*◌, ◌≤◌, ◌<◌}
use mathlib.Core.Path.{◌≡◌, ap, ◌∙◌}
use mathlib.Core.List.{List, [], ◌∷◌, ◌++◌, map, flatten, flat_map}
use mathlib.Core.Bool.{true}
use native.Mathlib.Omega.{arith}
use lib.ListN.{length, drop, length-map}
use lib.Seq.{sets}
use Rattle.wire.specs.Lists.{Every, all_nil, all_cons, sum}
use Rattle.wire.specs.Prog.{run, many}
use Rattle.wire.specs.Reads.{rows_of, is_done}
use Rattle.wire.specs.Nest.{Fillable, Nests}
use Rattle.wire.specs.Layout.{flat, kids, broken_row, borne_row}
use Rattle.wire.proofs.Layouts.Rowed.{Wide, parents_long}
use Rattle.wire.proofs.Layouts.Fronts.{rows_front, flat_front, Both, both}
use Rattle.wire.proofs.Layouts.Borne.{borne_wide}
use Rattle.wire.proofs.Layouts.Families.{kids_summed}
use Rattle.frame.specs.Entry.{needs, room, first_table, other_tables, filled}
use Rattle.frame.specs.Body.{tables}
use Rattle.frame.specs.Sight.{Roomy, Fills}
use Rattle.frame.proofs.Entries.{room_walked, fills_walked}
use Rattle.frame.proofs.Lawful.{Shaped}
use Rattle.frame.proofs.MoreRoom.{none_fit, fit_head, shapes}
use Rattle.instructions.specs.Layout.{instruction, instructions}
use Rattle.loudness.specs.Layout.{entry, entries}
use Rattle.downmixes.specs.Layout.{downmix}
use Rattle.drc_kind.specs.declared.rows.DrcLoudnessInfo.{DrcLoudnessInfo}
use Rattle.drc_kind.specs.Kind.{kind}
use Rattle.drc_kind.proofs.Lawful.{instruction_rows, entry_rows, lawful}
use Rattle.drc_loudness.specs.declared.parsing.Places.{Places}
use Rattle.drc_loudness.specs.Walk.{rows_at, Found, tree}
use Rattle.drc_loudness.proofs.Walked.{info_in, found_reads}
use Rattle.drc_loudness.proofs.Found.{instructions_counted, entries_counted, downmixes_counted, at_entries, at_downmixes}

-- ---- the room of all tables

module _ {s : List ℕ} {p : Places} (f : Found s p) (short : length s < 65536) (t₁ t₂ t₃ t₄ : List ℕ) (r : Roomy kind s (t₁ ∷ t₂ ∷ t₃ ∷ t₄ ∷ [])) where
  record Space : Type 0 where
    instructions : length f.in_instructions * 24 ≤ length t₁
    additional : length (kids f.in_instructions) * 2 ≤ length t₂
    entries : length f.in_entries * 7 ≤ length t₃
    downmixes : length f.in_downmixes * 4 ≤ length t₄

  space : Space
  unfolding needs kind tables room first_table other_tables
  space =
      let h₁ = fit_head (none_fit (needs (kind.tables (tree f))) (t₁ ∷ t₂ ∷ t₃ ∷ t₄ ∷ []) (room_walked kind s short (found_reads s p f) r)) in
      let h₂ = fit_head h₁.1 in
      let h₃ = fit_head h₂.1 in
      let h₄ = fit_head h₃.1 in
      record {
        instructions = omega (arith, h₁.0, parents_long instruction_rows f.in_instructions);
        additional = omega (arith, h₂.0);
        entries = omega (arith, h₃.0, length-map f.in_entries (borne_row entry));
        downmixes = omega (arith, h₄.0);
      }

  module _ {i : DrcLoudnessInfo} (e : i ≡ info_in s) where
    -- what is asked for before each list is stored, with the counts as code has them
    pub instructions_ask : {at : ℕ} → at ≡ rows_at s
        → Fillable (many i.drc_instructions instructions) 2 (sum (λ x. length x.1)) s at 0 t₂ × Unit {0} × (24 * i.drc_instructions ≤ length t₁)
    instructions_ask q =
        rw (q, e, kids_summed)
        (record { value = f.in_instructions; end = p.loudness; reads = f.instructions_read; begun = f.head; all = short; before = omega arith; room = omega (arith, space.additional) }, tt, omega (arith, space.instructions, instructions_counted f))

    pub entries_ask : (p.loudness ≤ length s) × (is_done (run (many i.loudness_infos entries) s p.loudness) ≡ true) × (length s < 65536) × (0 + 7 * i.loudness_infos ≤ length t₃)
    entries_ask = rw e (at_entries f, ap is_done f.entries_read, short, omega (arith, space.entries, entries_counted f))

    pub downmixes_ask : (p.downmixes ≤ length s) × (is_done (run (many i.downmix_definitions (flat 4 downmix)) s p.downmixes) ≡ true) × Unit {0} × (0 + 4 * i.downmix_definitions ≤ length t₄)
    downmixes_ask = rw e (at_downmixes f, ap is_done f.downmixes_read, tt, omega (arith, space.downmixes, downmixes_counted f))

    -- ---- and what they leave

    -- the rows of tables 10 and 12 have their columns
    wide : Every (Wide 2) (kids f.in_instructions) × Every (Wide 4) f.in_downmixes
    unfolding kind tables
    wide = go (shapes kind lawful s (found_reads s p f))
      where
        go : Every Shaped (kind.tables (tree f)) → Every (Wide 2) (kids f.in_instructions) × Every (Wide 4) f.in_downmixes
        go (all_cons _ (all_cons a (all_cons _ (all_cons b all_nil)))) = (a, b)

    instructions_stored : {at : ℕ} {t' u' : List ℕ} → at ≡ rows_at s
        → Nests instructions (λ x. length x.1) (λ n x. broken_row instruction (n, x)) (λ x. flatten x.1) s at i.drc_instructions t₁ t₂ t' u'
        → Both instruction f.in_instructions t₁ t₂ t' u'
    instructions_stored q v =
        both instruction_rows instructions {end = p.loudness} f.in_instructions t₁ t₂ v (rw (q, e) f.instructions_read) wide.0 space.instructions space.additional

    entries_stored : {t' : List ℕ} → t' ≡ sets t₃ 0 (flat_map (borne_row entry) (rows_of (run (many i.loudness_infos entries) s p.loudness)))
        → t' ≡ flatten (map (borne_row entry) f.in_entries) ++ drop (length (flatten (map (borne_row entry) f.in_entries))) t₃
    entries_stored q =
        rows_front (borne_row entry) 7 f.in_entries t₃
        (q ∙ (λ j. sets t₃ 0 (flat_map (borne_row entry) (rows_of (run (many (e j).loudness_infos entries) s p.loudness))))) f.entries_read
        (borne_wide entry_rows f.in_entries) space.entries

    downmixes_stored : {t' : List ℕ} → t' ≡ sets t₄ 0 (flat_map (λ r. r) (rows_of (run (many i.downmix_definitions (flat 4 downmix)) s p.downmixes)))
        → t' ≡ flatten f.in_downmixes ++ drop (length (flatten f.in_downmixes)) t₄
    downmixes_stored q =
        flat_front 4 f.in_downmixes t₄ (q ∙ (λ j. sets t₄ 0 (flat_map (λ r. r) (rows_of (run (many (e j).downmix_definitions (flat 4 downmix)) s p.downmixes)))))
        f.downmixes_read wide.1 space.downmixes

-- all four tables
pub stored : {s : List ℕ} {p : Places} → Found s p → length s < 65536 → (t₁ t₂ t₃ t₄ : List ℕ) {u₁ u₂ u₃ u₄ : List ℕ} {i : DrcLoudnessInfo} {at : ℕ} → i ≡ info_in s
    → at ≡ rows_at s → Roomy kind s (t₁ ∷ t₂ ∷ t₃ ∷ t₄ ∷ [])
    → Nests instructions (λ x. length x.1) (λ n x. broken_row instruction (n, x)) (λ x. flatten x.1) s at i.drc_instructions t₁ t₂ u₁ u₂
    → u₃ ≡ sets t₃ 0 (flat_map (borne_row entry) (rows_of (run (many i.loudness_infos entries) s p.loudness)))
    → u₄ ≡ sets t₄ 0 (flat_map (λ r. r) (rows_of (run (many i.downmix_definitions (flat 4 downmix)) s p.downmixes)))
    → Fills kind s (t₁ ∷ t₂ ∷ t₃ ∷ t₄ ∷ []) (u₁ ∷ u₂ ∷ u₃ ∷ u₄ ∷ [])
unfolding filled kind tables first_table other_tables
stored {s} {p} f h t₁ t₂ t₃ t₄ e q r a b c =
    let x = instructions_stored f h t₁ t₂ t₃ t₄ r e q a in
    let y = entries_stored f h t₁ t₂ t₃ t₄ r e b in
    let z = downmixes_stored f h t₁ t₂ t₃ t₄ r e c in
    fills_walked kind s h (found_reads s p f) (λ j. x.outer j ∷ x.inner j ∷ y j ∷ z j ∷ [])
