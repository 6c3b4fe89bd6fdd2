-- The layouts write the DRC and loudness body list after list; what the functions of both passes make of its info.
use mathlib.Core.List.{List, [], ◌∷◌, ◌++◌, append-nil, flatten, map}
use mathlib.Core.Bool.{Bool, true, false, not, ◌&&◌}
use mathlib.Core.Path.{◌≡◌, refl, sym, ◌∙◌}
use Prim.Native.Nat.{ℕ, ◌*◌, ◌/◌, ◌^◌, ◌≤◌, ◌<◌}
use native.Mathlib.Omega.{arith}
use lib.ListN.{length}
use lib.Dec.{leb}
use borrow.Author.Tests.{not-true}
use Rattle.wire.specs.Lists.{each}
use Rattle.wire.specs.Bits.{field, fit}
use Rattle.wire.specs.Act.{Act, demand, byte, when, within, rows}
use Rattle.wire.specs.Pen.{clean, Ready}
use Rattle.wire.specs.Spell.{fit_all}
use Rattle.wire.specs.declared.pen.Fault.TheVariants as F
use Rattle.wire.specs.Layout.{cells, matches, matched, shown, writes, every, has}
use Rattle.wire.proofs.Fields.{fits_cons}
use Rattle.wire.proofs.Writing.Acts.{and_both, clean_both}
use Rattle.wire.proofs.Writing.Parts.{part_begins, within_there, within_absent, rows_there}
use Rattle.wire.proofs.Writing.Passes.{Filling}
use Rattle.wire.proofs.Writing.Plain.{clean_all}
use Rattle.frame.specs.Kind.{Lent}
use Rattle.frame.specs.Sight.{head_acts}
use Rattle.frame.specs.Body.{layouts, inside, pieced, beyond, table}
use Rattle.frame.proofs.Pieces.{and-true}
use Rattle.drc_kind.specs.declared.rows.DrcLoudnessInfo.{DrcLoudnessInfo}
use Rattle.drc_kind.specs.declared.rows.Info.{Info}
use Rattle.drc_kind.specs.declared.rows.MpegH3dAudioDrcLoudness.{MpegH3dAudioDrcLoudness}
use Rattle.drc_kind.specs.Layout.{head}
use Rattle.drc_kind.specs.Kind.{kind}
use Rattle.drc_writing.specs.Write.{head_fields, count_fields, instruction_acts, entry_acts, downmix_acts, all_within, lists_acts, info_acts, drc_acts, Listed}

-- the actions of the kind, list after list
pub drc_acts_lem : (m : MpegH3dAudioDrcLoudness) (lent : Lent) (store : List ℕ) → kind.acts m lent store ≡ drc_acts m lent store
unfolding kind layouts inside pieced beyond drc_acts info_acts all_within within head cells matches matched shown writes every has flatten rows each
drc_acts_lem m lent store = go m m.info.present
  where
    with : MpegH3dAudioDrcLoudness → Bool → MpegH3dAudioDrcLoudness
    with m a = record { reserved = m.reserved; info = record { present = a; part = m.info.part }; trailing = m.trailing }

    -- the last piece is empty: neither its rows nor its bytes count
    ends : MpegH3dAudioDrcLoudness → (Bool → Bool) → (List Act → List Act) → List Act
    ends m t f =
        let p = m.info.part in
        let there = m.info.present in
        demand F.Range
        (within there p.drc_instructions 24 (table 0 lent) && (within there p.loudness_infos 7 (table 2 lent) && t (within there p.downmix_definitions 4 (table 3 lent))))
        ∷ demand F.Field true
        ∷ demand F.Empty true
        ∷ map byte (head_fields m)
        ++ when there
        (map byte (count_fields p) ++ (rows (instruction_acts lent) 0 p.drc_instructions ++ (rows (entry_acts lent store) 0 p.loudness_infos ++ f (rows (downmix_acts lent) 0 p.downmix_definitions))))

    go : (m : MpegH3dAudioDrcLoudness) (a : Bool) → kind.acts (with m a) lent store ≡ drc_acts (with m a) lent store
    go m a = case a ∙ λ i. ends (with m a) (λ t. and-true t i) (λ q. append-nil q i)
      where
        case : (a : Bool) → kind.acts (with m a) lent store ≡ ends (with m a) (λ t. t && true) (λ q. q ++ [])
        case true = refl
        case false = refl

-- ---- the rows of the lists stand in their tables

module _ (i : Info) (a b c : List ℕ) where
  pub all_there : {x y z : Bool} → i.present ≡ true → x ≡ leb i.part.drc_instructions (length a / 24) → y ≡ leb i.part.loudness_infos (length b / 7)
      → z ≡ leb i.part.downmix_definitions (length c / 4) → x && (y && z) ≡ all_within i a b c
  unfolding all_within
  all_there p e f g = λ k. within_there _ _ 24 a p e k && (within_there _ _ 7 b p f k && within_there _ _ 4 c p g k)

  pub none_there : i.present ≡ false → true ≡ all_within i a b c
  unfolding all_within
  none_there p = λ k. within_absent _ i.part.drc_instructions 24 a p k && (within_absent _ i.part.loudness_infos 7 b p k && within_absent _ i.part.downmix_definitions 4 c p k)

-- ---- the counts are small, since their bytes fit

-- the lower field of a byte that fits
few : (r v w x : ℕ) → fit (field r v ∷ field w x ∷ []) ≡ true → x < 2 ^ w
few r v w x f = (fits_cons w x [] (fits_cons r v _ f).1).0

module _ (i : Info) (a b c : List ℕ) where
  pub listed : i.present ≡ true → all_within i a b c ≡ true → clean (map byte (count_fields i.part)) ≡ true → Listed i.part a b c
  unfolding all_within within fit_all
  listed p e f =
      let d = i.part in
      let h : leb d.drc_instructions (length a / 24) && (leb d.loudness_infos (length b / 7) && leb d.downmix_definitions (length c / 4)) ≡ true = rw p at e in
      let (x, r) = and_both (leb d.drc_instructions (length a / 24)) _ h in
      let (y, z) = and_both (leb d.loudness_infos (length b / 7)) _ r in
      let g = sym (clean_all (count_fields d)) ∙ f in
      let (u, s) = and_both (fit (field 2 d.reserved_drc ∷ field 6 d.drc_instructions ∷ [])) _ g in
      let (v, t) = and_both (fit (field 2 d.reserved_loudness ∷ field 6 d.loudness_infos ∷ [])) _ s in
      let (w, _) = and_both (fit (field 3 d.reserved_downmix ∷ field 5 d.downmix_definitions ∷ [])) _ t in
      record {
        instructions_within = x;
        entries_within = y;
        downmixes_within = z;
        instructions_few = few 2 _ 6 _ u;
        entries_few = few 2 _ 6 _ v;
        downmixes_few = few 3 _ 5 _ w;
      }

-- a table that has the rows is long enough for them
module _ {i : DrcLoudnessInfo} {a b c : List ℕ} (l : Listed i a b c) where
  pub instructions_stand : i.drc_instructions * 24 ≤ length a
  unfolding within
  instructions_stand = rows_there true i.drc_instructions 24 a (omega arith) l.instructions_within refl

  pub entries_stand : i.loudness_infos * 7 ≤ length b
  unfolding within
  entries_stand = rows_there true i.loudness_infos 7 b (omega arith) l.entries_within refl

  pub downmixes_stand : i.downmix_definitions * 4 ≤ length c
  unfolding within
  downmixes_stand = rows_there true i.downmix_definitions 4 c (omega arith) l.downmixes_within refl

-- ---- the info in the fill pass

module _ (i : Info) (lent : Lent) (store : List ℕ) {n : ℕ} {l : List ℕ} where
  pub info_begins : i.present ≡ true → Ready (info_acts i lent store) n l
      → Filling (info_acts i lent store) (when true (map byte (count_fields i.part)) ++ lists_acts i.part lent store) n l n l
  unfolding info_acts
  info_begins t r = part_begins i.present (map byte (count_fields i.part)) (lists_acts i.part lent store) t r

  -- the bytes of the counts fit
  pub info_clean : i.present ≡ true → Ready (info_acts i lent store) n l → clean (map byte (count_fields i.part)) ≡ true
  info_clean t r = (clean_both (map byte (count_fields i.part)) (lists_acts i.part lent store) (info_begins t r).ready.sound).0

-- without info the actions are those of the head alone
pub bare_acts : (m : MpegH3dAudioDrcLoudness) (lent : Lent) (store : List ℕ) → not m.info.present ≡ true → drc_acts m lent store ≡ head_acts (head_fields m)
unfolding drc_acts info_acts all_within
bare_acts m lent store e =
    let i = m.info.part in
    rw (not-true m.info.present e, sym (within_absent false i.drc_instructions 24 (table 0 lent) refl), sym (within_absent false i.loudness_infos 7 (table 2 lent) refl), sym (within_absent false i.downmix_definitions 4 (table 3 lent) refl))
