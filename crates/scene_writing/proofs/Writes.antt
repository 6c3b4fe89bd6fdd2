-- The layouts write the scene body section after section.
use Prim.Native.Nat.{ℕ, ◌*◌, ◌-◌, ◌^◌, ◌<◌, ◌≤◌}
use mathlib.Core.List.{List, [], ◌∷◌, ◌++◌, append-nil, map, flatten}
use mathlib.Core.Bool.{Bool, true, false, not, ◌&&◌, ◌||◌}
use mathlib.Core.Path.{◌≡◌, refl, sym, ◌∙◌}
use native.Mathlib.Omega.{arith}
use native.Mathlib.Nat.{mul-le-mul_left}
use borrow.Author.Tests.{not-true}
use Rattle.wire.specs.Lists.{each}
use Rattle.wire.specs.Bits.{Field}
use Rattle.wire.specs.Act as A
use Rattle.wire.specs.Act.{Act, demand, byte, when, rows}
use Rattle.wire.specs.declared.pen.Fault.TheVariants as F
use Rattle.wire.specs.Pen.{Pen, At, Checked, Ready}
use Rattle.wire.proofs.Fields.{fits_cons}
use Rattle.wire.proofs.Writing.Acts.{and_both}
use Rattle.wire.proofs.Writing.Parts.{part_begins, within_absent}
use Rattle.wire.proofs.Writing.Passes.{byte_fits, Filling}
use Rattle.wire.specs.Layout.{cells, matches, matched, shown, writes, every, has}
use Rattle.frame.specs.Kind.{Lent}
use Rattle.frame.specs.Sight.{head_acts}
use Rattle.frame.specs.Body.{layouts, inside, pieced, beyond, table}
use Rattle.frame.proofs.Pieces.{and-true}
use Rattle.scene_kind.specs.declared.rows.Section.{Section}
use Rattle.scene_kind.specs.declared.rows.MpegH3dAudioScene.{MpegH3dAudioScene}
use Rattle.scene_kind.specs.Layout as T
use Rattle.scene_kind.specs.Kind.{kind}
use Rattle.scene_writing.specs.Write.{head_bytes, count_byte, group_acts, switch_acts, preset_acts, groups_acts, switch_groups_acts, presets_acts, section_acts, within, all_within, scene_acts}

-- the actions of the kind, section after section
pub scene_acts_lem : (m : MpegH3dAudioScene) (lent : Lent) (store : List ℕ) → kind.acts m lent store ≡ scene_acts m lent
unfolding kind layouts inside pieced beyond scene_acts section_acts A.within T.groups T.switch_group_list T.presets cells matches matched shown writes every has flatten rows each
scene_acts_lem m lent store = go m m.groups.present m.switch_groups.present m.presets.present
  where
    with : MpegH3dAudioScene → Bool → Bool → Bool → MpegH3dAudioScene
    with m a b c = record {
      reserved_flags = m.reserved_flags;
      scene_info_id = m.scene_info_id;
      groups = record { present = a; count = m.groups.count };
      reserved_switch_groups = m.reserved_switch_groups;
      switch_groups = record { present = b; count = m.switch_groups.count };
      reserved_presets = m.reserved_presets;
      presets = record { present = c; count = m.presets.count };
      reserved_groups = m.reserved_groups;
      trailing = m.trailing;
    }

    -- the last piece is empty: neither its rows nor its bytes count
    ends : MpegH3dAudioScene → (Bool → Bool) → (List Act → List Act) → List Act
    ends m t f =
        demand F.Range (within m.groups 27 (table 0 lent) && (within m.switch_groups 9 (table 1 lent) && t (within m.presets 7 (table 3 lent))))
        ∷ demand F.Field true
        ∷ demand F.Empty true
        ∷ map byte (head_bytes m)
        ++ (groups_acts m (group_acts lent) ++ (switch_groups_acts m (switch_acts lent) ++ f (presets_acts m (preset_acts lent))))

    go : (m : MpegH3dAudioScene) (a b c : Bool) → kind.acts (with m a b c) lent store ≡ scene_acts (with m a b c) lent
    go m a b c = case a b c ∙ λ i. ends (with m a b c) (λ t. and-true t i) (λ q. append-nil q i)
      where
        case : (a b c : Bool) → kind.acts (with m a b c) lent store ≡ ends (with m a b c) (λ t. t && true) (λ q. q ++ [])
        case true true true = refl
        case true true false = refl
        case true false true = refl
        case true false false = refl
        case false true true = refl
        case false true false = refl
        case false false true = refl
        case false false false = refl

-- ---- a section in the check pass

-- a count that fits its byte
pub count_fits : (r w v : ℕ) (s : Section) {p : Pen} {n : ℕ} → Checked (byte (count_byte r w v s) ∷ []) 1 p (At n) → s.count < 2 ^ w
count_fits r w v s {p} c = (fits_cons w s.count [] (fits_cons r v _ (byte_fits p c refl)).1).0

-- so many rows of at most so many bytes each
pub count_most : (r w v : ℕ) (s : Section) (most : ℕ) {p : Pen} {n : ℕ} → Checked (byte (count_byte r w v s) ∷ []) 1 p (At n) → most * s.count ≤ most * (2 ^ w - 1)
count_most r w v s most c = let h = count_fits r w v s c in mul-le-mul_left most (omega (arith, h))

-- the three of them
pub record Inside (m : MpegH3dAudioScene) (g x p : List ℕ) : Type 0 where
  pub groups : within m.groups 27 g ≡ true
  pub switches : within m.switch_groups 9 x ≡ true
  pub presets : within m.presets 7 p ≡ true

pub insides : (m : MpegH3dAudioScene) (g x p : List ℕ) → all_within m g x p ≡ true → Inside m g x p
insides m g x p e =
    let (a, r) = and_both (within m.groups 27 g) _ e in
    let (b, c) = and_both (within m.switch_groups 9 x) _ r in
    record { groups = a; switches = b; presets = c }

-- ---- a section in the fill pass

module _ (s : Section) (fs : List Field) (row : ℕ → List Act) {n : ℕ} {l : List ℕ} where
  pub section_begins : s.present ≡ true → Ready (section_acts s fs row) n l → Filling (section_acts s fs row) (when true (map byte (fs ∷ [])) ++ rows row 0 s.count) n l n l
  unfolding section_acts
  section_begins t r = part_begins s.present (byte fs ∷ []) (rows row 0 s.count) t r

-- without a section the actions are those of the head alone
pub bare_acts : (m : MpegH3dAudioScene) (lent : Lent) → not (m.groups.present || (m.switch_groups.present || m.presets.present)) ≡ true
    → scene_acts m lent ≡ head_acts (head_bytes m)
unfolding scene_acts section_acts
bare_acts m lent e =
    let (g, s, p) = none_of m.groups.present m.switch_groups.present m.presets.present (not-true _ e) in
    rw (g, s, p, sym (within_absent false m.groups.count 27 (table 0 lent) refl), sym (within_absent false m.switch_groups.count 9 (table 1 lent) refl), sym (within_absent false m.presets.count 7 (table 3 lent) refl))
  where
    none_of : (a b c : Bool) → a || (b || c) ≡ false → (a ≡ false) × (b ≡ false) × (c ≡ false)
    none_of false false false e = (refl, refl, refl)
    none_of true b c e = absurd (let z : ◌≡◌ {A = ℕ} 0 1 = cc e in omega arith)
    none_of false true c e = absurd (let z : ◌≡◌ {A = ℕ} 0 1 = cc e in omega arith)
    none_of false false true e = absurd (let z : ◌≡◌ {A = ℕ} 0 1 = cc e in omega arith)
