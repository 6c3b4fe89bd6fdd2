-- What is claimed of the scene body: every claim of every kind (frame, specs/Claims), and the few that matter most spelled out for its record and tables 1 to 5.
use Prim.Native.Nat.{ℕ, ◌+◌, ◌≤◌}
use mathlib.Core.Path.{◌≡◌, refl, sym, ap, subst, ◌∙◌}
use mathlib.Core.List.{List, [], ◌∷◌, ◌++◌, flatten, flat_map}
use mathlib.Core.Bool.{Bool, true, false}
use mathlib.Core.Logic.{◌↔◌}
use native.Mathlib.Omega.{arith}
use lib.ListN.{length, get_or, drop}
use lib.Count.{ones}
use lib.Dec.{eqb, lit<}
use Rattle.wire.specs.Lists.{Every, all_nil, all_cons, each, sum, firsts, Byte}
use Rattle.wire.specs.Bits.{split, total, part}
use Rattle.wire.specs.Prog.{Prog, ret, u8, run, span, u8s, pass, many, ◌>>=◌}
use Rattle.wire.specs.declared.rows.Payload.{Payload}
use Rattle.wire.specs.Act.{pick}
use Rattle.wire.specs.Layout.{at, row, reads, put, puts, shown, cells, tally, has, broken_row, Family, parents, kids}
use Rattle.wire.proofs.Reading.Takes.{Takes, run_takes, takes_split, takes_ret, map_takes, many_takes, listed_length, listed_every}
use Rattle.wire.proofs.Layouts.Rowed.{parents_long}
use Rattle.wire.proofs.Layouts.Running.{RunsOn, Told, runs_on}
use Rattle.frame.specs.Kind.{Lent}
use Rattle.frame.specs.Numbers.{accepted, refuses}
use Rattle.frame.specs.Entry.{leaves, onto, into, Sizes, needs, lacking, room, first_table, other_tables, filled, judging, sizes, placing, reading, measuring, tallying, gives, trail, writing}
use Rattle.frame.specs.Body.{layouts, parse, with_place, tables, zeros, heeds, heeded_rows, table}
use Rattle.frame.specs.Claims.{Lowest, rows_agree, none_read, Claims}
use Rattle.frame.proofs.Judged.{was, ran_well, measured as was-measured}
use Rattle.frame.proofs.Lawful.{Samples}
use Rattle.frame.proofs.Proofs as P
use Rattle.pairs.specs.Layout.{pair}
use Rattle.switch_groups.specs.Layout.{switch_group}
use Rattle.presets.specs.Layout.{preset}
use Rattle.scene_kind.specs.declared.rows.MpegH3dAudioScene.{MpegH3dAudioScene}
use Rattle.scene_kind.specs.Layout as T
use Rattle.scene_kind.specs.Rows.{section, scene_of, Scene, needed}
use Rattle.scene_kind.specs.Read as R
use Rattle.scene_kind.specs.Read.{Section}
use Rattle.scene_kind.specs.Kind.{pieces, kind}
use Rattle.scene_kind.proofs.Lawful.{switch_rows, preset_rows, lawful}
use Rattle.scene_kind.proofs.Mirrored.{mirrored}

-- 5F 07 E1 85 E0 83 83: one switch group, whose one member is its default
abbrev one_switch : MpegH3dAudioScene
one_switch = record {
  reserved_flags = 31;
  scene_info_id = 7;
  groups = section 0 0;
  reserved_switch_groups = 7;
  switch_groups = section 1 1;
  reserved_presets = 7;
  presets = section 0 0;
  reserved_groups = 1;
  trailing = span 7 0;
}

-- 00 07: no sections
abbrev no_sections : MpegH3dAudioScene
no_sections = record {
  reserved_flags = 0;
  scene_info_id = 7;
  groups = section 0 0;
  reserved_switch_groups = 7;
  switch_groups = section 0 0;
  reserved_presets = 7;
  presets = section 0 0;
  reserved_groups = 1;
  trailing = span 2 0;
}

abbrev pub sized : (groups switches members presets conditions : ℕ) → ℕ → Sizes
sized g s m p c k = record { tables = needed g s m p c; before = k }

samples : Samples kind
unfolding reading into judging placing run measuring onto sizes tallying kind parse reads put puts split total u8s pass ◌>>=◌ many pair T.groups T.switch_group_list T.presets tables zeros tally shown sum firsts flat_map needs lacking room first_table other_tables filled flatten each cells ones with_place layouts
samples = record {
  lent = [] ∷ (9 ∷ 9 ∷ 9 ∷ 9 ∷ 9 ∷ 9 ∷ 9 ∷ 9 ∷ 9 ∷ 9 ∷ []) ∷ (9 ∷ 9 ∷ 9 ∷ []) ∷ [] ∷ [] ∷ [];
  one = 0x5F ∷ 0x07 ∷ 0xE1 ∷ 0x85 ∷ 0xE0 ∷ 0x83 ∷ 0x83 ∷ [];
  other = 0x00 ∷ 0x07 ∷ [];
  top = one_switch;
  top' = no_sections;
  after = [] ∷ (1 ∷ 1 ∷ 0 ∷ 1 ∷ 7 ∷ 0 ∷ 1 ∷ 1 ∷ 3 ∷ 9 ∷ []) ∷ (1 ∷ 3 ∷ 9 ∷ []) ∷ [] ∷ [] ∷ [];
  after' = [] ∷ (9 ∷ 9 ∷ 9 ∷ 9 ∷ 9 ∷ 9 ∷ 9 ∷ 9 ∷ 9 ∷ 9 ∷ []) ∷ (9 ∷ 9 ∷ 9 ∷ []) ∷ [] ∷ [] ∷ [];
  reads = refl;
  reads' = refl;
  tops_differ = λ e. let z : ◌≡◌ {A = ℕ} 31 0 = ap (λ (t : MpegH3dAudioScene). t.reserved_flags) e in omega arith;
  size = sized 0 1 1 0 0 7;
  size' = sized 0 0 0 0 0 2;
  measures = refl;
  measures' = refl;
  sizes_differ = λ e. let z : ◌≡◌ {A = ℕ} 7 2 = ap (λ (s : Sizes). s.before) e in omega arith;
  count = 0;
  count' = 5;
  tallies = refl;
  tallies' = refl;
  counts_differ = λ e. omega arith;
  bytes = all_cons (lit< tt) (all_cons (lit< tt) (all_cons (lit< tt) (all_cons (lit< tt) (all_cons (lit< tt) (all_cons (lit< tt) (all_cons (lit< tt) all_nil))))));
  blank = 0 ∷ 0 ∷ 0 ∷ 0 ∷ 0 ∷ 0 ∷ 0 ∷ [];
  as_long = refl;
  not_blank = λ e. let z : ◌≡◌ {A = ℕ} 95 0 = ap (λ (l : List ℕ). get_or l 0 0) e in omega arith;
}

pub claims : Claims kind
claims = P.claims kind lawful samples

-- ---- spelled out for this record and tables 1 to 5

-- what is read writes back the same bytes, at the front of the output and nowhere else
pub same_bytes : (body out : List ℕ) (lent after : Lent) (m : MpegH3dAudioScene) → Every Byte body → reading kind body lent ≡ leaves (accepted m) after → length body ≤ length out
    → writing kind m after body out ≡ gives (accepted (length body)) (body ++ drop (length body) out)
same_bytes body out lent after m b e l = claims.round.writes_what_is_read body lent m after out b e l

-- two bodies that agree in the Rust's structs and in the trailing bytes are one body
pub one_body : (body body' : List ℕ) (lent lent' after after' : Lent) (m m' : MpegH3dAudioScene) → Every Byte body → Every Byte body'
    → reading kind body lent ≡ leaves (accepted m) after → reading kind body' lent' ≡ leaves (accepted m') after'
    → kind.value m after body ≡ kind.value m' after' body' → trail kind m body ≡ trail kind m' body' → body ≡ body'
unfolding kind
one_body body body' lent lent' after after' m m' b b' e e' v t =
    claims.round.apart body body' lent lent' m m' after after' b b' e e' (λ i. record { value = v i; trailing = t i })

-- 3 is given exactly if the body is otherwise accepted and a table has fewer rows than it needs; it names the lowest of the five that is short, and the rows it needs
sized_so : (body : List ℕ) (z : Sizes) → measuring kind body ≡ accepted z → (g : ℕ) × (s : ℕ) × (m : ℕ) × (p : ℕ) × (c : ℕ) × (z ≡ sized g s m p c z.before)
unfolding sizes kind tables needs
sized_so body z e =
    let (s, j, q) = was-measured kind body z e in
    let t = s.tree in
    let g = length t.1.0 in
    let x = length (parents switch_group t.1.1.0) in
    let m = length (kids t.1.1.0) in
    let p = length (parents preset t.1.1.1.0) in
    let c = length (kids t.1.1.1.0) in
    (g, x, m, p, c, sym (subst (λ (z : Sizes). sized g x m p c z.before ≡ z) q refl))

pub lacks_room : (body : List ℕ) (lent : Lent) (t r : ℕ)
    → (reading kind body lent ≡ leaves (refuses 3 (t ∷ r ∷ [])) lent)
    ↔ ((g : ℕ) × (s : ℕ) × (m : ℕ) × (p : ℕ) × (c : ℕ) × (k : ℕ) × (measuring kind body ≡ accepted (sized g s m p c k)) × Lowest (needed g s m p c) lent t r)
lacks_room body lent t r = (forth, back)
  where
    forth : reading kind body lent ≡ leaves (refuses 3 (t ∷ r ∷ [])) lent
        → (g : ℕ) × (s : ℕ) × (m : ℕ) × (p : ℕ) × (c : ℕ) × (k : ℕ) × (measuring kind body ≡ accepted (sized g s m p c k)) × Lowest (needed g s m p c) lent t r
    forth h =
        let (z, e, l) = (claims.more_room.no_room body lent t r).0 h in
        let (g, s, m, p, c, q) = sized_so body z e in
        (g, s, m, p, c, z.before, e ∙ ap accepted q, subst (λ (z : Sizes). Lowest z.tables lent t r) q l)

    back : (g : ℕ) × (s : ℕ) × (m : ℕ) × (p : ℕ) × (c : ℕ) × (k : ℕ) × (measuring kind body ≡ accepted (sized g s m p c k)) × Lowest (needed g s m p c) lent t r
        → reading kind body lent ≡ leaves (refuses 3 (t ∷ r ∷ [])) lent
    back (g, s, m, p, c, k, e, l) = (claims.more_room.no_room body lent t r).1 (sized g s m p c k, e, l)

-- the count and the reserved bit of groups that are absent are not read by writing: a reserved bit of 200 writes as 1 does
abbrev without_groups : MpegH3dAudioScene → ℕ → ℕ → MpegH3dAudioScene
without_groups m count reserved = record {
  reserved_flags = m.reserved_flags;
  scene_info_id = m.scene_info_id;
  groups = record { present = false; count = count };
  reserved_switch_groups = m.reserved_switch_groups;
  switch_groups = m.switch_groups;
  reserved_presets = m.reserved_presets;
  presets = m.presets;
  reserved_groups = reserved;
  trailing = m.trailing;
}

alike : (m : MpegH3dAudioScene) (count count' reserved reserved' : ℕ) → kind.heeded (without_groups m count reserved) ≡ kind.heeded (without_groups m count' reserved')
unfolding kind heeds layouts cells shown T.groups T.switch_group_list T.presets flatten has each
alike m count count' reserved reserved' = go m.switch_groups.present m.presets.present
  where
    with : Bool → Bool → MpegH3dAudioScene
    with s p = record {
      reserved_flags = m.reserved_flags;
      scene_info_id = m.scene_info_id;
      groups = m.groups;
      reserved_switch_groups = m.reserved_switch_groups;
      switch_groups = record { present = s; count = m.switch_groups.count };
      reserved_presets = m.reserved_presets;
      presets = record { present = p; count = m.presets.count };
      reserved_groups = m.reserved_groups;
      trailing = m.trailing;
    }

    go : (s p : Bool) → kind.heeded (without_groups (with s p) count reserved) ≡ kind.heeded (without_groups (with s p) count' reserved')
    go true true = refl
    go true false = refl
    go false true = refl
    go false false = refl

pub absent_groups : (m : MpegH3dAudioScene) (count count' reserved reserved' : ℕ) (groups switches members presets conditions store out : List ℕ)
    → writing kind (without_groups m count reserved) (groups ∷ switches ∷ members ∷ presets ∷ conditions ∷ []) store out
    ≡ writing kind (without_groups m count' reserved') (groups ∷ switches ∷ members ∷ presets ∷ conditions ∷ []) store out
unfolding kind heeded_rows
absent_groups m count count' reserved reserved' groups switches members presets conditions store out =
    claims.writing.unread (without_groups m count reserved) (without_groups m count' reserved') _ _ store out (alike m count count' reserved reserved')
    (rows_agree refl (λ i. refl) (rows_agree refl (λ i. refl) (rows_agree refl (λ i. refl) (rows_agree refl (λ i. refl) (rows_agree refl (λ i. refl) none_read)))))

-- of a body that was read: the reserved bits of a section that is absent are 1, 7 and 7, and it has no rows
pub record Absent (m : MpegH3dAudioScene) : Type 0 where
  pub groups : m.groups.present ≡ false → (m.reserved_groups ≡ 1) × (m.groups.count ≡ 0)
  pub switches : m.switch_groups.present ≡ false → (m.reserved_switch_groups ≡ 7) × (m.switch_groups.count ≡ 0)
  pub presets : m.presets.present ≡ false → (m.reserved_presets ≡ 7) × (m.presets.count ≡ 0)

not_there : {A : Type 0} (p q : Prog A) (b : Bool) {at : ℕ} {v : A} {bs : List ℕ} → b ≡ false → Takes (pick b p q) at v bs → Takes q at v bs
not_there p q b {at} {v} {bs} e d = subst (λ (b : Bool). Takes (pick b p q) at v bs) e d

section_absent : {A : Type 0} (flag r w ones : ℕ) (p : Prog A) {at : ℕ} {v : Section A} {bs : List ℕ} → eqb flag 1 ≡ false → Takes (R.section flag r w ones p) at v bs
    → (v.reserved ≡ ones) × (v.count ≡ 0)
unfolding R.section
section_absent {A} flag r w ones p e d =
    let (z, _) = takes_ret (not_there _ _ (eqb flag 1) e d) in
    (sym (ap (λ (v : Section A). v.reserved) z), sym (ap (λ (v : Section A). v.count) z))

absent_so : (t : Scene) (bs : List ℕ) (run : Payload) → Takes kind.program 0 t bs → Absent (scene_of t.0 run)
unfolding R.scene_over
absent_so t bs run d =
    let u₀ = takes_split {B = Scene} u8 _ (subst (λ (p : Prog Scene). Takes p 0 t bs) mirrored d) in
    let u₁ = takes_split {B = Scene} u8 _ u₀.second in
    let u₂ = takes_split {B = Scene} (R.section (part 7 1 u₀.value) 1 7 1 R.group) _ u₁.second in
    let u₃ = takes_split {B = Scene} (R.section (part 6 1 u₀.value) 3 5 7 R.switch_group) _ u₂.second in
    let (p, e, z) = map_takes {B = Scene} (R.section (part 5 1 u₀.value) 3 5 7 R.preset) _ u₃.second in
    subst (λ (t : Scene). Absent (scene_of t.0 run)) e (record {
      groups = λ a. section_absent _ 1 7 1 R.group a u₂.first;
      switches = λ a. section_absent _ 3 5 7 R.switch_group a u₃.first;
      presets = λ a. section_absent _ 3 5 7 R.preset a z;
    })

pub absent_read : (body : List ℕ) (lent after : Lent) (m : MpegH3dAudioScene) → reading kind body lent ≡ leaves (accepted m) after → Absent m
unfolding kind with_place each
absent_read body lent after m e =
    let w = was kind body lent m after e in
    let d = run_takes kind.program body 0 (ran_well kind body w.sound w.judges).reads (omega arith) in
    subst Absent w.top_is (absent_so w.sound.tree _ _ d)

-- ---- of tables that were read: the lists of their rows stand one after the other

switch_first : (n : ℕ) (x : Family) → get_or (broken_row switch_group (n, x)) 5 0 ≡ n
unfolding each
switch_first n x = refl

switch_count : (n : ℕ) (x : Family) → get_or (broken_row switch_group (n, x)) 6 0 ≡ get_or x.0 6 0
unfolding each
switch_count n x = refl

preset_first : (n : ℕ) (x : Family) → get_or (broken_row preset (n, x)) 5 0 ≡ n
unfolding each
preset_first n x = refl

preset_count : (n : ℕ) (x : Family) → get_or (broken_row preset (n, x)) 6 0 ≡ get_or x.0 6 0
unfolding each
preset_count n x = refl

switch_told : (at : ℕ) (x : Family) (bs : List ℕ) → Takes R.switch_group at x bs → Told switch_group x
unfolding R.switch_group
switch_told at x bs d =
    let u₀ = takes_split {B = Family} u8 _ d in
    let u₁ = takes_split {B = Family} u8 _ u₀.second in
    let u₂ = takes_split {B = Family} (many (part 0 5 u₁.value + 1) R.member) _ u₁.second in
    let (v, e, z) = map_takes {B = Family} u8 _ u₂.second in
    subst (Told switch_group) e (sym (listed_length R.member (many_takes R.member _ u₂.first)))

preset_told : (at : ℕ) (x : Family) (bs : List ℕ) → Takes R.preset at x bs → Told preset x
unfolding R.preset
preset_told at x bs d =
    let u₀ = takes_split {B = Family} u8 _ d in
    let u₁ = takes_split {B = Family} u8 _ u₀.second in
    let u₂ = takes_split {B = Family} u8 _ u₁.second in
    let (v, e, z) = map_takes {B = Family} (many (part 0 4 u₂.value + 1) R.condition) _ u₂.second in
    subst (Told preset) e (sym (listed_length R.condition (many_takes R.condition _ z)))

section_listed : {A : Type 0} (P : A → Type 0) (flag r w ones : ℕ) (p : Prog A) → ((at : ℕ) (x : A) (bs : List ℕ) → Takes p at x bs → P x)
    → {at : ℕ} {v : Section A} {bs : List ℕ} → Takes (R.section flag r w ones p) at v bs
    → (v.count ≡ length v.rows) × Every P v.rows
unfolding R.section
section_listed {A} P flag r w ones p h {at} {v} {bs} d = go (eqb flag 1) d
  where
    there : Prog (Section A)
    there = do
      b ← u8
      l ← many (part 0 w b) p
      ret (record { reserved = part w r b; count = part 0 w b; rows = l })

    go : (b : Bool) → Takes (pick b there (ret (record { reserved = ones; count = 0; rows = [] }))) at v bs → (v.count ≡ length v.rows) × Every P v.rows
    go true d =
        let u = takes_split {B = Section A} u8 _ d in
        let (l, e, z) = map_takes {B = Section A} (many (part 0 w u.value) p) _ u.second in
        let k = many_takes p _ z in
        subst (λ (v : Section A). (v.count ≡ length v.rows) × Every P v.rows) e (sym (listed_length p k), listed_every p P h k)
    go false d = let (e, _) = takes_ret d in subst (λ (v : Section A). (v.count ≡ length v.rows) × Every P v.rows) e (refl, all_nil)

record ListedSo (t : Scene) : Type 0 where
  groups : get_or t.0 3 0 ≡ length t.1.0
  switches : get_or t.0 6 0 ≡ length t.1.1.0
  presets : get_or t.0 9 0 ≡ length t.1.1.1.0
  members : Every (Told switch_group) t.1.1.0
  conditions : Every (Told preset) t.1.1.1.0

listed_so : (t : Scene) (bs : List ℕ) → Takes kind.program 0 t bs → ListedSo t
unfolding R.scene_over
listed_so t bs d =
    let u₀ = takes_split {B = Scene} u8 _ (subst (λ (p : Prog Scene). Takes p 0 t bs) mirrored d) in
    let u₁ = takes_split {B = Scene} u8 _ u₀.second in
    let u₂ = takes_split {B = Scene} (R.section (part 7 1 u₀.value) 1 7 1 R.group) _ u₁.second in
    let u₃ = takes_split {B = Scene} (R.section (part 6 1 u₀.value) 3 5 7 R.switch_group) _ u₂.second in
    let (p, e, z) = map_takes {B = Scene} (R.section (part 5 1 u₀.value) 3 5 7 R.preset) _ u₃.second in
    let (a, _) = section_listed (λ x. Unit {0}) _ 1 7 1 R.group (λ at x bs t. tt) u₂.first in
    let (b, x) = section_listed (Told switch_group) _ 3 5 7 R.switch_group switch_told u₃.first in
    let (c, y) = section_listed (Told preset) _ 3 5 7 R.preset preset_told z in
    subst ListedSo e (record { groups = a; switches = b; presets = c; members = x; conditions = y })

-- rows of tables 2 and 4 have their own rows in tables 3 and 5 from the front on, and none between; as many as measuring counts
pub record Lists (m : MpegH3dAudioScene) (after : Lent) (members conditions : ℕ) : Type 0 where
  pub members_run : RunsOn switch_group 0 (each (λ i. row 9 (at 9 (table 1 after) i)) 0 m.switch_groups.count) members
  pub conditions_run : RunsOn preset 0 (each (λ i. row 7 (at 7 (table 3 after) i)) 0 m.presets.count) conditions

lists_so : (t : Scene) (lent : Lent) (run : Payload) → ListedSo t
    → Lists (scene_of t.0 run) (filled (tables pieces t.1) lent) (length (kids t.1.1.0)) (length (kids t.1.1.1.0))
unfolding filled tables first_table other_tables
lists_so t lent run h =
    let ss = parents switch_group t.1.1.0 in
    let ps = parents preset t.1.1.1.0 in
    record {
      members_run = runs_on switch_rows switch_first switch_count t.1.1.0 (drop (length (flatten ss)) (table 1 lent)) h.switches h.members;
      conditions_run = runs_on preset_rows preset_first preset_count t.1.1.1.0 (drop (length (flatten ps)) (table 3 lent)) h.presets h.conditions;
    }

pub read_lists : (body : List ℕ) (lent after : Lent) (m : MpegH3dAudioScene) → reading kind body lent ≡ leaves (accepted m) after
    → (members : ℕ) × (conditions : ℕ) × (k : ℕ) × (measuring kind body ≡ accepted (sized m.groups.count m.switch_groups.count members m.presets.count conditions k)) × Lists m after members conditions
unfolding kind measuring onto sizes tables needs with_place each
read_lists body lent after m e =
    let w = was kind body lent m after e in
    let t = w.sound.tree in
    let d = run_takes kind.program body 0 (ran_well kind body w.sound w.judges).reads (omega arith) in
    let h = listed_so t _ d in
    let x = length (kids t.1.1.0) in
    let y = length (kids t.1.1.1.0) in
    let k = w.sound.before in
    let z : measuring kind body ≡ accepted (sized (get_or t.0 3 0) (get_or t.0 6 0) x (get_or t.0 9 0) y k) = ap (onto (sizes kind)) w.judges
    ∙ λ i. accepted (sized (sym h.groups i) ((parents_long switch_rows t.1.1.0 ∙ sym h.switches) i) x ((parents_long preset_rows t.1.1.1.0 ∙ sym h.presets) i) y k) in (
      x,
      y,
      k,
      subst (λ (m : MpegH3dAudioScene). measuring kind body ≡ accepted (sized m.groups.count m.switch_groups.count x m.presets.count y k)) w.top_is z,
      subst (λ (l : Lent). Lists m l x y) w.after_is (subst (λ (m : MpegH3dAudioScene). Lists m (filled (tables pieces t.1) lent) x y) w.top_is (lists_so t lent _ h)),
    )
