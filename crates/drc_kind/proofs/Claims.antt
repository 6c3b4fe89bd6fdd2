-- What is claimed of the DRC and loudness body: every claim of every kind (frame, specs/Claims), and the few that matter most spelled out for its record and tables 9 to 12.
use Prim.Native.Nat.{ℕ, ◌≤◌, ◌<◌}
use mathlib.Core.Path.{◌≡◌, refl, sym, ap, subst, ◌∙◌}
use mathlib.Core.List.{List, [], ◌∷◌, ◌++◌, map, flatten, flat_map}
use mathlib.Core.Bool.{Bool, true, false, ◌||◌}
use mathlib.Core.Logic.{◌↔◌}
use native.Mathlib.Omega.{arith}
use lib.ListN.{length, get_or, drop, length-map}
use lib.Count.{ones}
use lib.Dec.{eqb, lit<}
use borrow.Author.Tests.{eqb-true}
use Rattle.wire.specs.Lists.{Every, all_nil, all_cons, each, sum, firsts, Byte}
use Rattle.wire.specs.Bits.{split, total, part}
use Rattle.wire.specs.Prog.{Prog, ret, u8, run, span, pass, many, ◌>>=◌}
use Rattle.wire.specs.declared.rows.Payload.{Payload}
use Rattle.wire.specs.Act.{pick}
use Rattle.wire.specs.Layout.{Columns, at, row, blank, flat, reads, put, puts, shown, cells, tally, has, broken_row, broken_heeds, bearing_heeds, borne_row, Family, Borne, parents, kids}
use Rattle.wire.proofs.Fields.{part_below}
use Rattle.wire.proofs.Reading.Takes.{Takes, run_takes, takes_split, takes_ret, map_takes, many_takes, listed_length, listed_every}
use Rattle.wire.proofs.Lists.{every_as, every_map, every_firsts}
use Rattle.wire.proofs.Layouts.Rowed.{parents_long, parents_found}
use Rattle.wire.proofs.Layouts.Borne.{borne_found}
use Rattle.wire.proofs.Layouts.Running.{RunsOn, Told, runs_on}
use Rattle.frame.specs.Kind.{Lent}
use Rattle.frame.specs.Numbers.{accepted, refuses}
use Rattle.frame.specs.Entry.{leaves, onto, into, Sizes, needs, lacking, room, first_table, other_tables, filled, judging, sizes, placing, reading, measuring, tallying, gives, trail, writing}
use Rattle.frame.specs.Body.{layouts, parse, with_place, tables, zeros, heeds, heeded_rows, table}
use Rattle.frame.specs.Claims.{Lowest, rows_agree, none_read, Claims}
use Rattle.frame.proofs.Judged.{was, ran_well, measured as was-measured}
use Rattle.frame.proofs.Lawful.{Samples}
use Rattle.frame.proofs.Proofs as P
use Rattle.pairs.specs.Layout.{pair}
use Rattle.scopes.specs.Layout.{case_at, scope}
use Rattle.scopes.specs.declared.rows.DrcScope.{DrcScope}
use Rattle.scopes.specs.Rows.{case_is, kind_is, reserved_is, id_is, scope_is, scoped}
use Rattle.scopes.proofs.Taken.{case_at_lem}
use Rattle.instructions.specs.Layout as I
use Rattle.instructions.specs.Layout.{instruction, instructions}
use Rattle.loudness.specs.Layout as E
use Rattle.loudness.specs.Layout.{entry, entries}
use Rattle.downmixes.specs.Layout.{downmix}
use Rattle.drc_kind.specs.declared.rows.MpegH3dAudioDrcLoudness.{MpegH3dAudioDrcLoudness}
use Rattle.drc_kind.specs.declared.rows.DrcLoudnessInfo.{DrcLoudnessInfo}
use Rattle.drc_kind.specs.Layout.{head}
use Rattle.drc_kind.specs.Rows.{no_info, drc_of, Tree, tree_is, needed}
use Rattle.drc_kind.specs.Read as R
use Rattle.drc_kind.specs.Kind.{pieces, kind}
use Rattle.drc_kind.proofs.Lawful.{instruction_rows, entry_rows, lawful}
use Rattle.drc_kind.proofs.Mirrored.{instruction_so, entry_so, by_lists}

-- FF C0 C1 E0 FD 85 01 AA: one loudness entry of group 5 with a byte
abbrev one_entry : MpegH3dAudioDrcLoudness
one_entry = record {
  reserved = 127;
  info = record { present = true; part = record { reserved_drc = 3; reserved_loudness = 3; reserved_downmix = 7; drc_instructions = 0; loudness_infos = 1; downmix_definitions = 0 } };
  trailing = span 8 0;
}

-- 00: no info
abbrev nothing : MpegH3dAudioDrcLoudness
nothing = record { reserved = 0; info = no_info; trailing = span 1 0 }

abbrev pub sized : (instructions additional loudness downmixes : ℕ) → ℕ → Sizes
sized i a l d k = record { tables = needed i a l d; before = k }

samples : Samples kind
unfolding reading into judging placing run measuring onto sizes tallying kind parse reads put puts split total u8 pass ◌>>=◌ many scope pair downmix head tables zeros tally shown sum firsts flat_map needs lacking room first_table other_tables filled flatten each cells has ones with_place layouts
samples = record {
  lent = [] ∷ [] ∷ (9 ∷ 9 ∷ 9 ∷ 9 ∷ 9 ∷ 9 ∷ 9 ∷ 9 ∷ []) ∷ [] ∷ [];
  one = 0xFF ∷ 0xC0 ∷ 0xC1 ∷ 0xE0 ∷ 0xFD ∷ 0x85 ∷ 0x01 ∷ 0xAA ∷ [];
  other = 0x00 ∷ [];
  top = one_entry;
  top' = nothing;
  after = [] ∷ [] ∷ (63 ∷ 1 ∷ 1 ∷ 1 ∷ 5 ∷ 7 ∷ 1 ∷ 9 ∷ []) ∷ [] ∷ [];
  after' = [] ∷ [] ∷ (9 ∷ 9 ∷ 9 ∷ 9 ∷ 9 ∷ 9 ∷ 9 ∷ 9 ∷ []) ∷ [] ∷ [];
  reads = refl;
  reads' = refl;
  tops_differ = λ e. let z : ◌≡◌ {A = ℕ} 127 0 = ap (λ (t : MpegH3dAudioDrcLoudness). t.reserved) e in omega arith;
  size = sized 0 0 1 0 8;
  size' = sized 0 0 0 0 1;
  measures = refl;
  measures' = refl;
  sizes_differ = λ e. let z : ◌≡◌ {A = ℕ} 8 1 = ap (λ (s : Sizes). s.before) e in omega arith;
  count = 0;
  count' = 7;
  tallies = refl;
  tallies' = refl;
  counts_differ = λ e. omega arith;
  bytes = all_cons (lit< tt) (all_cons (lit< tt) (all_cons (lit< tt) (all_cons (lit< tt) (all_cons (lit< tt) (all_cons (lit< tt) (all_cons (lit< tt) (all_cons (lit< tt) all_nil)))))));
  blank = 0 ∷ 0 ∷ 0 ∷ 0 ∷ 0 ∷ 0 ∷ 0 ∷ 0 ∷ [];
  as_long = refl;
  not_blank = λ e. let z : ◌≡◌ {A = ℕ} 255 0 = ap (λ (l : List ℕ). get_or l 0 0) e in omega arith;
}

pub claims : Claims kind
claims = P.claims kind lawful samples

-- ---- spelled out for this record and tables 9 to 12

-- what is read writes back the same bytes, at the front of the output and nowhere else
pub same_bytes : (body out : List ℕ) (lent after : Lent) (m : MpegH3dAudioDrcLoudness) → Every Byte body → reading kind body lent ≡ leaves (accepted m) after
    → length body ≤ length out
    → writing kind m after body out ≡ gives (accepted (length body)) (body ++ drop (length body) out)
same_bytes body out lent after m b e l = claims.round.writes_what_is_read body lent m after out b e l

-- two bodies that agree in the Rust's structs, payload bytes among them, and in the trailing bytes are one body
pub one_body : (body body' : List ℕ) (lent lent' after after' : Lent) (m m' : MpegH3dAudioDrcLoudness) → Every Byte body → Every Byte body'
    → reading kind body lent ≡ leaves (accepted m) after → reading kind body' lent' ≡ leaves (accepted m') after'
    → kind.value m after body ≡ kind.value m' after' body' → trail kind m body ≡ trail kind m' body' → body ≡ body'
one_body body body' lent lent' after after' m m' b b' e e' v t =
    claims.round.apart body body' lent lent' m m' after after' b b' e e' (λ i. record { value = v i; trailing = t i })

-- 3 is given exactly if the body is otherwise accepted and a table has fewer rows than it needs; it names the lowest of the four that is short, and the rows it needs
sized_so : (body : List ℕ) (z : Sizes) → measuring kind body ≡ accepted z → (i : ℕ) × (a : ℕ) × (l : ℕ) × (d : ℕ) × (z ≡ sized i a l d z.before)
unfolding sizes kind tables needs
sized_so body z e =
    let (s, j, q) = was-measured kind body z e in
    let t = s.tree in
    let i = length (parents instruction t.1.0) in
    let a = length (kids t.1.0) in
    let l = length (map (borne_row entry) t.1.1.0) in
    let d = length t.1.1.1.0 in
    (i, a, l, d, sym (subst (λ (z : Sizes). sized i a l d z.before ≡ z) q refl))

pub lacks_room : (body : List ℕ) (lent : Lent) (t r : ℕ)
    → (reading kind body lent ≡ leaves (refuses 3 (t ∷ r ∷ [])) lent)
    ↔ ((i : ℕ) × (a : ℕ) × (l : ℕ) × (d : ℕ) × (k : ℕ) × (measuring kind body ≡ accepted (sized i a l d k)) × Lowest (needed i a l d) lent t r)
lacks_room body lent t r = (forth, back)
  where
    forth : reading kind body lent ≡ leaves (refuses 3 (t ∷ r ∷ [])) lent
        → (i : ℕ) × (a : ℕ) × (l : ℕ) × (d : ℕ) × (k : ℕ) × (measuring kind body ≡ accepted (sized i a l d k)) × Lowest (needed i a l d) lent t r
    forth h =
        let (z, e, w) = (claims.more_room.no_room body lent t r).0 h in
        let (i, a, l, d, q) = sized_so body z e in
        (i, a, l, d, z.before, e ∙ ap accepted q, subst (λ (z : Sizes). Lowest z.tables lent t r) q w)

    back : (i : ℕ) × (a : ℕ) × (l : ℕ) × (d : ℕ) × (k : ℕ) × (measuring kind body ≡ accepted (sized i a l d k)) × Lowest (needed i a l d) lent t r
        → reading kind body lent ≡ leaves (refuses 3 (t ∷ r ∷ [])) lent
    back (i, a, l, d, k, e, w) = (claims.more_room.no_room body lent t r).1 (sized i a l d k, e, w)

-- ---- columns that writing does not read

-- of info that is absent none
abbrev without : MpegH3dAudioDrcLoudness → DrcLoudnessInfo → MpegH3dAudioDrcLoudness
without m part = record { reserved = m.reserved; info = record { present = false; part = part }; trailing = m.trailing }

alike : (m : MpegH3dAudioDrcLoudness) (p p' : DrcLoudnessInfo) → kind.heeded (without m p) ≡ kind.heeded (without m p')
unfolding kind heeds layouts cells shown head flatten has each
alike m p p' = refl

pub absent_info : (m : MpegH3dAudioDrcLoudness) (p p' : DrcLoudnessInfo) (instructions additional loudness downmixes store out : List ℕ)
    → writing kind (without m p) (instructions ∷ additional ∷ loudness ∷ downmixes ∷ []) store out ≡ writing kind (without m p') (instructions ∷ additional ∷ loudness ∷ downmixes ∷ []) store out
unfolding kind heeded_rows
absent_info m p p' instructions additional loudness downmixes store out =
    claims.writing.unread (without m p) (without m p') _ _ store out (alike m p p')
    (rows_agree refl (λ i. refl) (rows_agree refl (λ i. refl) (rows_agree refl (λ i. refl) (rows_agree refl (λ i. refl) none_read))))

-- of a scope only what it makes: not a plain scope's reserved bits and ID, not a preset's kind, and none but the case where that is above 2
pub record SameScope (g g' : Columns) : Type 0 where
  pub scope : scope_is (g 1) (g 2) (g 3) (g 4) ≡ scope_is (g' 1) (g' 2) (g' 3) (g' 4)
  pub others : (j : ℕ) → has j (1 ∷ 2 ∷ 3 ∷ 4 ∷ []) ≡ false → g j ≡ g' j

pub plain_unread : (kind reserved id reserved' id' : ℕ) → scope_is 0 kind reserved id ≡ scope_is 0 kind reserved' id'
plain_unread kind reserved id reserved' id' = refl

pub preset_unread : (kind kind' reserved id : ℕ) → scope_is 2 kind reserved id ≡ scope_is 2 kind' reserved id
preset_unread kind kind' reserved id = refl

scoped_alike : (g g' : Columns) → SameScope g g' → scoped g ≡ scoped g'
unfolding has
scoped_alike g g' h = λ i j. go j (eqb j 1) (eqb j 2) (eqb j 3) (eqb j 4) (h.others j) i
  where
    through : Bool → Bool → Bool → Bool → DrcScope → ℕ → ℕ
    through a b c d s v = pick a (case_is s) (pick b (kind_is s) (pick c (reserved_is s) (pick d (id_is s) v)))

    go : (j : ℕ) (a b c d : Bool) → (a || (b || (c || (d || false))) ≡ false → g j ≡ g' j)
        → through a b c d (scope_is (g 1) (g 2) (g 3) (g 4)) (g j) ≡ through a b c d (scope_is (g' 1) (g' 2) (g' 3) (g' 4)) (g' j)
    go j true b c d o = ap case_is h.scope
    go j false true c d o = ap kind_is h.scope
    go j false false true d o = ap reserved_is h.scope
    go j false false false true o = ap id_is h.scope
    go j false false false false o = o refl

-- tables 9 and 11 that agree so are written alike, faults and places included
pub scope_unread : (m : MpegH3dAudioDrcLoudness) (t t' additional l l' downmixes store out : List ℕ) → length t ≡ length t' → length l ≡ length l'
    → ((i : ℕ) → SameScope (at 24 t i) (at 24 t' i)) → ((i : ℕ) → SameScope (at 7 l i) (at 7 l' i))
    → writing kind m (t ∷ additional ∷ l ∷ downmixes ∷ []) store out ≡ writing kind m (t' ∷ additional ∷ l' ∷ downmixes ∷ []) store out
unfolding kind heeded_rows
scope_unread m t t' additional l l' downmixes store out n k p q =
    claims.writing.unread m m _ _ store out refl
    (rows_agree n (λ i. ap (broken_heeds instruction) (scoped_alike (at 24 t i) (at 24 t' i) (p i))) (rows_agree refl (λ i. refl) (rows_agree k (λ i. ap (bearing_heeds entry) (scoped_alike (at 7 l i) (at 7 l' i) (q i))) (rows_agree refl (λ i. refl) none_read))))

-- ---- of tables that were read

-- the case of a scope is that of its kind; a plain scope's reserved bits and ID are 0, a preset's kind is 3
pub record ScopeRead (types r : List ℕ) : Type 0 where
  pub case : get_or r 1 0 ≡ case_at types (get_or r 2 0)
  pub plain : get_or r 1 0 ≡ 0 → (get_or r 3 0 ≡ 0) × (get_or r 4 0 ≡ 0)
  pub preset : get_or r 1 0 ≡ 2 → get_or r 2 0 ≡ 3

-- what is read for a scope of the kind k
record ToldScope (types : List ℕ) (k : ℕ) (sc : List ℕ) : Type 0 where
  case : ℕ
  reserved : ℕ
  id : ℕ
  is : case ∷ k ∷ reserved ∷ id ∷ [] ≡ sc
  of_kind : case ≡ case_at types k
  plain : case ≡ 0 → (reserved ≡ 0) × (id ≡ 0)
  preset : case ≡ 2 → k ≡ 3

scope_told : (types : List ℕ) (k : ℕ) → k < 4 → {at : ℕ} {sc bs : List ℕ} → Takes (R.scope types k) at sc bs → ToldScope types k sc
unfolding R.scope
scope_told types k h {at} {sc} {bs} d = go (has k types) (eqb k 3) refl (case_at_lem types k h) d
  where
    scopes : Bool → Bool → Prog (List ℕ)
    scopes x y = pick x (u8 >>= λ b. ret (1 ∷ k ∷ part 7 1 b ∷ part 0 7 b ∷ [])) (pick y (u8 >>= λ b. ret (2 ∷ k ∷ part 5 3 b ∷ part 0 5 b ∷ [])) (ret (0 ∷ k ∷ 0 ∷ 0 ∷ [])))

    go : (x y : Bool) → eqb k 3 ≡ y → case_at types k ≡ pick x 1 (pick y 2 0) → Takes (scopes x y) at sc bs → ToldScope types k sc
    go true y e c d =
        let (b, q, _) = map_takes {B = List ℕ} u8 (λ b. 1 ∷ k ∷ part 7 1 b ∷ part 0 7 b ∷ []) d in
        record { case = 1; reserved = part 7 1 b; id = part 0 7 b; is = q; of_kind = sym c; plain = λ z. absurd (omega (arith, z)); preset = λ z. absurd (omega (arith, z)) }
    go false true e c d =
        let (b, q, _) = map_takes {B = List ℕ} u8 (λ b. 2 ∷ k ∷ part 5 3 b ∷ part 0 5 b ∷ []) d in
        record { case = 2; reserved = part 5 3 b; id = part 0 5 b; is = q; of_kind = sym c; plain = λ z. absurd (omega (arith, z)); preset = λ z. eqb-true k 3 e }
    go false false e c d =
        let (q, _) = takes_ret d in
        record { case = 0; reserved = 0; id = 0; is = q; of_kind = sym c; plain = λ z. (refl, refl); preset = λ z. absurd (omega (arith, z)) }

-- the seventh column behind it
eleventh : {types : List ℕ} {k : ℕ} {sc : List ℕ} (t : ℕ) (rest : List ℕ) → ToldScope types k sc → get_or (t ∷ sc ++ rest) 11 0 ≡ get_or rest 6 0
eleventh t rest h = subst (λ (sc : List ℕ). get_or (t ∷ sc ++ rest) 11 0 ≡ get_or rest 6 0) h.is refl

scope_read : {types : List ℕ} {k : ℕ} {sc : List ℕ} (t : ℕ) (rest : List ℕ) → ToldScope types k sc → ScopeRead types (t ∷ sc ++ rest)
scope_read {types} t rest h = subst (λ (sc : List ℕ). ScopeRead types (t ∷ sc ++ rest)) h.is (record { case = h.of_kind; plain = h.plain; preset = h.preset })

-- an instruction that was read: its additional IDs are as many as it counts
record Instructed (x : Family) : Type 0 where
  told : Told instruction x
  scope : ScopeRead I.types x.0

instructed : (at : ℕ) (x : Family) (bs : List ℕ) → Takes R.instruction at x bs → Instructed x
unfolding R.instruction
instructed at x bs d =
    let u₀ = takes_split {B = Family} u8 _ d in
    let u₁ = takes_split {B = Family} (R.scope I.types (part 0 2 u₀.value)) _ u₀.second in
    let u₂ = takes_split {B = Family} u8 _ u₁.second in
    let u₃ = takes_split {B = Family} u8 _ u₂.second in
    let u₄ = takes_split {B = Family} u8 _ u₃.second in
    let u₅ = takes_split {B = Family} (many (part 2 3 u₄.value) R.additional) _ u₄.second in
    let u₆ = takes_split {B = Family} u8 _ u₅.second in
    let u₇ = takes_split {B = Family} u8 _ u₆.second in
    let u₈ = takes_split {B = Family} (R.given (part 1 1 u₄.value) 1 R.limiter) _ u₇.second in
    let (v, e, z) = map_takes {B = Family} (R.given (part 0 1 u₄.value) 8 R.target) _ u₈.second in
    let w = scope_told I.types (part 0 2 u₀.value) (part_below 0 2 u₀.value) u₁.first in
    let n = listed_length R.additional (many_takes R.additional (part 2 3 u₄.value) u₅.first) in
    subst Instructed e (record { told = eleventh (part 2 6 u₀.value) _ w ∙ sym n; scope = scope_read _ _ w })

entry_told : (at : ℕ) (x : Borne) (bs : List ℕ) → Takes R.loudness at x bs → ScopeRead E.types x.0
unfolding R.loudness
entry_told at x bs d =
    let u₀ = takes_split {B = Borne} u8 _ d in
    let u₁ = takes_split {B = Borne} (R.scope E.types (part 0 2 u₀.value)) _ u₀.second in
    let u₂ = takes_split {B = Borne} u8 _ u₁.second in
    let (v, e, z) = map_takes {B = Borne} (pass u₂.value) _ u₂.second in
    subst (λ (x : Borne). ScopeRead E.types x.0) e (scope_read _ _ (scope_told E.types (part 0 2 u₀.value) (part_below 0 2 u₀.value) u₁.first))

-- the three lists of a body that was read
record ListedSo (t : Tree) : Type 0 where
  instructions : get_or t.0 5 0 ≡ length t.1.0
  entries : get_or t.0 6 0 ≡ length t.1.1.0
  downmixes : get_or t.0 7 0 ≡ length t.1.1.1.0
  instructed : Every Instructed t.1.0
  told : Every (λ (x : Borne). ScopeRead E.types x.0) t.1.1.0

listed_so : (t : Tree) (bs : List ℕ) → Takes kind.program 0 t bs → ListedSo t
unfolding each
listed_so t bs d =
    let u₀ = takes_split {B = Tree} (reads head blank) _ (subst (λ (p : Prog Tree). Takes p 0 t bs) by_lists d) in
    let u₁ = takes_split {B = Tree} (many (u₀.value 5) instructions) _ u₀.second in
    let u₂ = takes_split {B = Tree} (many (u₀.value 6) entries) _ u₁.second in
    let (ds, e, z) = map_takes {B = Tree} (many (u₀.value 7) (flat 4 downmix)) (λ ds. tree_is (row 8 u₀.value) u₁.value u₂.value ds) u₂.second in
    let i = many_takes instructions (u₀.value 5) u₁.first in
    let l = many_takes entries (u₀.value 6) u₂.first in
    subst ListedSo e (record {
      instructions = sym (listed_length instructions i);
      entries = sym (listed_length entries l);
      downmixes = sym (listed_length (flat 4 downmix) (many_takes (flat 4 downmix) (u₀.value 7) z));
      instructed = listed_every instructions Instructed (λ at x bs d. instructed at x bs (subst (λ (p : Prog Family). Takes p at x bs) instruction_so d)) i;
      told = listed_every entries (λ (x : Borne). ScopeRead E.types x.0) (λ at x bs d. entry_told at x bs (subst (λ (p : Prog Borne). Takes p at x bs) entry_so d)) l;
    })

first_so : (n : ℕ) (x : Family) → get_or (broken_row instruction (n, x)) 10 0 ≡ n
unfolding each
first_so n x = refl

count_so : (n : ℕ) (x : Family) → get_or (broken_row instruction (n, x)) 11 0 ≡ get_or x.0 11 0
unfolding each
count_so n x = refl

-- rows of table 9 have their additional IDs in table 10 from the front on, and none between; and each row of tables 9 and 11 has its scope
pub record Lists (m : MpegH3dAudioDrcLoudness) (after : Lent) (additional : ℕ) : Type 0 where
  pub additional_run : RunsOn instruction 0 (each (λ i. row 24 (at 24 (table 0 after) i)) 0 m.info.part.drc_instructions) additional
  pub instruction_scopes : Every (ScopeRead I.types) (each (λ i. row 24 (at 24 (table 0 after) i)) 0 m.info.part.drc_instructions)
  pub loudness_scopes : Every (ScopeRead E.types) (each (λ i. row 7 (at 7 (table 2 after) i)) 0 m.info.part.loudness_infos)

instruction_scope : (y : ℕ × Family) → ScopeRead I.types y.1.0 → ScopeRead I.types (broken_row instruction y)
unfolding each
instruction_scope y h = record { case = h.case; plain = h.plain; preset = h.preset }

entry_scope : (x : Borne) → ScopeRead E.types x.0 → ScopeRead E.types (borne_row entry x)
unfolding each
entry_scope x h = record { case = h.case; plain = h.plain; preset = h.preset }

lists_so : (t : Tree) (lent : Lent) (run : Payload) → ListedSo t → Lists (drc_of t.0 run) (filled (tables pieces t.1) lent) (length (kids t.1.0))
unfolding filled tables first_table other_tables
lists_so t lent run h =
    let is = t.1.0 in
    let ls = t.1.1.0 in
    let L = filled (tables pieces t.1) lent in
    let size : Family → ℕ = λ x. length x.1 in
    let a =
    ap (each (λ i. row 24 (at 24 (table 0 L) i)) 0) h.instructions ∙ parents_found instruction_rows is (drop (length (flatten (parents instruction is))) (table 0 lent)) [] in
    let b = ap (each (λ i. row 7 (at 7 (table 2 L) i)) 0) h.entries ∙ borne_found entry_rows ls (drop (length (flatten (map (borne_row entry) ls))) (table 2 lent)) in
    let P : ℕ × Family → Type 0 = λ y. ScopeRead I.types y.1.0 in
    let p = every_firsts size 0 (λ (x : Family). ScopeRead I.types x.0) is (every_as Instructed (λ (x : Family). ScopeRead I.types x.0) (λ x g. g.scope) h.instructed) in
    record {
      additional_run = runs_on instruction_rows first_so count_so is (drop (length (flatten (parents instruction is))) (table 0 lent)) h.instructions (every_as Instructed (Told instruction) (λ x g. g.told) h.instructed);
      instruction_scopes = subst (Every (ScopeRead I.types)) (sym a) (every_map (broken_row instruction) (ScopeRead I.types) (firsts size 0 is) (every_as P (λ y. ScopeRead I.types (broken_row instruction y)) instruction_scope p));
      loudness_scopes = subst (Every (ScopeRead E.types)) (sym b) (every_map (borne_row entry) (ScopeRead E.types) ls (every_as (λ (x : Borne). ScopeRead E.types x.0) (λ x. ScopeRead E.types (borne_row entry x)) entry_scope h.told));
    }

pub read_lists : (body : List ℕ) (lent after : Lent) (m : MpegH3dAudioDrcLoudness) → reading kind body lent ≡ leaves (accepted m) after
    → (additional : ℕ) × (k : ℕ) × (measuring kind body ≡ accepted (sized m.info.part.drc_instructions additional m.info.part.loudness_infos m.info.part.downmix_definitions k)) × Lists m after additional
unfolding kind measuring onto sizes tables needs with_place each
read_lists body lent after m e =
    let w = was kind body lent m after e in
    let t = w.sound.tree in
    let d = run_takes kind.program body 0 (ran_well kind body w.sound w.judges).reads (omega arith) in
    let h = listed_so t _ d in
    let x = length (kids t.1.0) in
    let k = w.sound.before in
    let z : measuring kind body ≡ accepted (sized (get_or t.0 5 0) x (get_or t.0 6 0) (get_or t.0 7 0) k) = ap (onto (sizes kind)) w.judges
    ∙ λ i. accepted (sized ((parents_long instruction_rows t.1.0 ∙ sym h.instructions) i) x ((length-map t.1.1.0 (borne_row entry) ∙ sym h.entries) i) (sym h.downmixes i) k) in (
      x,
      k,
      subst (λ (m : MpegH3dAudioDrcLoudness). measuring kind body ≡ accepted (sized m.info.part.drc_instructions x m.info.part.loudness_infos m.info.part.downmix_definitions k)) w.top_is z,
      subst (λ (l : Lent). Lists m l x) w.after_is (subst (λ (m : MpegH3dAudioDrcLoudness). Lists m (filled (tables pieces t.1) lent) x) w.top_is (lists_so t lent _ h)),
    )
