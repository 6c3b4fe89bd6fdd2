-- What is claimed of the base body: every claim of every kind (frame, specs/Claims), and the few that matter most spelled out for its record.
use Prim.Native.Nat.{ℕ, ◌≤◌, ◌<◌}
use mathlib.Core.Path.{◌≡◌, refl, sym, ap, subst, ◌∙◌}
use mathlib.Core.List.{List, [], ◌∷◌, ◌++◌, flatten}
use mathlib.Core.Bool.{false, not}
use mathlib.Core.Option.{Option, none, some}
use native.Mathlib.Omega.{arith}
use lib.ListN.{length, get_or, drop}
use lib.Dec.{lit<, eqb}
use lib.Count.{ones}
use Rattle.wire.specs.Lists.{Every, all_nil, all_cons, each, sum, Byte}
use Rattle.wire.specs.Bits.{part, total, split}
use Rattle.wire.specs.Prog.{run, u8, pass, ◌>>=◌, Within}
use Rattle.wire.specs.Act.{pick}
use Rattle.wire.specs.Layout.{put, puts, reads, shown, cells, tally, has}
use Rattle.wire.specs.declared.rows.Payload.{Payload}
use Rattle.wire.proofs.Fields.{part_below}
use Rattle.frame.specs.Numbers.{accepted, refuses, answer_of}
use Rattle.frame.specs.Entry.{leaves, onto, into, Sound, needs, lacking, filled, judging, sizes, placing, reading, measuring, tallying, gives, trail, writing}
use Rattle.frame.specs.Entry as E
use Rattle.frame.specs.Body as B
use Rattle.frame.specs.Body.{layouts, carried, parse, with_place, given, tables, zeros, heeds, heeded_rows}
use Rattle.frame.specs.Claims.{none_read, Claims, Fixed}
use Rattle.frame.proofs.Numbers.{results_fixed}
use Rattle.frame.proofs.Judged.{was, ran_well}
use Rattle.frame.proofs.Lawful.{Samples}
use Rattle.frame.proofs.Proofs as P
use Rattle.base.specs.declared.rows.MpegH3dAudio.{MpegH3dAudio}
use Rattle.base.specs.declared.Sizes.{Sizes}
use Rattle.base.specs.Layout.{head}
use Rattle.base.specs.Rows.{Tree, sets_of}
use Rattle.base.specs.Kind.{kind}
use Rattle.base.specs.Contract.{sized, measured}
use Rattle.base.proofs.Bodies.{no_sets, none_listed}
use Rattle.base.proofs.Lawful.{lawful}
use Rattle.base.proofs.Mirrored.{turned}
use Rattle.base.proofs.Parsed.{BodyRun, body_run, record_so}

samples : Samples kind
unfolding reading into judging placing run measuring onto sizes tallying kind parse head reads put puts split total carried u8 pass ◌>>=◌ with_place tables layouts cells shown flatten each sum tally zeros ones needs lacking filled
samples = record {
  lent = [];
  one = 0x05 ∷ 0xBF ∷ 0xC6 ∷ 0x00 ∷ [];
  other = 0x05 ∷ 0xC0 ∷ 0x3F ∷ [];
  top = none_listed;
  top' = no_sets;
  after = [];
  after' = [];
  reads = refl;
  reads' = refl;
  tops_differ = λ e. let z : ◌≡◌ {A = ℕ} 6 63 = ap (λ (t : MpegH3dAudio). t.reference_channel_layout) e in omega arith;
  size = record { tables = []; before = 4 };
  size' = record { tables = []; before = 3 };
  measures = refl;
  measures' = refl;
  sizes_differ = λ e. let z : ◌≡◌ {A = ℕ} 4 3 = ap (λ (s : E.Sizes). s.before) e in omega arith;
  count = 0;
  count' = 8;
  tallies = refl;
  tallies' = refl;
  counts_differ = λ e. omega arith;
  bytes = all_cons (lit< tt) (all_cons (lit< tt) (all_cons (lit< tt) (all_cons (lit< tt) all_nil)));
  blank = 0 ∷ 0 ∷ 0 ∷ 0 ∷ [];
  as_long = refl;
  not_blank = λ e. let z : ◌≡◌ {A = ℕ} 5 0 = ap (λ (l : List ℕ). get_or l 0 0) e in omega arith;
}

pub claims : Claims kind
claims = P.claims kind lawful samples

-- ---- spelled out for this record

-- what is read writes back the same bytes, at the front of the output and nowhere else
pub same_bytes : (body out : List ℕ) (m : MpegH3dAudio) → Every Byte body → reading kind body [] ≡ leaves (accepted m) [] → length body ≤ length out
    → writing kind m [] body out ≡ gives (accepted (length body)) (body ++ drop (length body) out)
same_bytes body out m b e l = claims.round.writes_what_is_read body [] m [] out b e l

-- two bodies that agree in the Rust's struct and in the trailing bytes are one body
pub one_body : (body body' : List ℕ) (m m' : MpegH3dAudio) → Every Byte body → Every Byte body' → reading kind body [] ≡ leaves (accepted m) []
    → reading kind body' [] ≡ leaves (accepted m') []
    → kind.value m [] body ≡ kind.value m' [] body' → trail kind m body ≡ trail kind m' body' → body ≡ body'
one_body body body' m m' b b' e e' v t = claims.round.apart body body' [] [] m m' [] [] b b' e e' (λ i. record { value = v i; trailing = t i })

-- a short refusal stands while the body is shorter than the need that it names
pub stands : (body more : List ℕ) (n : ℕ) → reading kind body [] ≡ leaves (refuses 1 (n ∷ [])) [] → length (body ++ more) < n → length (body ++ more) ≤ 65535
    → reading kind (body ++ more) [] ≡ leaves (refuses 1 (n ∷ [])) []
stands body more n e l h = claims.more_bytes.short_stands body more [] n e l h

-- the place of the sets, if there are any
abbrev payloads : MpegH3dAudio → List Payload
payloads m = pick m.compatible_sets.present (m.compatible_sets.indications ∷ []) []

given_so : (x : Option Payload) → given x ≡ pick (sets_of x).present ((sets_of x).indications ∷ []) []
given_so none = refl
given_so (some p) = refl

body_of : (body : List ℕ) (s : Sound Tree) → judging kind body ≡ accepted s → BodyRun body s.tree s.before
body_of body s j = body_run body (ran_well kind body s j).reads

-- the trailing run and the sets of a record that was read stand in the body
pub inside : (body : List ℕ) (m : MpegH3dAudio) → reading kind body [] ≡ leaves (accepted m) [] → Every (Within body) (m.trailing ∷ payloads m)
unfolding kind B.payloads
inside body m e =
    let (s, j, q, a, h) = claims.bounded.payloads_inside body [] m [] e in
    let w = body_of body s j in
    let l : kind.payloads s.tree ≡ payloads m =
    ap (λ (t : Tree). given t.1.0) w.is ∙ given_so w.listing ∙ sym (ap payloads (sym q ∙ record_so body w m.trailing)) in
    subst (λ (l : List Payload). Every (Within body) (m.trailing ∷ l)) l h

-- offset and length of sets that are absent are not read
abbrev without : MpegH3dAudio → Payload → MpegH3dAudio
without m p = record {
  profile_level_indication = m.profile_level_indication;
  interactivity_enabled = m.interactivity_enabled;
  compatible_sets = record { present = false; indications = p };
  reserved_flags = m.reserved_flags;
  reserved_layout = m.reserved_layout;
  reference_channel_layout = m.reference_channel_layout;
  trailing = m.trailing;
}

pub absent_sets_lem : (m : MpegH3dAudio) (p p' : Payload) (store out : List ℕ) → writing kind (without m p) [] store out ≡ writing kind (without m p') [] store out
unfolding kind heeds layouts cells shown head flatten has each heeded_rows
absent_sets_lem m p p' store out = claims.writing.unread (without m p) (without m p') [] [] store out refl none_read

-- bit 0x40 of byte 1 is set exactly if there are no sets
pub flag : (body : List ℕ) (m : MpegH3dAudio) → reading kind body [] ≡ leaves (accepted m) [] → m.compatible_sets.present ≡ not (eqb (part 6 1 (get_or body 1 0)) 1)
unfolding kind with_place each
flag body m e =
    let w = was kind body [] m [] e in
    let r = body_of body w.sound w.judges in
    ap (λ (x : MpegH3dAudio). x.compatible_sets.present) (sym w.top_is) ∙ ap (λ (t : Tree). eqb (get_or t.0 2 0) 1) r.is
    ∙ turned (part 6 1 (get_or body 1 0)) (part_below 6 1 (get_or body 1 0))

-- ---- the promises fix the answers themselves

measure_of : E.Sizes → Sizes
measure_of z = record { k = z.before }

measured_back : (s : Sizes) → measure_of (sized s.k) ≡ s
unfolding measure_of
measured_back s = refl

pub fixed : Fixed kind answer_of measured
fixed = results_fixed claims (λ s. sized s.k) measure_of measured_back
