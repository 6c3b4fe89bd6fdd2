-- What is claimed of the multi_stream body: every claim of every kind (frame, specs/Claims), and the few that matter most spelled out for its record and table 8.
use Prim.Native.Nat.{ℕ, ◌+◌, ◌/◌, ◌≤◌, ◌<◌}
use mathlib.Core.Path.{◌≡◌, refl, sym, ap, subst, ◌∙◌}
use mathlib.Core.List.{List, [], ◌∷◌, ◌++◌, flatten}
use mathlib.Core.Bool.{Bool, true, false}
use mathlib.Core.Logic.{◌↔◌}
use native.Mathlib.Omega.{arith}
use lib.ListN.{length, get_or, drop}
use lib.Dec.{eqb, lit<}
use lib.Count.{ones}
use borrow.Author.Tests.{eqb-true, eqb-false}
use Rattle.wire.specs.Lists.{Every, all_nil, all_cons, each, sum, Byte}
use Rattle.wire.specs.Bits.{part, split, total}
use Rattle.wire.specs.Prog.{Prog, done, run, u8, many, ◌>>=◌}
use Rattle.wire.specs.declared.rows.Payload.{Payload}
use Rattle.wire.specs.Layout.{at, row, flat, reads, put, puts, shown, cells, tally, has}
use Rattle.wire.proofs.Fields.{part_below}
use Rattle.wire.proofs.Reading.Takes.{Takes, run_takes, takes_split, takes_ret, map_takes, many_takes, listed_every}
use Rattle.wire.proofs.Layouts.Rowed.{Wide, found, flat_grows}
use Rattle.frame.specs.Kind.{Lent}
use Rattle.frame.specs.Numbers.{accepted, refuses, answer_of}
use Rattle.frame.specs.Entry.{leaves, onto, into, Need, needs, lacking, room, first_table, other_tables, filled, judging, sizes, placing, reading, measuring, tallying, gives, trail, writing}
use Rattle.frame.specs.Entry as E
use Rattle.frame.specs.Body.{layouts, parse, with_place, tables, zeros, heeds, heeded_rows}
use Rattle.frame.specs.Claims.{Lowest, this, later, rows_agree, none_read, Claims, Fixed}
use Rattle.frame.proofs.Numbers.{results_fixed}
use Rattle.frame.proofs.Judged.{was, ran_well, measured as was-measured}
use Rattle.frame.proofs.Lawful.{Samples}
use Rattle.frame.proofs.Tables.{rows_at}
use Rattle.frame.proofs.Proofs as P
use Rattle.stream_groups.specs.Layout.{group}
use Rattle.multi_stream.specs.declared.rows.MultiStreamMain.{MultiStreamMain}
use Rattle.multi_stream.specs.declared.rows.MpegH3dAudioMultiStream.{MpegH3dAudioMultiStream}
use Rattle.multi_stream.specs.declared.Sizes.{Sizes}
use Rattle.multi_stream.specs.Layout.{head}
use Rattle.multi_stream.specs.Rows.{MultiStream}
use Rattle.multi_stream.specs.Read.{Main}
use Rattle.multi_stream.specs.Read as Rust
use Rattle.multi_stream.specs.Kind.{kind}
use Rattle.multi_stream.specs.Contract.{needed, sized, measured}
use Rattle.multi_stream.proofs.Bodies.{two_groups, two_rows, no_groups}
use Rattle.multi_stream.proofs.Lawful.{lawful}
use Rattle.multi_stream.proofs.Mirrored.{group_so}
use Rattle.multi_stream.proofs.Parsed.{groups, main_part, main_there, main_aside, body_run}

samples : Samples kind
unfolding reading into judging placing run measuring onto sizes tallying kind parse reads put puts split total ◌>>=◌ many head group tables zeros tally shown sum needs lacking room first_table other_tables filled flatten each cells ones with_place layouts
samples = record {
  lent = (9 ∷ 9 ∷ 9 ∷ 9 ∷ 9 ∷ 9 ∷ 9 ∷ 9 ∷ 9 ∷ 9 ∷ 9 ∷ []) ∷ [];
  one = 0x81 ∷ 0x80 ∷ 0x82 ∷ 0x07 ∷ 0x08 ∷ 0x85 ∷ [];
  other = 0x81 ∷ 0x00 ∷ 0x00 ∷ [];
  top = two_groups;
  top' = no_groups;
  after = two_rows (9 ∷ []) ∷ [];
  after' = (9 ∷ 9 ∷ 9 ∷ 9 ∷ 9 ∷ 9 ∷ 9 ∷ 9 ∷ 9 ∷ 9 ∷ 9 ∷ []) ∷ [];
  reads = refl;
  reads' = refl;
  tops_differ = λ e. let z : ◌≡◌ {A = ℕ} 2 0 = ap (λ (t : MpegH3dAudioMultiStream). t.main.part.groups) e in omega arith;
  size = sized 2 6;
  size' = sized 0 3;
  measures = refl;
  measures' = refl;
  sizes_differ = λ e. let z : ◌≡◌ {A = ℕ} 6 3 = ap (λ (s : E.Sizes). s.before) e in omega arith;
  count = 0;
  count' = 2;
  tallies = refl;
  tallies' = refl;
  counts_differ = λ e. omega arith;
  bytes = all_cons (lit< tt) (all_cons (lit< tt) (all_cons (lit< tt) (all_cons (lit< tt) (all_cons (lit< tt) (all_cons (lit< tt) all_nil)))));
  blank = 0 ∷ 0 ∷ 0 ∷ 0 ∷ 0 ∷ 0 ∷ [];
  as_long = refl;
  not_blank = λ e. let z : ◌≡◌ {A = ℕ} 129 0 = ap (λ (l : List ℕ). get_or l 0 0) e in omega arith;
}

pub claims : Claims kind
claims = P.claims kind lawful samples

-- ---- spelled out for this record and table 8

-- what is read writes back the same bytes, at the front of the output and nowhere else
pub same_bytes : (body groups groups' out : List ℕ) (m : MpegH3dAudioMultiStream) → Every Byte body → reading kind body (groups ∷ []) ≡ leaves (accepted m) (groups' ∷ [])
    → length body ≤ length out
    → writing kind m (groups' ∷ []) body out ≡ gives (accepted (length body)) (body ++ drop (length body) out)
same_bytes body groups groups' out m b e l = claims.round.writes_what_is_read body (groups ∷ []) m (groups' ∷ []) out b e l

-- two bodies that agree in the Rust's structs and in the trailing bytes are one body
pub one_body : (body body' : List ℕ) (lent lent' after after' : Lent) (m m' : MpegH3dAudioMultiStream) → Every Byte body → Every Byte body'
    → reading kind body lent ≡ leaves (accepted m) after → reading kind body' lent' ≡ leaves (accepted m') after'
    → kind.value m after body ≡ kind.value m' after' body' → trail kind m body ≡ trail kind m' body' → body ≡ body'
unfolding kind
one_body body body' lent lent' after after' m m' b b' e e' v t =
    claims.round.apart body body' lent lent' m m' after after' b b' e e' (λ i. record { value = v i; trailing = t i })

-- 3 is given exactly if the body is otherwise accepted and table 8 has fewer rows than it needs; it names table 8 and those rows
nothing : {ns : List Need} {lent : Lent} {t r : ℕ} → Lowest ns lent t r → ns ≡ [] → ⊥
nothing (this h) e = let z : ◌≡◌ {A = ℕ} 0 1 = cc e in omega arith
nothing (later h d) e = let z : ◌≡◌ {A = ℕ} 0 1 = cc e in omega arith

low : (n : ℕ) (groups : List ℕ) {t r : ℕ} → Lowest (needed n) (groups ∷ []) t r → (t ≡ 8) × (r ≡ n) × (length groups / 5 < n)
unfolding room first_table
low n groups (this h) = (refl, refl, h)
low n groups (later h d) = absurd (nothing d refl)

sized_so : (body : List ℕ) (z : E.Sizes) → measuring kind body ≡ accepted z → (n : ℕ) × (z ≡ sized n z.before)
unfolding sizes kind tables needs
sized_so body z e = let (s, j, q) = was-measured kind body z e in (length s.tree.1.0, sym (subst (λ (z : E.Sizes). sized (length s.tree.1.0) z.before ≡ z) q refl))

pub lacks_room : (body groups : List ℕ) (t r : ℕ)
    → (reading kind body (groups ∷ []) ≡ leaves (refuses 3 (t ∷ r ∷ [])) (groups ∷ [])) ↔
    ((t ≡ 8) × (k : ℕ) × (measuring kind body ≡ accepted (sized r k)) × (length groups / 5 < r))
unfolding room first_table
lacks_room body groups t r = (forth, back)
  where
    forth : reading kind body (groups ∷ []) ≡ leaves (refuses 3 (t ∷ r ∷ [])) (groups ∷ [])
        → (t ≡ 8) × (k : ℕ) × (measuring kind body ≡ accepted (sized r k)) × (length groups / 5 < r)
    forth h =
        let (z, e, l) = (claims.more_room.no_room body (groups ∷ []) t r).0 h in
        let (n, q) = sized_so body z e in
        let (a, b, c) = low n groups (subst (λ (z : E.Sizes). Lowest z.tables (groups ∷ []) t r) q l) in
        (a, z.before, e ∙ ap accepted (q ∙ ap (λ (n : ℕ). sized n z.before) (sym b)), subst (λ (n : ℕ). length groups / 5 < n) (sym b) c)

    back : (t ≡ 8) × (k : ℕ) × (measuring kind body ≡ accepted (sized r k)) × (length groups / 5 < r)
        → reading kind body (groups ∷ []) ≡ leaves (refuses 3 (t ∷ r ∷ [])) (groups ∷ [])
    back (a, k, e, c) = (claims.more_room.no_room body (groups ∷ []) t r).1 (sized r k, e, subst (λ (t : ℕ). Lowest (needed r) (groups ∷ []) t r) (sym a) (this c))

-- of a table that was read: its rows are the groups, each either in the main stream or with a location, and not both
abbrev pub Once : List ℕ → Type 0
Once r = get_or r 1 0 + get_or r 2 0 ≡ 1

group_once : (at : ℕ) (r bs : List ℕ) → Takes (flat 5 group) at r bs → Once r
unfolding Rust.group Rust.auxiliary
group_once at r bs d =
    let u = takes_split {B = List ℕ} u8 _ (subst (λ (p : Prog (List ℕ)). Takes p at r bs) group_so d) in
    let v = part 0 1 u.value in
    let (a, e, z) = map_takes {B = List ℕ} (Rust.auxiliary (eqb v 1)) (λ a. part 1 7 u.value ∷ v ∷ a) u.second in
    subst Once e (go v (part_below 0 1 u.value) (eqb v 1) refl z)
  where
    go : (v : ℕ) → v < 2 → (b : Bool) → eqb v 1 ≡ b → {at : ℕ} {a bs : List ℕ} → Takes (Rust.auxiliary b) at a bs → v + get_or a 0 0 ≡ 1
    go v h true q z = omega (arith, eqb-true v 1 q, ap (λ (l : List ℕ). get_or l 0 0) (takes_ret z).0)
    go v h false q z = let w = eqb-false v 1 q in let (x, e, _) = map_takes {B = List ℕ} u8 (λ x. 1 ∷ part 7 1 x ∷ part 0 7 x ∷ []) z in omega (arith, h, w, ap (λ (l : List ℕ). get_or l 0 0) e)

record Counted (t : MultiStream) : Type 0 where
  count : get_or t.0 5 0 ≡ length t.1.0
  wide : Every (Wide 5) t.1.0
  once : Every Once t.1.0

counted : (body : List ℕ) {t : MultiStream} {k : ℕ} → run kind.program body 0 ≡ done t k → Counted t
counted body {t} e = let r = body_run body e in subst Counted (sym r.is) (go (eqb (part 7 1 (get_or body 0 0)) 1) r.part_of r.reads)
  where
    go : (b : Bool) (m : Main) {k : ℕ} → run (main_part b) body 1 ≡ done m k → Counted (Rust.stream_of (get_or body 0 0) m)
    go false m d = subst (λ (m : Main). Counted (Rust.stream_of (get_or body 0 0) m)) (sym (main_aside body 1 d)) (record { count = refl; wide = all_nil; once = all_nil })
    go true m d =
        let w = main_there body 1 d in
        let l = many_takes (flat 5 group) (length w.rows) (run_takes (groups (length w.rows)) body 3 w.reads (omega (arith, w.inside))) in
        subst (λ (m : Main). Counted (Rust.stream_of (get_or body 0 0) m)) (sym w.is)
        (record { count = sym w.count; wide = listed_every (flat 5 group) (Wide 5) (flat_grows 5 group) l; once = listed_every (flat 5 group) Once group_once l })

pub read_table : (body groups groups' : List ℕ) (m : MpegH3dAudioMultiStream) → reading kind body (groups ∷ []) ≡ leaves (accepted m) (groups' ∷ [])
    → Every Once (each (λ i. row 5 (at 5 groups' i)) 0 m.main.part.groups)
unfolding kind filled tables first_table other_tables with_place each
read_table body groups groups' m e =
    let w = was kind body (groups ∷ []) m (groups' ∷ []) e in
    let t = w.sound.tree in
    let c = counted body (ran_well kind body w.sound w.judges).reads in
    let l = t.1.0 in
    let behind = drop (length (flatten l)) groups in
    let r : Every Once (each (λ i. row 5 (at 5 (flatten l ++ behind) i)) 0 (length l)) = subst (Every Once) (sym (found 5 l c.wide behind)) c.once in
    let a : flatten l ++ behind ≡ groups' = ap (λ (l : Lent). first_table l) w.after_is in
    let n : length l ≡ m.main.part.groups = sym c.count ∙ ap (λ (m : MpegH3dAudioMultiStream). m.main.part.groups) w.top_is in
    subst (λ (n : ℕ). Every Once (each (λ i. row 5 (at 5 groups' i)) 0 n)) n (subst (λ (x : List ℕ). Every Once (each (λ i. row 5 (at 5 x i)) 0 (length l))) a r)

-- the columns of a main part that is absent are not read
abbrev without : ℕ → MultiStreamMain → Payload → MpegH3dAudioMultiStream
without id p r = record { this_stream_id = id; main = record { present = false; part = p }; trailing = r }

pub absent_part : (id : ℕ) (p p' : MultiStreamMain) (r : Payload) (groups store out : List ℕ)
    → writing kind (without id p r) (groups ∷ []) store out ≡ writing kind (without id p' r) (groups ∷ []) store out
unfolding kind heeds heeded_rows layouts cells shown head flatten has each
absent_part id p p' r groups store out =
    claims.writing.unread (without id p r) (without id p' r) (groups ∷ []) (groups ∷ []) store out refl (rows_agree refl (λ i. refl) none_read)

-- ---- the promises fix the answers themselves

measure_of : E.Sizes → Sizes
measure_of z = record { groups = rows_at 0 z.tables; k = z.before }

measured_back : (s : Sizes) → measure_of (sized s.groups s.k) ≡ s
unfolding measure_of
measured_back s = refl

pub fixed : Fixed kind answer_of measured
fixed = results_fixed claims (λ s. sized s.groups s.k) measure_of measured_back
