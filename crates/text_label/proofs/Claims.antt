-- What is claimed of the text label body: every claim of every kind (frame, specs/Claims), and the few that matter most spelled out for its record and tables 6 and 7.
use Prim.Native.Nat.{ℕ, ◌+◌, ◌*◌, ◌/◌, ◌≤◌, ◌<◌}
use mathlib.Core.Path.{◌≡◌, refl, sym, ap, subst, ◌∙◌}
use mathlib.Core.List.{List, [], ◌∷◌, ◌++◌, map, flatten, flat_map}
use mathlib.Core.Logic.{◌↔◌}
use native.Mathlib.Omega.{arith}
use native.Mathlib.Nat.{add-zero, zero-add}
use lib.ListN.{length, get_or, drop, length-append}
use lib.Dec.{lit<}
use lib.Count.{ones, ones_in}
use Rattle.wire.specs.Lists.{Every, all_nil, all_cons, each, sum, firsts, Byte}
use Rattle.wire.specs.Bits.{split, total}
use Rattle.wire.specs.Prog.{run, u8, pass, many, ◌>>=◌}
use Rattle.wire.specs.Layout.{reads, put, puts, shown, cells, tally}
use Rattle.wire.proofs.Lists.{every_each}
use Rattle.frame.specs.Kind.{Lent}
use Rattle.frame.specs.Numbers.{accepted, refuses, answer_of}
use Rattle.frame.specs.Entry.{leaves, onto, into, Need, needs, lacking, room, first_table, other_tables, filled, judging, sizes, placing, reading, measuring, tallying, gives, trail, writing}
use Rattle.frame.specs.Entry as E
use Rattle.frame.specs.Body.{layouts, parse, with_place, tables, zeros}
use Rattle.frame.specs.Ranges.{ranged, ranged_row}
use Rattle.frame.specs.Claims.{Lowest, this, later, Claims, Fixed}
use Rattle.frame.proofs.Numbers.{results_fixed}
use Rattle.frame.proofs.Judged.{was, ran_well, measured as was-measured}
use Rattle.frame.proofs.Lawful.{Samples}
use Rattle.frame.proofs.Tables.{rows_at}
use Rattle.frame.proofs.Proofs as P
use Rattle.text_label.specs.declared.rows.TextLabelLanguage.{TextLabelLanguage}
use Rattle.text_label.specs.declared.rows.MpegH3dAudioTextLabel.{MpegH3dAudioTextLabel}
use Rattle.text_label.specs.declared.Sizes.{Sizes}
use Rattle.text_label.specs.Layout.{head, groups, switch_group_list, presets}
use Rattle.text_label.specs.Rows.{language_of, Language}
use Rattle.text_label.specs.Kind.{lists, entries_of, kind}
use Rattle.text_label.specs.Contract.{needed, sized, measured, language_from}
use Rattle.text_label.proofs.Bodies.{one_preset, english, preset2, no_languages}
use Rattle.text_label.proofs.Lawful.{lawful}
use Rattle.text_label.proofs.Parsed.{entries_long, body_run}
use Rattle.text_label.proofs.Found.{Counted, all_counted, rows_from, rows_counted, languages_found}

samples : Samples kind
unfolding reading into judging placing run measuring onto sizes tallying kind parse reads put puts split total ◌>>=◌ many u8 pass head groups switch_group_list presets tables zeros tally shown sum ones ones_in needs lacking room first_table other_tables filled flatten flat_map firsts each cells with_place layouts ranged
samples = record {
  lent = (9 ∷ 9 ∷ 9 ∷ 9 ∷ 9 ∷ 9 ∷ 9 ∷ 9 ∷ 9 ∷ 9 ∷ 9 ∷ 9 ∷ 9 ∷ []) ∷ (9 ∷ 9 ∷ 9 ∷ 9 ∷ 9 ∷ []) ∷ [];
  one = 0x07 ∷ 0xF1 ∷ 0x65 ∷ 0x6E ∷ 0x67 ∷ 0x80 ∷ 0xE0 ∷ 0xE1 ∷ 0xE2 ∷ 0x02 ∷ 0x48 ∷ 0x69 ∷ [];
  other = 0x07 ∷ 0x00 ∷ [];
  top = one_preset;
  top' = no_languages;
  after = english (9 ∷ []) ∷ preset2 (9 ∷ []) ∷ [];
  after' = (9 ∷ 9 ∷ 9 ∷ 9 ∷ 9 ∷ 9 ∷ 9 ∷ 9 ∷ 9 ∷ 9 ∷ 9 ∷ 9 ∷ 9 ∷ []) ∷ (9 ∷ 9 ∷ 9 ∷ 9 ∷ 9 ∷ []) ∷ [];
  reads = refl;
  reads' = refl;
  tops_differ = λ e. let z : ◌≡◌ {A = ℕ} 1 0 = ap (λ (t : MpegH3dAudioTextLabel). t.languages) e in omega arith;
  size = sized 1 1 12;
  size' = sized 0 0 2;
  measures = refl;
  measures' = refl;
  sizes_differ = λ e. let z : ◌≡◌ {A = ℕ} 12 2 = ap (λ (s : E.Sizes). s.before) e in omega arith;
  count = 0;
  count' = 4;
  tallies = refl;
  tallies' = refl;
  counts_differ = λ e. omega arith;
  bytes = every_each Byte (0x07 ∷ 0xF1 ∷ 0x65 ∷ 0x6E ∷ 0x67 ∷ 0x80 ∷ 0xE0 ∷ 0xE1 ∷ 0xE2 ∷ 0x02 ∷ 0x48 ∷ 0x69 ∷ [])
      (lit< tt, (lit< tt, (lit< tt, (lit< tt, (lit< tt, (lit< tt, (lit< tt, (lit< tt, (lit< tt, (lit< tt, (lit< tt, (lit< tt, tt))))))))))));
  blank = 0 ∷ 0 ∷ 0 ∷ 0 ∷ 0 ∷ 0 ∷ 0 ∷ 0 ∷ 0 ∷ 0 ∷ 0 ∷ 0 ∷ [];
  as_long = refl;
  not_blank = λ e. let z : ◌≡◌ {A = ℕ} 7 0 = ap (λ (l : List ℕ). get_or l 0 0) e in omega arith;
}

pub claims : Claims kind
claims = P.claims kind lawful samples

-- ---- spelled out for this record and tables 6 and 7

-- what is read writes back the same bytes, at the front of the output and nowhere else
pub same_bytes : (body languages entries languages' entries' out : List ℕ) (m : MpegH3dAudioTextLabel) → Every Byte body
    → reading kind body (languages ∷ entries ∷ []) ≡ leaves (accepted m) (languages' ∷ entries' ∷ []) → length body ≤ length out
    → writing kind m (languages' ∷ entries' ∷ []) body out ≡ gives (accepted (length body)) (body ++ drop (length body) out)
same_bytes body languages entries languages' entries' out m b e l = claims.round.writes_what_is_read body (languages ∷ entries ∷ []) m (languages' ∷ entries' ∷ []) out b e l

-- two bodies that agree in the Rust's structs, labels by their bytes, and in the trailing bytes are one body
pub one_body : (body body' : List ℕ) (lent lent' after after' : Lent) (m m' : MpegH3dAudioTextLabel) → Every Byte body → Every Byte body'
    → reading kind body lent ≡ leaves (accepted m) after → reading kind body' lent' ≡ leaves (accepted m') after'
    → kind.value m after body ≡ kind.value m' after' body' → trail kind m body ≡ trail kind m' body' → body ≡ body'
unfolding kind
one_body body body' lent lent' after after' m m' b b' e e' v t =
    claims.round.apart body body' lent lent' m m' after after' b b' e e' (λ i. record { value = v i; trailing = t i })

-- 3 is given exactly if the body is otherwise accepted and a table has fewer rows than it needs; it names table 6 if that is short, else table 7, and the rows
pub data Lacks (languages entries : List ℕ) (l n : ℕ) : ℕ → ℕ → Type 0 where
  in_languages : length languages / 12 < l → Lacks languages entries l n 6 l
  in_entries : l ≤ length languages / 12 → length entries / 4 < n → Lacks languages entries l n 7 n

nothing : {ns : List Need} {lent : Lent} {t r : ℕ} → Lowest ns lent t r → ns ≡ [] → ⊥
nothing (this h) e = let z : ◌≡◌ {A = ℕ} 0 1 = cc e in omega arith
nothing (later h d) e = let z : ◌≡◌ {A = ℕ} 0 1 = cc e in omega arith

abbrev need7 : ℕ → Need
need7 n = record { number = 7; columns = 4; rows = n }

low_entries : (languages entries : List ℕ) (l n : ℕ) {t r : ℕ} → l ≤ length languages / 12 → Lowest (need7 n ∷ []) (entries ∷ []) t r → Lacks languages entries l n t r
unfolding room first_table
low_entries languages entries l n h (this k) = in_entries h k
low_entries languages entries l n h (later k d) = absurd (nothing d refl)

low : (languages entries : List ℕ) (l n : ℕ) {t r : ℕ} → Lowest (needed l n) (languages ∷ entries ∷ []) t r → Lacks languages entries l n t r
unfolding room first_table other_tables
low languages entries l n (this h) = in_languages h
low languages entries l n (later h d) = low_entries languages entries l n h d

lowest : (languages entries : List ℕ) (l n : ℕ) {t r : ℕ} → Lacks languages entries l n t r → Lowest (needed l n) (languages ∷ entries ∷ []) t r
unfolding room first_table other_tables
lowest languages entries l n (in_languages h) = this h
lowest languages entries l n (in_entries h k) = later h (this k)

sized_so : (body : List ℕ) (z : E.Sizes) → measuring kind body ≡ accepted z → (l : ℕ) × (n : ℕ) × (z ≡ sized l n z.before)
unfolding sizes kind tables needs
sized_so body z e =
    let (s, j, q) = was-measured kind body z e in
    let ls = s.tree.1.0 in
    let l = length (map (ranged_row 12 lists) (firsts (λ (l : Language). length (entries_of l)) 0 ls)) in
    let n = length (flat_map entries_of ls) in
    (l, n, sym (subst (λ (z : E.Sizes). sized l n z.before ≡ z) q refl))

pub lacks_room : (body languages entries : List ℕ) (t r : ℕ)
    → (reading kind body (languages ∷ entries ∷ []) ≡ leaves (refuses 3 (t ∷ r ∷ [])) (languages ∷ entries ∷ [])) ↔
    ((l : ℕ) × (n : ℕ) × (k : ℕ) × (measuring kind body ≡ accepted (sized l n k)) × Lacks languages entries l n t r)
lacks_room body languages entries t r = (forth, back)
  where
    forth : reading kind body (languages ∷ entries ∷ []) ≡ leaves (refuses 3 (t ∷ r ∷ [])) (languages ∷ entries ∷ [])
        → (l : ℕ) × (n : ℕ) × (k : ℕ) × (measuring kind body ≡ accepted (sized l n k)) × Lacks languages entries l n t r
    forth h =
        let (z, e, d) = (claims.more_room.no_room body (languages ∷ entries ∷ []) t r).0 h in
        let (l, n, q) = sized_so body z e in
        (l, n, z.before, e ∙ ap accepted q, low languages entries l n (subst (λ (z : E.Sizes). Lowest z.tables (languages ∷ entries ∷ []) t r) q d))

    back : (l : ℕ) × (n : ℕ) × (k : ℕ) × (measuring kind body ≡ accepted (sized l n k)) × Lacks languages entries l n t r
        → reading kind body (languages ∷ entries ∷ []) ≡ leaves (refuses 3 (t ∷ r ∷ [])) (languages ∷ entries ∷ [])
    back (l, n, k, e, d) = (claims.more_room.no_room body (languages ∷ entries ∷ []) t r).1 (sized l n k, e, lowest languages entries l n d)

-- the lists of languages stand one after the other: the first begins at row n, each begins where the one before ended, and the last ends at row m
pub data RunsOn : ℕ → List TextLabelLanguage → ℕ → Type 0 where
  ended : {n : ℕ} → RunsOn n [] n
  one_more : {n m : ℕ} {l : TextLabelLanguage} {ls : List TextLabelLanguage} → l.groups.entries.first ≡ n → l.switch_groups.entries.first ≡ n + l.groups.entries.count
      → l.presets.entries.first ≡ n + l.groups.entries.count + l.switch_groups.entries.count
      → RunsOn (n + l.groups.entries.count + l.switch_groups.entries.count + l.presets.entries.count) ls m → RunsOn n (l ∷ ls) m

abbrev languages_from : ℕ → List Language → List TextLabelLanguage
languages_from n ls = map (λ (q : ℕ × Language). language_from q.0 q.1) (firsts (λ l. length (entries_of l)) n ls)

-- the counts of a language that was read are those of its lists
runs_on : (n : ℕ) (ls : List Language) → Every Counted ls → RunsOn n (languages_from n ls) (n + length (flat_map entries_of ls))
unfolding firsts flat_map ranged each
runs_on n [] all_nil = rw add-zero ended
runs_on n (l ∷ ls) (all_cons c h) =
    let e : n + length (entries_of l) ≡ n + get_or l.0 5 0 + get_or l.0 8 0 + get_or l.0 11 0 = omega (arith, entries_long l, c.groups, c.switch_groups, c.presets) in
    let k : n + length (entries_of l) + length (flat_map entries_of ls) ≡ n + length (entries_of l ++ flat_map entries_of ls) =
    omega (arith, length-append (entries_of l) (flat_map entries_of ls)) in
    let r = subst (RunsOn (n + length (entries_of l)) (languages_from (n + length (entries_of l)) ls)) k (runs_on (n + length (entries_of l)) ls h) in
    one_more {l = language_from n l} refl (omega (arith, c.groups)) (omega (arith, c.groups, c.switch_groups))
    (subst (λ (i : ℕ). RunsOn i (languages_from (n + length (entries_of l)) ls) (n + length (entries_of l ++ flat_map entries_of ls))) e r)

-- of tables that were read: the rows of table 6 have their entries in table 7 from its front on, and none between; as many rows as measuring counts
pub read_tables : (body languages entries languages' entries' : List ℕ) (m : MpegH3dAudioTextLabel)
    → reading kind body (languages ∷ entries ∷ []) ≡ leaves (accepted m) (languages' ∷ entries' ∷ [])
    → (rows : ℕ) × (k : ℕ) × (measuring kind body ≡ accepted (sized m.languages rows k)) × RunsOn 0 (each (λ i. language_of languages' (i * 12)) 0 m.languages) rows
unfolding kind filled tables first_table other_tables measuring onto sizes needs with_place each
read_tables body languages entries languages' entries' m e =
    let w = was kind body (languages ∷ entries ∷ []) m (languages' ∷ entries' ∷ []) e in
    let ls = w.sound.tree.1.0 in
    let b = body_run body (ran_well kind body w.sound w.judges).reads in
    let count = length (flat_map entries_of ls) in
    let x = flatten (rows_from ls) in
    let n : length ls ≡ m.languages = b.counted ∙ sym (ap (λ (r : List ℕ). get_or r 2 0) b.is) ∙ ap (λ (m : MpegH3dAudioTextLabel). m.languages) w.top_is in
    let a : x ++ drop (length x) languages ≡ languages' = ap (λ (l : Lent). first_table l) w.after_is in
    let r : RunsOn 0 (languages_from 0 ls) count = subst (RunsOn 0 (languages_from 0 ls)) (zero-add count) (runs_on 0 ls (all_counted body b)) in
    let q : languages_from 0 ls ≡ each (λ i. language_of languages' (i * 12)) 0 (length ls) =
    sym (languages_found ls (drop (length x) languages)) ∙ ap (λ (t : List ℕ). each (λ i. language_of t (i * 12)) 0 (length ls)) a in
    let z : measuring kind body ≡ accepted (sized (length ls) count w.sound.before) = ap (onto (sizes kind)) w.judges ∙ λ i. accepted (sized (rows_counted ls i) count w.sound.before) in (
      count,
      w.sound.before,
      subst (λ (c : ℕ). measuring kind body ≡ accepted (sized c count w.sound.before)) n z,
      subst (λ (c : ℕ). RunsOn 0 (each (λ i. language_of languages' (i * 12)) 0 c) count) n (subst (λ (l : List TextLabelLanguage). RunsOn 0 l count) q r),
    )

-- ---- the promises fix the answers themselves

measure_of : E.Sizes → Sizes
measure_of z = record { languages = rows_at 0 z.tables; entries = rows_at 1 z.tables; k = z.before }

measured_back : (s : Sizes) → measure_of (sized s.languages s.entries s.k) ≡ s
unfolding measure_of
measured_back s = refl

pub fixed : Fixed kind answer_of measured
fixed = results_fixed claims (λ s. sized s.languages s.entries s.k) measure_of measured_back
