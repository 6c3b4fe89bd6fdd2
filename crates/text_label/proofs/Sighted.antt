-- What is known of a body that was measured: its sizes, its record, its tally, and that filling tables 6 and 7 gives the rows of the tree.
use Rattle.std.specs.Prelude.{Ok, Err}
use Prim.Native.Nat.{ℕ, ◌+◌, ◌*◌, ◌/◌, ◌≤◌, ◌<◌}
use mathlib.Core.Path.{◌≡◌, refl, sym, ap, subst, ◌∙◌}
use mathlib.Core.List.{List, [], ◌∷◌, ◌++◌, flatten, flat_map}
use mathlib.Core.Bool.{Bool, true, false}
use mathlib.Core.Option.{none}
use native.Mathlib.Omega.{arith}
use lib.ListN.{length, get_or, drop}
use lib.Seq.{sets}
use lib.Dec.{leb, eqb}
use borrow.Author.Tests.{eqb-true, leb-true, le-leb, lt-leb}
use Rattle.wire.specs.Lists.{Every, all_cons, each, sum, firsts}
use Rattle.wire.specs.Bits.{part, zeros, total}
use Rattle.wire.specs.Prog.{ret, done, short, run, many, ◌>>=◌}
use Rattle.wire.specs.Reads.{map_out, is_done, Summed}
use Rattle.wire.specs.Straight.{ends, ones}
use Rattle.wire.specs.Layout.{shown, cells, tally}
use Rattle.wire.specs.Nest.{Fillable, Nests}
use Rattle.wire.specs.declared.rows.Payload.{Payload}
use Rattle.wire.specs.declared.reads.Short.{Short}
use Rattle.wire.proofs.Tables.{flat_map_lem}
use Rattle.wire.proofs.Fields.{part_below}
use Rattle.wire.proofs.Reading.Walk.{step, run_ret, as_done}
use Rattle.wire.proofs.Reading.Takes.{run_takes}
use Rattle.wire.proofs.Reading.Loops.{none_left}
use Rattle.wire.proofs.Writing.Acts.{and_both}
use Rattle.wire.proofs.Layouts.Straight.{ends_few}
use Rattle.wire.proofs.Layouts.Rowed.{Wide}
use Rattle.wire.proofs.Lists.{flat_rows}
use Rattle.wire.proofs.Layouts.Fronts.{front}
use Rattle.frame.specs.declared.Lack.{Lack}
use Rattle.frame.specs.Numbers.{accepted}
use Rattle.frame.specs.Entry.{too_short, no_room, onto, Sizes, needs, room, first_table, other_tables, lacking, filled, sizes, tail, Measures, Tallies, Reads}
use Rattle.frame.specs.Sight.{Room, Enough, and_table, and_tables, Tops, Roomy, Fills}
use Rattle.frame.specs.Kind.{Lent}
use Rattle.frame.specs.Body as B
use Rattle.frame.specs.Body.{layouts, with_place, tables}
use Rattle.frame.specs.Ranges.{ranged_row}
use Rattle.frame.proofs.Lawful.{Shaped}
use Rattle.frame.proofs.Tables.{rows_at, has_table, enough, reads_lowest}
use Rattle.frame.proofs.MoreRoom.{none_fit, fit_head}
use Rattle.frame.proofs.Entries.{measures_done, measures_cut, tallies, Known, known, tops_known, fills_known, roomy, reads_filled}
use Rattle.text_label.specs.declared.Sizes as D
use Rattle.text_label.specs.declared.rows.MpegH3dAudioTextLabel.{MpegH3dAudioTextLabel}
use Rattle.text_label.specs.Layout.{head}
use Rattle.text_label.specs.Rows.{Language, TextLabel}
use Rattle.text_label.specs.Read.{language}
use Rattle.text_label.specs.Kind.{lists, entries_of, language_rows, pieces, kind}
use Rattle.text_label.specs.Contract.{needed, sized, is_bare, row_from}
use Rattle.text_label.proofs.Lawful.{lawful}
use Rattle.text_label.proofs.Parsed as P
use Rattle.text_label.proofs.Parsed.{entries_summed, second_there, body_is, size_of, rows_in, BodyRun, body_run}
use Rattle.text_label.proofs.Filled.{cells as columnsIn}
use Rattle.text_label.proofs.Found.{rows_from, rows_counted, rows_wide}

sizes_are : (t : TextLabel) (k : ℕ) → sizes kind (record { tree = t; before = k }) ≡ sized (length t.1.0) (rows_in t) k
unfolding sizes kind tables needs
sizes_are t k = λ i. sized (rows_counted t.1.0 i) (rows_in t) k

-- ---- measured

module _ (body : List ℕ) (h : length body ≤ 65535) {n k : ℕ} (w : Summed kind.program rows_in 5715 body 0 (Ok (n, k))) where
  ran_done : (t : TextLabel) × (run kind.program body 0 ≡ done t k) × (rows_in t ≡ n)
  ran_done = as_done rows_in (run kind.program body 0) (sym w.is)

  pub head_there : 2 ≤ length body
  head_there = (body_run body ran_done.1).inside

  pub rows_few : n < 65536
  rows_few = omega (arith, w.small)

  pub measured_so : {count : ℕ} → count ≡ part 0 4 (get_or body 1 0) → Measures kind body (accepted (sized count n k))
  measured_so c =
      let (t, d, q) = ran_done in
      let z = sizes_are t k ∙ (λ i. sized (((body_run body d).counted ∙ sym c) i) (q i) k) in
      subst (λ (z : Sizes). Measures kind body (accepted z)) z (measures_done kind body h d)

pub measured_short : (body : List ℕ) → length body ≤ 65535 → {x : Short} → Summed kind.program rows_in 5715 body 0 (Err x) → Measures kind body (too_short x)
measured_short body h w = measures_cut kind rows_in body h w.is

-- ---- without languages

pub long_not_bare : (body : List ℕ) → 65535 < length body → false ≡ is_bare body
long_not_bare body h = rw (lt-leb (length body) 65535 h) refl

module _ (body : List ℕ) (h : length body ≤ 65535) where
  pub cut_not_bare : {x : Short} → short x ≡ ends (ones 2) body 0 → false ≡ is_bare body
  unfolding ones total
  cut_not_bare e = rw (le-leb (length body) 65535 h, lt-leb 2 (length body) (omega (arith, ends_few (ones 2) body 0 (sym e)))) refl

  pub bare_so : {n count : ℕ} → done tt n ≡ ends (ones 2) body 0 → count ≡ part 0 4 (get_or body 1 0) → eqb count 0 ≡ is_bare body
  bare_so {count = count} e c = rw (le-leb (length body) 65535 h, le-leb 2 (length body) (second_there body e)) (ap (λ (n : ℕ). eqb n 0) c)

bare_measured : (body : List ℕ) → is_bare body ≡ true → Measures kind body (accepted (sized 0 0 2))
unfolding flat_map ◌>>=◌
bare_measured body q =
    let (a, q') = and_both (leb (length body) 65535) _ q in
    let (b, d) = and_both (leb 2 (length body)) _ q' in
    let z : part 0 4 (get_or body 1 0) ≡ 0 = eqb-true (part 0 4 (get_or body 1 0)) 0 d in
    let w = P.head_there body (leb-true 2 (length body) b) in
    let r : run kind.program body 0 ≡ done (body_is (get_or body 0 0) (get_or body 1 0) []) 2 =
    w.same
    ∙ step (many (part 0 4 (get_or body 1 0)) language) (λ l. ret (body_is (get_or body 0 0) (get_or body 1 0) l)) body 2
    (sym (ap (λ (k : ℕ). run (many k language) body 2) z ∙ none_left language body 0 2 (omega arith)))
    ∙ run_ret (body_is (get_or body 0 0) (get_or body 1 0) []) body 2 in
    subst (λ (z : Sizes). Measures kind body (accepted z)) (sizes_are (body_is (get_or body 0 0) (get_or body 1 0) []) 2)
    (measures_done kind body (leb-true (length body) 65535 a) r)

-- ---- the room of both tables

module _ (l n : ℕ) (t u : List ℕ) {a : Room} (d : a ≡ and_table Enough (record { number = 6; columns = 12; rows = l }) t) where
  room_so : {r : Room} → r ≡ and_table a (record { number = 7; columns = 4; rows = n }) u → r ≡ and_tables Enough (needed l n) (t ∷ u ∷ [])
  unfolding and_tables first_table other_tables
  room_so e = e ∙ ap (λ (a : Room). and_table a (record { number = 7; columns = 4; rows = n }) u) d

  has_room : Enough ≡ and_table a (record { number = 7; columns = 4; rows = n }) u → lacking (needed l n) (t ∷ u ∷ []) ≡ none
  has_room e = enough (needed l n) (t ∷ u ∷ []) (sym (room_so e))

-- ---- a body that was measured: its languages stand behind the second byte

module _ (body : List ℕ) {l n k : ℕ} (m : Measures kind body (accepted (sized l n k))) where
  knows : Known kind body (sized l n k)
  knows = known kind body m

  runs : BodyRun body knows.sound.tree knows.sound.before
  runs = body_run body knows.ran.reads

  abbrev ls : List Language
  ls = knows.sound.tree.1.0

  sized_so : sized (length ls) (rows_in knows.sound.tree) knows.sound.before ≡ sized l n k
  sized_so = sym (sizes_are knows.sound.tree knows.sound.before) ∙ knows.size_is

  count_is : length ls ≡ l
  count_is = ap (λ (z : Sizes). rows_at 0 z.tables) sized_so

  rows_are : length (flat_map entries_of ls) ≡ n
  rows_are = ap (λ (z : Sizes). rows_at 1 z.tables) sized_so

  languages_read : run (many l language) body 2 ≡ done ls knows.sound.before
  languages_read = ap (λ (n : ℕ). run (many n language) body 2) (sym count_is) ∙ runs.reads

  pub two_measured : 2 ≤ length body
  two_measured = runs.inside

  tops_are : {a b : ℕ} {p : Payload} → a ≡ part 0 8 (get_or body 0 0) → b ≡ part 4 4 (get_or body 1 0) → p ≡ tail k body
      → Tops kind body (record { scene_info_id = a; reserved = b; languages = l; trailing = p })
  unfolding kind with_place each
  tops_are e f g =
      let q : (j : ℕ) → get_or (part 0 8 (get_or body 0 0) ∷ part 4 4 (get_or body 1 0) ∷ part 0 4 (get_or body 1 0) ∷ []) j 0 ≡ get_or knows.sound.tree.0 j 0 = λ j. ap (λ (r : List ℕ). get_or r j 0) (sym runs.is) in
      tops_known kind knows (λ i. record { scene_info_id = (e ∙ q 0) i; reserved = (f ∙ q 1) i; languages = (sym count_is ∙ runs.counted ∙ q 2) i; trailing = g i })

  pub top_of_two : {a b x y : ℕ} {p : Payload} → y ≡ get_or body 1 0 → x ≡ get_or body 0 0 → a ≡ part 0 8 x → b ≡ part 4 4 y → p ≡ tail k body
      → Tops kind body (record { scene_info_id = a; reserved = b; languages = l; trailing = p })
  top_of_two d e f g h = tops_are (f ∙ ap (part 0 8) e) (g ∙ ap (part 4 4) d) h

  -- ---- its tally

  pub whole_body : length body < 65536
  whole_body = let b = knows.ran.within in omega (arith, b)

  pub languages_done : is_done (run (many l language) body 2) ≡ true
  languages_done = ap is_done languages_read

  pub count_few : l < 16
  count_few = omega (arith, count_is, runs.counted, part_below 0 4 (get_or body 1 0))

  pub tallies_are : {y b before z : ℕ} → y ≡ get_or body 1 0 → b ≡ part 4 4 y → before ≡ zeros 4 b → {next : ℕ}
      → done z next ≡ map_out (sum language_rows.zeros) (run (many l language) body 2) → Tallies kind body (accepted (before + z))
  unfolding kind B.zeros layouts tally cells shown head sum flatten onto
  tallies_are {z = z} w b e {next} f =
      let v : get_or knows.sound.tree.0 1 0 ≡ part 4 4 (get_or body 1 0) = ap (λ (r : List ℕ). get_or r 1 0) runs.is in
      let y = e ∙ ap (zeros 4) (b ∙ ap (part 4 4) w ∙ sym v) in
      let d : done z next ≡ done (sum language_rows.zeros ls) knows.sound.before = f ∙ ap (map_out (sum language_rows.zeros)) languages_read in
      let x : z ≡ sum language_rows.zeros ls = cc d in
      subst (λ (n : ℕ). Tallies kind body (accepted n)) (omega (arith, x, y)) (tallies kind body {j = accepted knows.sound} (sym knows.judges))

  -- ---- its rows in both tables

  module _ (t u : List ℕ) (r : Roomy kind body (t ∷ u ∷ [])) where
    both_fit : (l * 12 ≤ length t) × (n * 4 ≤ length u)
    unfolding kind sizes room first_table other_tables
    both_fit =
        let e : lacking (needed l n) (t ∷ u ∷ []) ≡ none = ap (λ (z : Sizes). lacking z.tables (t ∷ u ∷ [])) (sym knows.size_is) ∙ r.room knows.sound knows.judges in
        let (a, f) = fit_head (none_fit (needed l n) (t ∷ u ∷ []) e) in
        let (b, _) = fit_head f in
        (omega (arith, a), omega (arith, b))

    pub languages_ask : Fillable (many l language) 4 (sum size_of) body 2 0 u
    languages_ask = record { value = ls; end = knows.sound.before; reads = languages_read; begun = two_measured; all = whole_body; before = omega arith; room = omega (arith, both_fit.1, rows_are, ap (λ (f : List Language → ℕ). f ls) entries_summed) }

    pub languages_room : 12 * l ≤ length t
    languages_room = omega (arith, both_fit.0)

    entries_wide : Every (Wide 4) (flat_map entries_of ls)
    unfolding kind tables
    entries_wide = go (lawful.shaped knows.sound.tree _ (run_takes kind.program body 0 knows.ran.reads (omega arith)))
      where
        go : Every Shaped (tables pieces knows.sound.tree.1) → Every (Wide 4) (flat_map entries_of ls)
        go (all_cons a (all_cons b c)) = b

    pub languages_filled : {t' u' : List ℕ} → Nests language size_of row_from columnsIn body 2 l t u t' u' → Fills kind body (t ∷ u ∷ []) (t' ∷ u' ∷ [])
    unfolding kind tables filled first_table other_tables
    languages_filled {t'} {u'} v =
        let z : done v.value v.end ≡ done ls knows.sound.before = sym v.reads ∙ languages_read in
        let e : v.value ≡ ls = cc z in
        let es = flat_map entries_of ls in
        let a : t' ≡ flatten (rows_from ls) ++ drop (length (flatten (rows_from ls))) t =
        v.outer ∙ ap (λ (l : List Language). sets t 0 (flat_map (ranged_row 12 lists) (firsts size_of 0 l))) e
        ∙ ap (sets t 0) (flat_map_lem (ranged_row 12 lists) (firsts size_of 0 ls))
        ∙ front 12 (rows_from ls) t (rows_wide ls) (omega (arith, both_fit.0, rows_counted ls, count_is))
        in
        let b : u' ≡ flatten es ++ drop (length (flatten es)) u =
        v.inner ∙ ap (λ (l : List Language). sets u 0 (flat_map columnsIn l)) e ∙ ap (sets u 0) (flat_rows entries_of ls)
        ∙ front 4 es u entries_wide (omega (arith, both_fit.1, rows_are)) in
        fills_known kind knows (λ i. a i ∷ b i ∷ [])

-- ---- without languages no room is asked, and the tables stay

bare_room : (t u : List ℕ) → lacking (needed 0 0) (t ∷ u ∷ []) ≡ none
bare_room t u = has_room 0 0 t u (has_table _ t refl (le-leb 0 (length t / 12) (omega arith))) (has_table _ u refl (le-leb 0 (length u / 4) (omega arith)))

bare_fills : (body : List ℕ) → Measures kind body (accepted (sized 0 0 2)) → (t u : List ℕ) → Fills kind body (t ∷ u ∷ []) (t ∷ u ∷ [])
unfolding kind tables filled first_table other_tables flatten firsts flat_map
bare_fills body m t u = fills_known kind (knows body m) (go (knows body m).sound.tree.1.0 (count_is body m))
  where
    go : (ls : List Language) → length ls ≡ 0 → t ∷ u ∷ [] ≡ filled (tables pieces (ls, tt)) (t ∷ u ∷ [])
    go [] e = refl
    go (l ∷ ls) e = absurd (omega arith)

module _ {body : List ℕ} {r : Bool} (b : r ≡ is_bare body) (e : r ≡ true) where
  pub bare_sizes : Measures kind body (accepted (sized 0 0 2))
  bare_sizes = bare_measured body (sym b ∙ e)

  pub bare_reads : {p : MpegH3dAudioTextLabel} → Tops kind body p → (t u : List ℕ) → Reads kind body (t ∷ u ∷ []) (accepted p) (t ∷ u ∷ [])
  bare_reads p t u = reads_filled kind body bare_sizes (t ∷ u ∷ []) (t ∷ u ∷ []) (bare_room t u) (bare_fills body bare_sizes t u) p

-- ---- read: a body that was measured, and the room of both tables

module _ {body : List ℕ} {s : D.Sizes} (m : Measures kind body (accepted (sized s.languages s.entries s.k))) {t u : List ℕ} {a : Room}
    (d : a ≡ and_table Enough (record { number = 6; columns = 12; rows = s.languages }) t) where
  pub lacks_room : {x : Lack} → Err x ≡ and_table a (record { number = 7; columns = 4; rows = s.entries }) u → Reads kind body (t ∷ u ∷ []) (no_room x.table x.rows) (t ∷ u ∷ [])
  lacks_room f = reads_lowest kind body m (t ∷ u ∷ []) (room_so _ _ t u d f)

  module _ (f : Enough ≡ and_table a (record { number = 7; columns = 4; rows = s.entries }) u) where
    pub both_roomy : Roomy kind body (t ∷ u ∷ [])
    both_roomy = roomy kind body m (t ∷ u ∷ []) (has_room _ _ t u d f)

    pub well_read : {after : Lent} → Fills kind body (t ∷ u ∷ []) after → {p : MpegH3dAudioTextLabel} → Tops kind body p → Reads kind body (t ∷ u ∷ []) (accepted p) after
    well_read {after} w p = reads_filled kind body m (t ∷ u ∷ []) after (has_room _ _ t u d f) w p
