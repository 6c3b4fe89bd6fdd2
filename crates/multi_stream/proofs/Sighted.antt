-- What is known of a body that was measured: its sizes, its record, its tally, and that filling table 8 gives the rows of the tree.
use Prim.Native.Nat.{ℕ, ◌+◌, ◌/◌, ◌≤◌, ◌<◌}
use mathlib.Core.Path.{◌≡◌, refl, sym, ap, ◌∙◌}
use mathlib.Core.List.{List, [], ◌∷◌, ◌++◌, flatten, flat_map}
use mathlib.Core.Bool.{Bool, true, false}
use mathlib.Core.Option.{none}
use native.Mathlib.Omega.{arith}
use lib.ListN.{length, get_or, drop}
use lib.Dec.{eqb}
use lib.Seq.{sets}
use Rattle.wire.specs.Lists.{Every, all_nil, all_cons, each, sum}
use Rattle.wire.specs.Bits.{part, zeros}
use Rattle.wire.specs.Prog.{done, run}
use Rattle.wire.specs.Reads.{map_out, is_done, rows_of}
use Rattle.wire.specs.Act.{pick}
use Rattle.wire.specs.declared.rows.Payload.{Payload}
use Rattle.wire.specs.Layout.{Cell, num, reserved, flag, column, idle, Columns, of, shown, cells, tally}
use Rattle.wire.proofs.Layouts.Rowed.{Wide}
use Rattle.wire.proofs.Layouts.Fronts.{flat_front}
use Rattle.frame.specs.Numbers.{accepted}
use Rattle.frame.specs.Entry.{needs, room, first_table, other_tables, lacking, filled, sizes, tail, Measures}
use Rattle.frame.specs.Sight.{Room, Enough, and_table, and_tables, Tops, Fills}
use Rattle.frame.specs.Body as B
use Rattle.frame.specs.Body.{layouts, with_place, tables}
use Rattle.frame.proofs.Lawful.{Shaped}
use Rattle.frame.proofs.Tables.{enough}
use Rattle.frame.proofs.MoreRoom.{none_fit, fit_head, shapes}
use Rattle.frame.proofs.Entries.{first_rows, Known, known, tops_known, fills_known}
use Rattle.stream_groups.specs.Layout.{group}
use Rattle.multi_stream.specs.declared.rows.MainStream.{MainStream}
use Rattle.multi_stream.specs.Layout.{head}
use Rattle.multi_stream.specs.Rows.{main_columns, MultiStream}
use Rattle.multi_stream.specs.Read.{Main}
use Rattle.multi_stream.specs.Kind.{pieces, kind}
use Rattle.multi_stream.specs.Contract.{needed, sized, zeros_of}
use Rattle.multi_stream.proofs.Lawful.{lawful}
use Rattle.multi_stream.proofs.Parsed.{groups, main_part, body_run, Groups, groups_run}

pub sizes_are : (t : MultiStream) (k : ℕ) → sizes kind (record { tree = t; before = k }) ≡ sized (length t.1.0) k
unfolding sizes kind tables needs
sizes_are t k = refl

-- ---- the room of table 8

module _ (n : ℕ) (t : List ℕ) where
  pub room_so : {r : Room} → r ≡ and_table Enough (record { number = 8; columns = 5; rows = n }) t → r ≡ and_tables Enough (needed n) (t ∷ [])
  unfolding and_tables first_table
  room_so e = e

  pub has_room : Enough ≡ and_table Enough (record { number = 8; columns = 5; rows = n }) t → (lacking (needed n) (t ∷ []) ≡ none) × (n ≤ length t / 5)
  unfolding room first_table
  has_room e = let h = enough (needed n) (t ∷ []) (sym (room_so e)) in (h, (fit_head (none_fit (needed n) (t ∷ []) h)).0)

-- ---- the reserved bits: those of the record alone

top_tally : (g : Columns) → tally (layouts pieces) g ≡ pick (eqb (g 1) 1) (zeros 1 (g 2) + zeros 1 (g 4)) 0
unfolding layouts tally cells shown head sum flatten
top_tally g = go (eqb (g 1) 1)
  where
    go : (a : Bool)
        → sum (λ (c : Cell). idle c (g (column c))) ((flag 1 ∷ num 7 0 ∷ (pick a (reserved 1 2 ∷ num 7 3 ∷ reserved 1 4 ∷ num 7 5 ∷ []) [] ++ [])) ++ []) ≡ pick a (zeros 1 (g 2) + zeros 1 (g 4)) 0
    go true = omega arith
    go false = refl

group_tally : (g : Columns) → tally (group ∷ []) g ≡ 0
unfolding tally cells shown group sum flatten
group_tally g = go (eqb (g 2) 1)
  where
    go : (a : Bool) → sum (λ (c : Cell). idle c (g (column c))) (num 7 0 ∷ flag 1 ∷ flag 2 ∷ (pick a (flag 3 ∷ num 7 4 ∷ []) [] ++ [])) ≡ 0
    go true = refl
    go false = refl

groups_tally_lem : (l : List (List ℕ)) → sum (λ r. tally (group ∷ []) (of r)) l ≡ 0
unfolding sum
groups_tally_lem [] = refl
groups_tally_lem (r ∷ l) = omega (arith, group_tally (of r), groups_tally_lem l)

pub zeros_are : (t : MultiStream) (p : Payload) → zeros_of (kind.top t p) ≡ kind.zeros t
unfolding kind with_place each B.zeros
zeros_are t p = omega (arith, top_tally (of t.0), groups_tally_lem t.1.0)

-- ---- a body that was measured: its groups stand behind the third byte

pub record Fillable (body : List ℕ) (count : ℕ) : Type 0 where
  pub inside : 3 ≤ length body
  pub sound : is_done (run (groups count) body 3) ≡ true

abbrev rows_of_table : List ℕ → ℕ → List (List ℕ)
rows_of_table body count = rows_of (run (groups count) body 3)

module _ (body : List ℕ) {n k : ℕ} (m : Measures kind body (accepted (sized n k))) where
  knows : Known kind body (sized n k)
  knows = known kind body m

  ran : run kind.program body 0 ≡ done knows.sound.tree knows.sound.before
  ran = knows.ran.reads

  rows : List (List ℕ)
  rows = knows.sound.tree.1.0

  count_is : length rows ≡ n
  unfolding rows
  count_is = ap first_rows (sym (sizes_are knows.sound.tree knows.sound.before) ∙ knows.size_is)

  stand : 0 < n → Groups body rows knows.sound.before
  unfolding rows
  stand h = groups_run body ran (omega (arith, h, count_is))

  pub fillable : 0 < n → Fillable body n
  fillable h = record { inside = (stand h).inside; sound = ap (λ (n : ℕ). is_done (run (groups n) body 3)) (sym count_is) ∙ ap is_done (stand h).reads }

  wide : Every (Wide 5) rows
  unfolding rows kind tables
  wide = go (shapes kind lawful body ran)
    where
      go : Every Shaped (tables pieces knows.sound.tree.1) → Every (Wide 5) knows.sound.tree.1.0
      go (all_cons h all_nil) = h

  filled_so : (t after : List ℕ) → after ≡ flatten rows ++ drop (length (flatten rows)) t → Fills kind body (t ∷ []) (after ∷ [])
  unfolding rows kind filled tables first_table other_tables
  filled_so t after e = fills_known kind knows (ap (λ (a : List ℕ). a ∷ []) e)

  pub filled_there : 0 < n → (t after : List ℕ) → n ≤ length t / 5 → after ≡ sets t 0 (flat_map (λ r. r) (rows_of_table body n)) → Fills kind body (t ∷ []) (after ∷ [])
  filled_there p t after h e =
      let r : run (groups n) body 3 ≡ done rows knows.sound.before = ap (λ (n : ℕ). run (groups n) body 3) (sym count_is) ∙ (stand p).reads in
      filled_so t after (flat_front 5 rows t e r wide (omega (arith, count_is, h)))

  pub filled_none : n ≤ 0 → (t : List ℕ) → Fills kind body (t ∷ []) (t ∷ [])
  unfolding flatten
  filled_none h t = filled_so t t (go rows (omega (arith, h, count_is)))
    where
      go : (l : List (List ℕ)) → length l ≡ 0 → t ≡ flatten l ++ drop (length (flatten l)) t
      go [] e = refl
      go (g ∷ l) e = absurd (omega arith)

  -- ---- its record

  pub main_sound : (0 < length body) × (is_done (run (main_part (eqb (part 7 1 (get_or body 0 0)) 1)) body 1) ≡ true)
  main_sound = let r = body_run body ran in (r.inside, ap is_done r.reads)

  pub tops_are : {id : ℕ} {m : MainStream} {p : Payload} → id ≡ part 0 7 (get_or body 0 0) → m.present ≡ eqb (part 7 1 (get_or body 0 0)) 1
      → (x : ℕ) → done (main_columns m) x ≡ map_out (λ m. m.columns) (run (main_part (eqb (part 7 1 (get_or body 0 0)) 1)) body 1) → p ≡ tail k body → Tops kind body (record { this_stream_id = id; main = m; trailing = p })
  unfolding kind with_place each
  tops_are {m = m} e h x f g =
      let r = body_run body ran in
      let z : done (main_columns m) x ≡ done r.part_of.columns knows.sound.before = f ∙ ap (map_out (λ (m : Main). m.columns)) r.reads in
      let v : main_columns m ≡ r.part_of.columns = cc z in
      let c : (j : ℕ) → get_or (main_columns m) j 0 ≡ get_or r.part_of.columns j 0 = λ j. ap (λ (l : List ℕ). get_or l j 0) v in
      let t = knows.sound.tree in
      let q : (j : ℕ) → get_or (part 0 7 (get_or body 0 0) ∷ part 7 1 (get_or body 0 0) ∷ r.part_of.columns) j 0 ≡ get_or t.0 j 0 = λ j. ap (λ (t : MultiStream). get_or t.0 j 0) (sym r.is) in
      tops_known kind knows (λ i. record {
        this_stream_id = (e ∙ q 0) i;
        main = record { present = (h ∙ ap (λ (v : ℕ). eqb v 1) (q 1)) i; part = record { reserved_aux = (c 0 ∙ q 2) i; num_auxiliary_streams = (c 1 ∙ q 3) i; reserved_groups = (c 2 ∙ q 4) i; groups = (c 3 ∙ q 5) i } };
        trailing = g i;
      })
