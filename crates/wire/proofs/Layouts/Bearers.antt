-- Rows that end with a payload, over any layout: how such a row is measured, filled and tallied, and what the two passes of writing do with it. A row is its head, a byte with
-- the length, and so many bytes.
use Prim.Native.Nat.{ℕ, ◌+◌, ◌≤◌, ◌<◌}
use mathlib.Core.Path.{◌≡◌, refl, sym, ap, subst, ◌∙◌}
use mathlib.Core.List.{List, [], ◌∷◌, ◌++◌, append_assoc, append-nil}
use mathlib.Core.Bool.{Bool, true, false, ◌&&◌}
use native.Mathlib.Omega.{arith}
use native.Mathlib.Nat.{zero-add}
use lib.ListN.{length, get_or, set, length-append}
use lib.Seq.{sets, slice}
use lib.Dec.{eqb, leb, ltb}
use borrow.Author.Tests.{eq-eqb, leb-true, leb-false, ltb-true, ltb-false}
use Rattle.wire.specs.Lists.{each, sum}
use Rattle.wire.specs.Bits.{field, fit, total}
use Rattle.wire.specs.Prog.{Prog, ret, Out, done, short, run, u8, pass, span, ◌>>=◌}
use Rattle.wire.specs.Reads.{map_out, end_of, is_done}
use Rattle.wire.specs.Act.{Act, demand, byte, copy, pick}
use Rattle.wire.specs.Pen.{looks, Checked, CheckedRun, Quick, clean, bytes, Ready, Filled}
use Rattle.wire.specs.Layout.{Cell, Layout, end, column, Columns, of, row, reads, writes, shown, cells, matched, every, flagged, counted, demands, idle, has, columns, blank, tally, Bearing, Borne, bearing, borne_bytes, bearing_acts, borne, borne_row, borne_tally}
use Rattle.wire.specs.Straight.{ends, taken, spans}
use Rattle.wire.specs.declared.reads.Short.{Short}
use Rattle.wire.specs.declared.pen.Fault.TheVariants as F
use Rattle.wire.specs.Pen.{Pen, At}
use Rattle.std.specs.Prelude.{Ok, Err}
use Rattle.wire.proofs.Reading.Runs.{out_and_then, run_bind}
use Rattle.wire.proofs.Reading.Steps.{lacks, got_run, lacks_run}
use Rattle.wire.proofs.Reading.Walk.{map_done, step, halt, run_ret, byte_next}
use Rattle.wire.proofs.Tables.{each_length}
use Rattle.wire.proofs.Writing.Acts.{and_both, both_and, clean_append, clean_both, bytes_append}
use Rattle.wire.proofs.Fields.{fits_cons}
use Rattle.wire.proofs.Writing.Passes.{stuck, stopped, then, more, clean_looks, passed_clean, quick_clean, quick_odd, run_looked, run_room, slice_long, Filling, fill_start, fill_demand, fill_turn, fill_column, column_ready, demanded, fill_last}
use Rattle.wire.proofs.Layouts.Cells.{On, on_none, every_same, proper, cells_on, Same, same}
use Rattle.wire.proofs.Layouts.Forms.{form_shown, form_all, form_proper, below, each_in, row_of}
use Rattle.wire.proofs.Layouts.Rowed.{each_like, row_on, on_all, matched_none}
use Rattle.wire.proofs.Layouts.Straight.{read_so, end_of_lem, then_ends, ends_got, ends_lacks, ends_append, ends_at, ends_within, ends_on, ends_cut, ends_done, total_append}
use Rattle.wire.proofs.Writing.Plain.{no_quick}
use Rattle.wire.proofs.Layouts.Families.{then_map}
use Rattle.wire.proofs.Layouts.Borne.{bear_form, Bear, t, stands}

-- ---- measured

-- the columns behind the head, the sizes of its reads, where the byte with the length stands, and the length
abbrev pub headed : Bearing → List ℕ → ℕ → Columns
headed b s at = taken b.head blank s at

abbrev pub head_sizes : Bearing → List ℕ → ℕ → List ℕ
head_sizes b s at = spans b.head blank s at

abbrev pub size_at : Bearing → List ℕ → ℕ → ℕ
size_at b s at = at + total (head_sizes b s at)

abbrev pub size_found : Bearing → List ℕ → ℕ → ℕ
size_found b s at = get_or s (size_at b s at) 0

-- what is read
abbrev pub borne_at : Bearing → List ℕ → ℕ → Borne
borne_at b s at = (row b.width (headed b s at), span (size_at b s at + 1) (size_found b s at))

-- what is left behind the head
abbrev rest : Bearing → Columns → Prog Borne
rest b g = u8 >>= λ n. pass n >>= λ p. ret (row b.width g, span p n)

module _ (b : Bearing) (s : List ℕ) where
  rest_so : (g : Columns) (m : ℕ) → run (rest b g) s m ≡ map_out (λ u. (row b.width g, span (m + 1) (get_or s m 0))) (ends (1 ∷ get_or s m 0 ∷ []) s m)
  unfolding ends
  rest_so g m = go (leb (m + 1) (length s)) refl
    where
      n : ℕ
      n = get_or s m 0

      x : Borne
      x = (row b.width g, span (m + 1) n)

      last : (t : Bool) → leb (m + 1 + n) (length s) ≡ t → run (pass n >>= λ p. ret (row b.width g, span p n)) s (m + 1) ≡ map_out (λ (u : Unit {0}). x) (ends (n ∷ []) s (m + 1))
      last true e = let h = leb-true _ _ e in step (pass n) _ s (m + 1) (sym (got_run s (m + 1) n h)) ∙ run_ret x s (m + 1 + n) ∙ sym (ap (map_out (λ (u : Unit {0}). x)) (ends_got n [] s (m + 1) h))
      last false e = let h = leb-false _ _ e in halt (pass n) _ s (m + 1) (sym (lacks_run s (m + 1) n h)) ∙ sym (ap (map_out (λ (u : Unit {0}). x)) (ends_lacks n [] s (m + 1) h))

      go : (t : Bool) → leb (m + 1) (length s) ≡ t → run (rest b g) s m ≡ map_out (λ (u : Unit {0}). x) (ends (1 ∷ n ∷ []) s m)
      go true e = let h = leb-true _ _ e in byte_next _ s m (omega (arith, h)) refl ∙ last (leb (m + 1 + n) (length s)) refl ∙ sym (ap (map_out (λ (u : Unit {0}). x)) (ends_got 1 (n ∷ []) s m h))
      go false e = let h = leb-false _ _ e in halt u8 _ s m (sym (lacks s m (omega (arith, h)))) ∙ sym (ap (map_out (λ (u : Unit {0}). x)) (ends_lacks 1 (n ∷ []) s m h))

  module _ (at : ℕ) where
    -- the sizes of all its reads
    abbrev row_sizes : List ℕ
    row_sizes = head_sizes b s at ++ (1 ∷ size_found b s at ∷ [])

    bear_so : run (bearing b) s at ≡ map_out (λ u. borne_at b s at) (ends row_sizes s at)
    unfolding then_ends
    bear_so =
        run_bind (reads b.head blank) (rest b) s at
        ∙ ap (λ (o : Out Columns). out_and_then o (λ g m. run (rest b g) s m)) (read_so b.head blank s at)
        ∙ then_map (headed b s at) (ends (head_sizes b s at) s at) (λ g m. run (rest b g) s m)
        ∙ go (ends (head_sizes b s at) s at) refl
        ∙ sym (ap (map_out (λ (u : Unit {0}). borne_at b s at)) (ends_append (head_sizes b s at) (1 ∷ size_found b s at ∷ []) s at))
      where
        go : (o : Out (Unit {0})) → ends (head_sizes b s at) s at ≡ o
            → out_and_then o (λ u m. run (rest b (headed b s at)) s m) ≡ map_out (λ (u : Unit {0}). borne_at b s at) (then_ends o (1 ∷ size_found b s at ∷ []) s)
        go (done u m) e = let q = ends_at (head_sizes b s at) s at e in rest_so (headed b s at) m ∙ ap (λ (k : ℕ). map_out (λ (u : Unit {0}). (row b.width (headed b s at), span (k + 1) (get_or s k 0))) (ends (1 ∷ get_or s k 0 ∷ []) s m)) q
        go (short x) e = refl

    -- where it ends
    pub bear_ends : end_of (run (bearing b) s at) ≡ ends row_sizes s at
    bear_ends = ap end_of bear_so ∙ end_of_lem (borne_at b s at) (ends row_sizes s at)

    sizes_so : row_sizes ≡ (head_sizes b s at ++ (1 ∷ [])) ++ (size_found b s at ∷ [])
    sizes_so = sym (append_assoc (head_sizes b s at) (1 ∷ []) (size_found b s at ∷ []))

    -- The head and the byte behind it were measured by reads of their sizes (e): code stands at m, with the bytes left, which are one read (bear_got and
    -- bear_behind), or hands the refusal up (bear_lacks). e is the promise of reads::head where the head is single bytes.
    pub bear_got : {m : ℕ} → done tt m ≡ ends (head_sizes b s at ++ (1 ∷ [])) s at → ends (size_found b s at ∷ []) s m ≡ end_of (run (bearing b) s at)
    bear_got e = sym (bear_ends ∙ ap (λ (l : List ℕ). ends l s at) sizes_so ∙ ends_on (head_sizes b s at ++ (1 ∷ [])) (size_found b s at ∷ []) s at e)

    pub bear_lacks : {x : Short} → short x ≡ ends (head_sizes b s at ++ (1 ∷ [])) s at → short x ≡ end_of (run (bearing b) s at)
    bear_lacks e = ends_cut (head_sizes b s at ++ (1 ∷ [])) (size_found b s at ∷ []) s at e ∙ sym (bear_ends ∙ ap (λ (l : List ℕ). ends l s at) sizes_so)

    pub bear_behind : {m : ℕ} → at ≤ length s → done tt m ≡ ends (head_sizes b s at ++ (1 ∷ [])) s at → (m ≡ size_at b s at + 1) × (m ≤ length s)
    unfolding total
    bear_behind h e =
        let q = ends_at (head_sizes b s at ++ (1 ∷ [])) s at (sym e) in
        (omega (arith, q, total_append (head_sizes b s at) (1 ∷ [])), ends_within (head_sizes b s at ++ (1 ∷ [])) s at h (sym e))

    -- ---- filled

    -- A row that was measured: what was read, and that its bytes are there.
    pub record BorneWhole : Type 0 where
      pub is : run (bearing b) s at ≡ done (borne_at b s at) (size_at b s at + 1 + size_found b s at)
      pub there : size_at b s at + 1 + size_found b s at ≤ length s

    pub bear_whole : at ≤ length s → is_done (run (bearing b) s at) ≡ true → BorneWhole
    unfolding total
    bear_whole h q =
        let (e, w) = ends_done row_sizes s at h (sym (ap is_done bear_so ∙ map_done (λ (u : Unit {0}). borne_at b s at) (ends row_sizes s at)) ∙ q) in
        let z : at + total row_sizes ≡ size_at b s at + 1 + size_found b s at = omega (arith, total_append (head_sizes b s at) (1 ∷ size_found b s at ∷ [])) in
        record { is = bear_so ∙ ap (map_out (λ (u : Unit {0}). borne_at b s at)) (e ∙ ap (done tt) z); there = rw z at w }

-- a row that was read, with the place of its bytes: the columns that code has at hand
pub borne_row_lem : (b : Bearing) (offset size : ℕ) (g : Columns) → borne_row b (row b.width g, span offset size) ≡ row b.width (borne b offset size g)
borne_row_lem b offset size g =
    each_like (borne b offset size (of (row b.width g))) (borne b offset size g) 0 b.width
    (λ j h. ap (λ (v : ℕ). pick (eqb (0 + j) b.offset) offset (pick (eqb (0 + j) b.size) size v)) (ap (of (row b.width g)) (zero-add j) ∙ each_in g 0 b.width j h))

-- What a function promises that takes one such row, from its columns (r) and its end.
pub bear_filled : (b : Bearing) (s : List ℕ) (at : ℕ) → at ≤ length s → is_done (run (bearing b) s at) ≡ true → {r : List ℕ} {next : ℕ}
    → r ≡ row b.width (borne b (size_at b s at + 1) (size_found b s at) (headed b s at)) → next ≡ size_at b s at + 1 + size_found b s at
    → done r next ≡ map_out (borne_row b) (run (bearing b) s at)
bear_filled b s at h q e k =
    (λ i. done ((e ∙ sym (borne_row_lem b (size_at b s at + 1) (size_found b s at) (headed b s at))) i) (k i)) ∙ sym (ap (map_out (borne_row b)) (bear_whole b s at h q).is)

-- ---- tallied

sum_same : (cs : List Cell) {f g : Columns} → On (columns cs) f g → sum (λ c. idle c (f (column c))) cs ≡ sum (λ c. idle c (g (column c))) cs
unfolding sum has
sum_same [] h = refl
sum_same (c ∷ cs) h =
    let (a, d) = cells_on (c ∷ []) cs h in
    let q = a (column c) (rw (eq-eqb (column c) (column c) refl)) in
    λ i. idle c (q i) + sum_same cs d i

-- columns that agree where the head has columns are read alike by it
module _ (x : Bear) (f g : Columns) (o : On (form_all (bear_form x.row)) f g) where
  abbrev head : Layout
  head = x.row.head

  head_on : On (columns (shown head f)) f g
  unfolding form_shown
  head_on = (cells_on (shown head f) (shown end f) (on_all (bear_form x.row) f g o)).0

  head_same : Same head f g
  unfolding form_proper
  head_same = same [] head (and_both (proper [] head) _ (t x).proper_so).0 f g (on_none f g) head_on

-- the reserved bits do not depend on the columns of the payload
pub bear_tallied : (x : Bear) (v : Borne) → borne_tally x.row v ≡ tally (x.row.head ∷ []) (of (borne_row x.row v))
unfolding tally cells
bear_tallied x v =
    let f : Columns = of v.0 in
    let g : Columns = of (borne_row x.row v) in
    let w = stands x v g (row_of x.row.width (borne_row x.row v) (each_length (borne x.row v.1.offset v.1.length f) 0 x.row.width)) in
    sum_same (shown x.row.head f) (head_on x f g w.on) ∙ ap (sum (λ c. idle c (g (column c)))) (head_same x f g w.on).cells

-- ---- written: its range, the demands and the bytes of its head, the byte with the length, its bytes

abbrev pub head_acts : Bearing → Columns → List Act
head_acts b g = demands (b.head ∷ []) g ++ writes b.head g

abbrev pub payload_acts : Bearing → List ℕ → Columns → List Act
payload_acts b store g = byte (field 8 (g b.size) ∷ []) ∷ copy (borne_bytes b store g) ∷ []

module _ (b : Bearing) (store : List ℕ) (g : Columns) where
  abbrev pub in_store : Bool
  in_store = leb (g b.offset + g b.size) (length store)

  acts_so : demand F.Range in_store ∷ (head_acts b g ++ payload_acts b store g) ≡ bearing_acts b store g
  acts_so = ap (λ (q : List Act). demand F.Range in_store ∷ q) (append_assoc (demands (b.head ∷ []) g) (writes b.head g) (payload_acts b store g))

  -- The check pass: the range, the head and the byte with the length; the pen counts the bytes, if it got there.
  pub bear_checked : {inside : Bool} {k n : ℕ} {p₀ p₁ : Pen} (p₂ : Pen) {r : Pen} → inside ≡ in_store → Checked (demand F.Range inside ∷ []) 0 (At n) p₀
      → Checked (head_acts b g) k p₀ p₁
      → Checked (byte (field 8 (g b.size) ∷ []) ∷ []) 1 p₁ p₂ → CheckedRun (g b.size) p₂ r → Checked (bearing_acts b store g) (k + 256) (At n) r
  unfolding clean
  bear_checked {k = k} {n} {p₀} {p₁} p₂ {r} e w₀ w₁ w₂ w₃ = subst (λ (q : List Act). Checked q (k + 256) (At n) r) acts_so (go p₂ refl)
    where
      front : Checked (demand F.Range in_store ∷ (head_acts b g ++ (byte (field 8 (g b.size) ∷ []) ∷ []))) (k + 1) (At n) p₂
      front = more (k + 1) (then (rw e at w₀) (then w₁ w₂)) (omega arith)

      whole : (m : ℕ) → m ≤ 255 → Checked (copy (borne_bytes b store g) ∷ []) m p₂ r → Checked (demand F.Range in_store ∷ (head_acts b g ++ payload_acts b store g)) (k + 256) (At n) r
      whole m h w = more (k + 256) (then (rw e at w₀) (then w₁ (then w₂ w))) (omega arith)

      go : (p : Pen) → p₂ ≡ p → Checked (demand F.Range in_store ∷ (head_acts b g ++ payload_acts b store g)) (k + 256) (At n) r
      go (Ok m) d =
          let (i, c) = and_both in_store _ (passed_clean (demand F.Range in_store ∷ (head_acts b g ++ (byte (field 8 (g b.size) ∷ []) ∷ []))) _ front d) in
          let (_, f) = clean_both (head_acts b g) (byte (field 8 (g b.size) ∷ []) ∷ []) c in
          let l = (fits_cons 8 (g b.size) [] (and_both _ true f).0).0 in
          whole (g b.size) (omega (arith, l)) (run_looked (g b.offset) (g b.size) store (leb-true _ _ i) w₃)
      go (Err x) d =
          let z = (w₃.of (each (λ j. j) 0 (g b.size)) (each_length (λ j. j) 0 (g b.size))).pens in
          let q : r ≡ p₂ = z ∙ ap (looks (copy (each (λ j. j) 0 (g b.size)) ∷ [])) d ∙ stuck _ x.0 x.1 ∙ sym d in
          whole 0 (omega arith) (rw q (stopped (copy (borne_bytes b store g) ∷ []) 0 d))

  -- The quick test: what it says of the head, and of the length.
  head_passed : {h k : ℕ} → Quick (head_acts b g) h k → 0 < k → (clean (head_acts b g) ≡ true) × (length (bytes (head_acts b g)) ≡ k) × (k ≤ h)
  head_passed {h} {k} w p =
      let v = w.to p 0 in
      let c = passed_clean (head_acts b g) _ v refl in
      let z : At (0 + length (bytes (head_acts b g))) ≡ At (0 + k) = sym (clean_looks (head_acts b g) 0 c) ∙ sym v.pens in
      let y : 0 + length (bytes (head_acts b g)) ≡ 0 + k = cc z in
      (c, omega (arith, y), omega (arith, v.near))

  module _ {inside : Bool} {h k : ℕ} (e : inside ≡ in_store) (w : Quick (head_acts b g) h k) where
    pub bear_plain : inside && (ltb 0 k && ltb (g b.size) 256) ≡ true → Quick (bearing_acts b store g) (h + 256) (k + (1 + g b.size))
    unfolding clean bytes fit
    bear_plain q =
        let (i, q₀) = and_both inside _ q in
        let (p, q₁) = and_both (ltb 0 k) _ q₀ in
        let (c, l, u) = head_passed w (ltb-true _ _ p) in
        let z = ltb-true (g b.size) 256 q₁ in
        let j = slice_long (g b.offset) (g b.size) store (leb-true _ _ (sym e ∙ i)) in
        let y : clean (demand F.Range in_store ∷ (head_acts b g ++ payload_acts b store g)) ≡ true =
        both_and (sym e ∙ i) (clean_append (head_acts b g) (payload_acts b store g) ∙ both_and c (both_and (both_and q₁ refl) refl)) in
        let n : length (bytes (demand F.Range in_store ∷ (head_acts b g ++ payload_acts b store g))) ≡ k + (1 + g b.size) =
        ap length (bytes_append (head_acts b g) (payload_acts b store g)) ∙ length-append (bytes (head_acts b g)) (bytes (payload_acts b store g))
        ∙ omega (arith, l, ap length (append-nil (borne_bytes b store g)), j) in
        subst (λ (a : List Act). Quick a (h + 256) (k + (1 + g b.size))) acts_so (quick_clean _ (h + 256) y n (omega arith) (omega (arith, u, z)))

    pub bear_odd : inside && (ltb 0 k && ltb (g b.size) 256) ≡ false → Quick (bearing_acts b store g) (h + 256) 0
    unfolding clean fit
    bear_odd q = subst (λ (a : List Act). Quick a (h + 256) 0) acts_so (quick_odd _ (h + 256) (λ z. no_quick q (tested z)))
      where
        tested : clean (demand F.Range in_store ∷ (head_acts b g ++ payload_acts b store g)) ≡ true → inside && (ltb 0 k && ltb (g b.size) 256) ≡ true
        tested z =
            let (i, z₀) = and_both in_store _ z in
            let (c, z₁) = clean_both (head_acts b g) (payload_acts b store g) z₀ in
            let (f, _) = and_both (ltb (g b.size) 256 && true) _ z₁ in
            let (l, _) = and_both (ltb (g b.size) 256) _ f in
            both_and (e ∙ i) (both_and (go (ltb 0 k) refl c) l)
          where
            go : (t : Bool) → ltb 0 k ≡ t → clean (head_acts b g) ≡ true → t ≡ true
            go true r c = refl
            go false r c = absurd (no_quick (w.odd (let y = ltb-false 0 k r in omega (arith, y))) c)

  -- The fill pass: the demands store nothing (bear_filling), and hold, so that its bytes stand in the store (bear_inside). Then its head, the byte with the length by pen::put
  -- (size_ready), and its bytes by pen::copy (bytes_room).
  module _ {n : ℕ} {l : List ℕ} (w : Ready (bearing_acts b store g) n l) where
    pub bear_inside : g b.offset + g b.size ≤ length store
    bear_inside = leb-true _ _ (demanded w)

    pub bear_filling : Filling (bearing_acts b store g) (writes b.head g ++ payload_acts b store g) n l n l
    bear_filling =
        fill_turn (fill_demand (fill_demand (fill_demand (fill_start w)))) refl refl
        (record { place = omega (arith, ap length (matched_none (b.head ∷ []) g)); holds = ap (sets l n) (sym (matched_none (b.head ∷ []) g)) })

  module _ {n₀ n : ℕ} {l o : List ℕ} (v : Filling (bearing_acts b store g) (payload_acts b store g) n₀ l n o) where
    pub size_ready : (g b.size < 256) × (n < length o)
    size_ready = column_ready v.ready

    module _ {r : ℕ} {o' : List ℕ} (p : (r ≡ n + 1) × (o' ≡ set o n (g b.size))) where
      bytes_left : Filling (bearing_acts b store g) (copy (borne_bytes b store g) ∷ []) n₀ l r o'
      bytes_left = fill_column v p

      pub bytes_room : g b.offset + g b.size ≤ length store → r + g b.size ≤ length o'
      bytes_room h = run_room (g b.offset) (g b.size) store h bytes_left.ready

      pub bytes_filled : {m : ℕ} {o'' : List ℕ} → Filled (copy (borne_bytes b store g) ∷ []) r o' m o'' → Filled (bearing_acts b store g) n₀ l m o''
      bytes_filled x = fill_last bytes_left x

-- Columns that make the same row have the same actions: the row of a table, and the struct that is made of it.
pub bear_acts : (x : Bear) (store : List ℕ) (f g : Columns) → row x.row.width f ≡ row x.row.width g → bearing_acts x.row store f ≡ bearing_acts x.row store g
unfolding cells matched has
bear_acts x store f g e =
    let b = x.row in
    let on : (ks : List ℕ) → below b.width ks ≡ true → On ks f g = λ ks p j h. sym (row_on b.width ks p (row b.width g) f e j h) ∙ row_on b.width ks p (row b.width g) g refl j h in
    let o = on (form_all (bear_form b)) (t x).below_so in
    let w = head_on x f g o in
    let s = head_same x f g o in
    let ks = b.offset ∷ b.size ∷ [] in
    let p : f b.offset ≡ g b.offset = on ks (t x).place_so b.offset (rw (eq-eqb b.offset b.offset refl)) in
    let n : f b.size ≡ g b.size = on ks (t x).place_so b.size (rw ((t x).two_so, eq-eqb b.size b.size refl)) in
    λ i. demand F.Range (leb (p i + n i) (length store))
    ∷ demand F.Field ((every_same flagged (shown b.head f) w ∙ ap (every flagged g) s.cells) i)
    ∷ demand F.Empty ((every_same counted (shown b.head f) w ∙ ap (every counted g) s.cells) i)
    ∷ (s.matched i ++ (s.acts i ++ (byte (field 8 (n i) ∷ []) ∷ copy (slice (p i) (p i + n i) store) ∷ [])))
