-- The walk along a DRC and loudness body, list after list, is its program; and what it finds decides the record, the rows and the sizes.
use Rattle.std.specs.Prelude.{Result, Ok, Err}
use Prim.Native.Nat.{ℕ, ◌*◌, ◌≤◌, ◌<◌}
use mathlib.Core.Path.{◌≡◌, refl, sym, ap, subst, ◌∙◌}
use mathlib.Core.List.{List, [], ◌∷◌, ◌++◌, flat_map}
use mathlib.Core.Bool.{Bool, true, false}
use native.Mathlib.Omega.{arith}
use lib.ListN.{length, get_or}
use lib.Dec.{eqb}
use borrow.Author.Tests.{eq-eqb, ne_eqb, eqb-true}
use Rattle.wire.specs.Lists.{sum}
use Rattle.wire.specs.Bits.{part, total, split}
use Rattle.wire.specs.Prog.{Prog, ret, Out, done, short, run, u8, many, ◌>>=◌}
use Rattle.wire.specs.Reads.{map_out, end_of, Summed}
use Rattle.wire.specs.Act.{pick}
use Rattle.wire.specs.Straight.{ends, ones, took, puts_at, taken, spans}
use Rattle.wire.specs.Layout.{reserved, flag, blank, put, reads, flat, Family, Borne, kids}
use Rattle.wire.specs.declared.reads.Short.{Short}
use Rattle.wire.proofs.Reading.Walk.{halt, From, byte_next, onward, Passed, end_onward, end_cut_off, finished}
use Rattle.wire.proofs.Fields.{part_below}
use Rattle.wire.proofs.Reading.Loops.{WentOn, sum_onward, sum_cut_off, summed_as}
use Rattle.wire.proofs.Layouts.Families.{kids_summed}
use Rattle.wire.proofs.Layouts.Straight.{read_so, ends_at, ends_within, ends_few, ends_on, ends_cut, Past}
use Rattle.frame.specs.Entry.{too_short, Measures}
use Rattle.frame.proofs.Entries.{measures_short}
use Rattle.instructions.specs.Layout.{instructions}
use Rattle.loudness.specs.Layout.{entries}
use Rattle.downmixes.specs.Layout.{downmix}
use Rattle.drc_kind.specs.declared.rows.DrcLoudnessInfo.{DrcLoudnessInfo}
use Rattle.drc_kind.specs.declared.rows.Info.{Info}
use Rattle.drc_kind.specs.Layout.{head, counts}
use Rattle.drc_kind.specs.Rows.{no_info, Tree, tree_is}
use Rattle.drc_kind.specs.Read.{body_over}
use Rattle.drc_kind.specs.Kind.{kind}
use Rattle.drc_kind.proofs.Mirrored.{by_lists, parse_over}
use Rattle.drc_loudness.specs.declared.parsing.Places.{Places}
use Rattle.drc_loudness.specs.Walk.{flag_at, info_there, info_at, rows_at, Begun, Found, tree_of, tree}

-- ---- the program from list to list

abbrev pub info_in : List ℕ → DrcLoudnessInfo
info_in s = (info_at s).part

abbrev pub behind_entries : List ℕ → List Family → List Borne → Prog Tree
behind_entries s is ls = many (info_in s).downmix_definitions (flat 4 downmix) >>= λ ds. ret (tree_of s is ls ds)

abbrev pub behind_instructions : List ℕ → List Family → Prog Tree
behind_instructions s is = many (info_in s).loudness_infos entries >>= λ ls. behind_entries s is ls

abbrev pub behind_head_lem : List ℕ → Prog Tree
behind_head_lem s = many (info_in s).drc_instructions instructions >>= λ is. behind_instructions s is

-- ---- the first bytes

pub head_there : (s : List ℕ) → 1 ≤ length s → rows_at s ≤ length s → From kind.program s 0 (behind_head_lem s) (rows_at s)
unfolding rows_at info_at body_over run many ◌>>=◌
head_there s h l = record { same = ap (λ (p : Prog Tree). run p s 0) parse_over ∙ first ∙ go (eqb (flag_at s) 1) l; inside = l }
  where
    info : Bool → DrcLoudnessInfo
    info x = pick x (info_there s) no_info.part

    top : Bool → List ℕ
    top x =
        part 1 7 (get_or s 0 0) ∷ flag_at s ∷ (info x).reserved_drc ∷ (info x).reserved_loudness ∷ (info x).reserved_downmix ∷ (info x).drc_instructions ∷ (info x).loudness_infos ∷ (info x).downmix_definitions ∷ []

    lists : Bool → Prog Tree
    lists x =
        many (info x).drc_instructions instructions >>= λ is. many (info x).loudness_infos entries >>= λ ls. many (info x).downmix_definitions (flat 4 downmix) >>= λ ds.
        ret (tree_is (top x) is ls ds)

    counts : ℕ → Prog Tree
    counts b0 =
        u8 >>= λ a. u8 >>= λ l. u8 >>= λ d. many (part 0 6 a) instructions >>= λ is. many (part 0 6 l) entries >>= λ ls. many (part 0 5 d) (flat 4 downmix) >>= λ ds.
        ret (tree_is (part 1 7 b0 ∷ part 0 1 b0 ∷ part 6 2 a ∷ part 6 2 l ∷ part 5 3 d ∷ part 0 6 a ∷ part 0 6 l ∷ part 0 5 d ∷ []) is ls ds)

    missing : ℕ → Prog Tree
    missing b0 = ret (tree_is (part 1 7 b0 ∷ part 0 1 b0 ∷ 0 ∷ 0 ∷ 0 ∷ 0 ∷ 0 ∷ 0 ∷ []) [] [] [])

    first : run (body_over instructions entries (flat 4 downmix)) s 0 ≡ run (pick (eqb (flag_at s) 1) (counts (get_or s 0 0)) (missing (get_or s 0 0))) s 1
    first = byte_next _ s 0 (omega arith) refl

    go : (x : Bool) → pick x 4 1 ≤ length s → run (pick x (counts (get_or s 0 0)) (missing (get_or s 0 0))) s 1 ≡ run (lists x) s (pick x 4 1)
    go true l = byte_next _ s 1 (omega arith) refl ∙ byte_next _ s 2 (omega arith) refl ∙ byte_next _ s 3 (omega arith) refl
    go false l = refl

-- they are cut
pub head_cut : (s : List ℕ) {x : Short} → short x ≡ ends (spans head blank s 0) s 0 → run kind.program s 0 ≡ short x
head_cut s e =
    let q = read_so head blank s 0 ∙ ap (map_out (λ (u : Unit {0}). taken head blank s 0)) (sym e) in
    ap (λ (p : Prog Tree). run p s 0) by_lists ∙ halt (reads head blank) _ s 0 (sym q)

head_spans : (s : List ℕ) → spans head blank s 0 ≡ ones 1 ++ pick (eqb (flag_at s) 1) (ones 3) []
unfolding head took puts_at put split total ones
head_spans s = go (eqb (flag_at s) 1)
  where
    go : (x : Bool)
        → ◌≡◌ {A = List ℕ} (1 ∷ ((pick x (took counts (puts_at ((reserved 7 0 ∷ flag 1 ∷ []) ∷ []) s 0 0 blank) s 1 0) (puts_at ((reserved 7 0 ∷ flag 1 ∷ []) ∷ []) s 0 0 blank, [])).1 ++ [])) (1 ∷ pick x (1 ∷ 1 ∷ 1 ∷ []) [])
    go true = refl
    go false = refl

-- the flag, as code has it
pub flag_taken : (s : List ℕ) {v w : ℕ} → v ≡ get_or s 0 0 → w ≡ part 0 1 v → w ≡ 1 → flag_at s ≡ 1
flag_taken s e q t = sym (q ∙ ap (part 0 1) e) ∙ t

pub flag_left : (s : List ℕ) {v w : ℕ} → v ≡ get_or s 0 0 → w ≡ part 0 1 v → (w ≡ 1 → ⊥) → eqb (flag_at s) 1 ≡ false
flag_left s e q t = ne_eqb (flag_at s) 1 (λ z. t (q ∙ ap (part 0 1) e ∙ z))

-- where the first list begins
pub rows_four : (s : List ℕ) → flag_at s ≡ 1 → rows_at s ≡ 4
unfolding rows_at
rows_four s t = ap (λ (b : Bool). pick b 4 1) (eq-eqb (flag_at s) 1 t)

pub rows_one : (s : List ℕ) → eqb (flag_at s) 1 ≡ false → rows_at s ≡ 1
unfolding rows_at
rows_one s t = ap (λ (b : Bool). pick b 4 1) t

pub rows_near : (s : List ℕ) → (1 ≤ rows_at s) × (rows_at s ≤ 4)
unfolding rows_at
rows_near s = go (eqb (flag_at s) 1)
  where
    go : (b : Bool) → (1 ≤ pick b 4 1) × (pick b 4 1 ≤ 4)
    go true = (omega arith, omega arith)
    go false = (omega arith, omega arith)

head_long : (s : List ℕ) → total (spans head blank s 0) ≡ rows_at s
unfolding rows_at ones total
head_long s = ap total (head_spans s) ∙ go (eqb (flag_at s) 1)
  where
    go : (b : Bool) → total (ones 1 ++ pick b (ones 3) []) ≡ pick b 4 1
    go true = refl
    go false = refl

-- where the bytes before the lists end, as code finds it
module _ (s : List ℕ) where
  abbrev whole : Bool → List ℕ
  whole b = ones 1 ++ pick b (ones 3) []

  pub head_short : {x : Short} → short x ≡ ends (ones 1) s 0 → short x ≡ ends (spans head blank s 0) s 0
  head_short e = ends_cut (ones 1) (pick (eqb (flag_at s) 1) (ones 3) []) s 0 e ∙ sym (ap (λ (l : List ℕ). ends l s 0) (head_spans s))

  module _ {n : ℕ} (e : done tt n ≡ ends (ones 1) s 0) where
    pub head_alone : eqb (flag_at s) 1 ≡ false → done tt n ≡ ends (spans head blank s 0) s 0
    unfolding ones
    head_alone t = e ∙ sym (ap (λ (l : List ℕ). ends l s 0) (head_spans s) ∙ ap (λ (b : Bool). ends (whole b) s 0) t)

    pub head_whole : flag_at s ≡ 1 → {r : Out (Unit {0})} → r ≡ ends (ones 3) s n → r ≡ ends (spans head blank s 0) s 0
    head_whole t q = q ∙ sym (ap (λ (l : List ℕ). ends l s 0) (head_spans s) ∙ ap (λ (b : Bool). ends (whole b) s 0) (eq-eqb (flag_at s) 1 t) ∙ ends_on (ones 1) (ones 3) s 0 e)

  -- they end before the first list
  pub begins : {n : ℕ} → done tt n ≡ ends (spans head blank s 0) s 0 → Begun s n
  begins e = record { at_rows = omega (arith, ends_at (spans head blank s 0) s 0 (sym e), head_long s); inside = ends_within (spans head blank s 0) s 0 (omega arith) (sym e) }

  -- without them
  pub headless : {x : Short} → short x ≡ ends (spans head blank s 0) s 0 → Measures kind s (too_short x)
  headless e = measures_short kind s (omega (arith, ends_few (spans head blank s 0) s 0 (sym e), head_long s, (rows_near s).1)) (head_cut s e)

-- with info, or without
module _ {s : List ℕ} {n : ℕ} (h : Begun s n) where
  pub info_read : n ≡ 4 → (4 ≤ length s) × (flag_at s ≡ 1)
  info_read q = (omega (arith, h.inside), go (eqb (flag_at s) 1) refl)
    where
      go : (b : Bool) → eqb (flag_at s) 1 ≡ b → flag_at s ≡ 1
      go true t = eqb-true (flag_at s) 1 t
      go false t = absurd (omega (arith, h.at_rows, rows_one s t))

  pub no_info_lem : (n ≡ 4 → ⊥) → (eqb (flag_at s) 1 ≡ false) × Past s 0 1 n
  no_info_lem q = go (eqb (flag_at s) 1) refl
    where
      go : (b : Bool) → eqb (flag_at s) 1 ≡ b → (eqb (flag_at s) 1 ≡ false) × Past s 0 1 n
      go true t = absurd (q (h.at_rows ∙ rows_four s (eqb-true (flag_at s) 1 t)))
      go false t = (t, record { is = h.at_rows ∙ rows_one s t; inside = omega (arith, h.inside, h.at_rows, rows_one s t) })

pub info_there_lem : (s : List ℕ) → flag_at s ≡ 1 → info_in s ≡ info_there s
unfolding info_at
info_there_lem s t = ap (λ (b : Bool). pick b (info_there s) no_info.part) (eq-eqb (flag_at s) 1 t)

-- the info, as code has it
pub info_of_lem : (s : List ℕ) → flag_at s ≡ 1 → {i : DrcLoudnessInfo} → i ≡ info_there s → {r : Info} → r ≡ record { present = true; part = i } → r ≡ info_at s
unfolding info_at
info_of_lem s t e q =
    q ∙ (λ j. record { present = true; part = e j }) ∙ sym (ap (λ (b : Bool). record { present = b; part = pick b (info_there s) no_info.part }) (eq-eqb (flag_at s) 1 t))

pub info_none : (s : List ℕ) → eqb (flag_at s) 1 ≡ false → {r : Info} → r ≡ no_info → r ≡ info_at s
unfolding info_at
info_none s t q = q ∙ sym (ap (λ (b : Bool). record { present = b; part = pick b (info_there s) no_info.part }) t)

-- lists that were found, and are empty
pub record Bare (s : List ℕ) (p : Places) : Type 0 where
  pub found : Found s p
  pub no_instructions : found.in_instructions ≡ []
  pub no_entries : found.in_entries ≡ []
  pub no_downmixes : found.in_downmixes ≡ []

-- as they are without info
pub none_found : {s : List ℕ} {n : ℕ} → Begun s n → (n ≡ 4 → ⊥) → {p : Places} → p ≡ record { loudness = n; downmixes = n; additional = 0; k = n } → Bare s p
unfolding rows_at info_at run many flat_map
none_found {s} {n} w z {p} e =
    let (f, h) = no_info_lem w z in
    let q : pick (eqb (flag_at s) 1) 4 1 ≡ n = ap (λ (b : Bool). pick b 4 1) f ∙ sym h.is in
    let i : pick (eqb (flag_at s) 1) (info_there s) no_info.part ≡ no_info.part = ap (λ (b : Bool). pick b (info_there s) no_info.part) f in
    subst (Bare s) (sym e)
    (record {
      found = record {
        in_instructions = [];
        in_entries = [];
        in_downmixes = [];
        head = omega (arith, q, h.is, h.inside);
        instructions_read = λ j. run (many (i j).drc_instructions instructions) s (q j);
        entries_read = λ j. run (many (i j).loudness_infos entries) s n;
        downmixes_read = λ j. run (many (i j).downmix_definitions (flat 4 downmix)) s n;
        additional_are = refl;
        additional_few = omega arith;
      };
      no_instructions = refl;
      no_entries = refl;
      no_downmixes = refl;
    })

-- ---- list after list, with the counts as code has them

abbrev ids : List Family → ℕ
ids l = length (kids l)

abbrev each_ids : List Family → ℕ
each_ids l = sum (λ x. length x.1) l

-- behind the instructions
pub record InInstructions (s : List ℕ) (v m : ℕ) : Type 0 where
  pub flagged : flag_at s ≡ 1
  pub four : 4 ≤ length s
  pub small : v ≤ 441
  pub on : WentOn (many (info_in s).drc_instructions instructions) ids (behind_instructions s) kind.program s 0 (rows_at s) v m

module _ (s : List ℕ) (t : flag_at s ≡ 1) (h : 4 ≤ length s) {i : DrcLoudnessInfo} (e : i ≡ info_there s) where
  start : From kind.program s 0 (behind_head_lem s) (rows_at s)
  start = head_there s (omega arith) (omega (arith, rows_four s t))

  same : i ≡ info_in s
  same = e ∙ sym (info_there_lem s t)

  summed : {r : Result (ℕ × ℕ) Short} → Summed (many i.drc_instructions instructions) each_ids (7 * i.drc_instructions) s 4 r
      → Summed (many (info_in s).drc_instructions instructions) ids (7 * (info_in s).drc_instructions) s (rows_at s) r
  summed {r} x =
      subst (λ (at : ℕ). Summed (many (info_in s).drc_instructions instructions) ids (7 * (info_in s).drc_instructions) s at r) (sym (rows_four s t))
      (subst (λ (i : DrcLoudnessInfo). Summed (many i.drc_instructions instructions) ids (7 * i.drc_instructions) s 4 r) same (summed_as kids_summed x))

  pub instructions_found : {v m : ℕ} → Summed (many i.drc_instructions instructions) each_ids (7 * i.drc_instructions) s 4 (Ok (v, m)) → InInstructions s v m
  instructions_found x =
      let n : (info_in s).drc_instructions < 64 = subst (λ (i : DrcLoudnessInfo). i.drc_instructions < 64) (sym (info_there_lem s t)) (part_below 0 6 (get_or s 1 0)) in
      let y = summed x in
      record { flagged = t; four = h; small = omega (arith, y.small, n); on = sum_onward (many (info_in s).drc_instructions instructions) (behind_instructions s) start y }

  pub instructions_cut : {y : Short} → Summed (many i.drc_instructions instructions) each_ids (7 * i.drc_instructions) s 4 (Err y) → run kind.program s 0 ≡ short y
  instructions_cut x = sym (sum_cut_off (many (info_in s).drc_instructions instructions) (behind_instructions s) start (summed x))

-- behind the entries
pub record InEntries (s : List ℕ) (v m n : ℕ) : Type 0 where
  pub before : InInstructions s v m
  pub on : Passed (many (info_in s).loudness_infos entries) (behind_entries s before.on.value) kind.program s 0 m n

module _ {s : List ℕ} {v m : ℕ} (w : InInstructions s v m) {i : DrcLoudnessInfo} (e : i ≡ info_there s) where
  same_entries : end_of (run (many i.loudness_infos entries) s m) ≡ end_of (run (many (info_in s).loudness_infos entries) s m)
  same_entries = λ j. end_of (run (many ((e ∙ sym (info_there_lem s w.flagged)) j).loudness_infos entries) s m)

  pub entries_found : {n : ℕ} → done tt n ≡ end_of (run (many i.loudness_infos entries) s m) → InEntries s v m n
  entries_found q = record { before = w; on = end_onward (many (info_in s).loudness_infos entries) (behind_entries s w.on.value) w.on.place (q ∙ same_entries) }

  pub entries_cut : {x : Short} → short x ≡ end_of (run (many i.loudness_infos entries) s m) → run kind.program s 0 ≡ short x
  entries_cut q = sym (end_cut_off (many (info_in s).loudness_infos entries) (behind_entries s w.on.value) w.on.place (q ∙ same_entries))

module _ {s : List ℕ} {v m n : ℕ} (w : InEntries s v m n) {i : DrcLoudnessInfo} (e : i ≡ info_there s) where
  same_downmixes : end_of (run (many i.downmix_definitions (flat 4 downmix)) s n) ≡ end_of (run (many (info_in s).downmix_definitions (flat 4 downmix)) s n)
  same_downmixes = λ j. end_of (run (many ((e ∙ sym (info_there_lem s w.before.flagged)) j).downmix_definitions (flat 4 downmix)) s n)

  pub all_found : {k : ℕ} → done tt k ≡ end_of (run (many i.downmix_definitions (flat 4 downmix)) s n) → Found s (record { loudness = m; downmixes = n; additional = v; k = k })
  all_found q =
      let y =
      end_onward (many (info_in s).downmix_definitions (flat 4 downmix)) (λ ds. ret (tree_of s w.before.on.value w.on.value ds)) w.on.place (q ∙ same_downmixes) in
      record {
        in_instructions = w.before.on.value;
        in_entries = w.on.value;
        in_downmixes = y.value;
        head = omega (arith, w.before.four, rows_four s w.before.flagged);
        instructions_read = w.before.on.reads;
        entries_read = w.on.reads;
        downmixes_read = y.reads;
        additional_are = sym w.before.on.is;
        additional_few = w.before.small;
      }

  pub downmixes_cut : {x : Short} → short x ≡ end_of (run (many i.downmix_definitions (flat 4 downmix)) s n) → run kind.program s 0 ≡ short x
  downmixes_cut q =
      sym (end_cut_off (many (info_in s).downmix_definitions (flat 4 downmix)) (λ ds. ret (tree_of s w.before.on.value w.on.value ds)) w.on.place (q ∙ same_downmixes))

-- ---- what was found

-- the first byte is there
pub first_there : {s : List ℕ} {p : Places} → Found s p → 1 ≤ length s
first_there {s} f = omega (arith, f.head, (rows_near s).0)

pub found_reads : (s : List ℕ) (p : Places) (f : Found s p) → run kind.program s 0 ≡ done (tree f) p.k
found_reads s p f =
    let w₀ = head_there s (first_there f) f.head in
    let w₁ = onward (many (info_in s).drc_instructions instructions) (behind_instructions s) w₀ (sym f.instructions_read) in
    let w₂ = onward (many (info_in s).loudness_infos entries) (behind_entries s f.in_instructions) w₁ (sym f.entries_read) in
    let w₃ = onward (many (info_in s).downmix_definitions (flat 4 downmix)) (λ ds. ret (tree_of s f.in_instructions f.in_entries ds)) w₂ (sym f.downmixes_read) in
    sym (finished w₃ refl)
