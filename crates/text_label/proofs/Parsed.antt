-- The body byte by byte, over the layout of a label: what follows the first reads of a language and of the body, and what a run that is done says of it.
use Rattle.std.specs.Prelude.{Result, Ok, Err}
use Prim.Native.Nat.{ℕ, ◌+◌, ◌*◌, ◌-◌, ◌≤◌, ◌<◌}
use mathlib.Core.Path.{◌≡◌, refl, sym, ap, subst, ◌∙◌}
use mathlib.Core.List.{List, [], ◌∷◌, ◌++◌, map, flat_map}
use native.Mathlib.Omega.{arith}
use native.Mathlib.Nat.{add-zero}
use lib.ListN.{length, get_or, length-append, length-map, take}
use lib.Seq.{slice, get_or-drop, get_or-take}
use Rattle.wire.specs.Lists.{each, sum}
use Rattle.wire.specs.Bits.{part, total}
use Rattle.wire.specs.Prog.{Prog, ret, Out, done, short, run, u8, u8s, pass, many, ◌>>=◌}
use Rattle.wire.specs.Reads.{end_of, Summed}
use Rattle.wire.specs.Layout.{Borne, bearing, borne_row}
use Rattle.wire.specs.Straight.{ends, ones}
use Rattle.wire.specs.declared.reads.Short.{Short}
use Rattle.wire.proofs.Reading.Runs.{run_split, run_ret}
use Rattle.wire.proofs.Reading.Walk.{From, begun, onward, finished, as_done, cut_off_as, bytes_end_lem, byte_taken, bytes_taken}
use Rattle.wire.proofs.Reading.Loops.{many_long, many_weighs, WentOn, sum_onward, sum_cut_off, summed_done, summed_short}
use Rattle.wire.proofs.Reading.Nest.{flat_length, sum_suc}
use Rattle.wire.proofs.Layouts.Straight.{singly, singly_there, singly_cut, ends_at, ends_within, ends_few, total_append}
use Rattle.wire.proofs.Layouts.Bearers.{head_sizes, size_found, bear_ends}
use Rattle.wire.proofs.Fields.{part_below}
use Rattle.frame.specs.Entry.{too_short, Measures}
use Rattle.frame.specs.Body.{tables}
use Rattle.frame.proofs.Entries.{measures_short}
use Rattle.labels.specs.Layout.{label}
use Rattle.labels.specs.Read.{Labels, labels_over, labels}
use Rattle.text_label.specs.Rows.{letters, Language, TextLabel}
use Rattle.text_label.specs.Read.{letters_at, language_is, language_over, text_label_over, language}
use Rattle.text_label.specs.Kind.{entries_of, kind}
use Rattle.text_label.proofs.Mirrored.{parse_over}

-- ---- a list of labels

abbrev labels_of : ℕ → ℕ → List Borne → Labels
labels_of w b l = record { reserved = part w (8 - w) b; count = part 0 w b; entries = l }

entry_weighs : (w : ℕ) (s : List ℕ) (at : ℕ) (x : Borne) (m : ℕ) → run (bearing (label w)) s at ≡ done x m → at + 1 ≤ m
unfolding total
entry_weighs w s at x m e =
    let b = label w in
    let behind : List ℕ = 1 ∷ size_found b s at ∷ [] in
    omega (arith, ends_at (head_sizes b s at ++ behind) s at (sym (bear_ends b s at) ∙ ap end_of e), total_append (head_sizes b s at) behind)

-- its count stands in its first byte, and each of its entries has at least one
pub record ListRun (w : ℕ) (s : List ℕ) (at : ℕ) (d : Labels) (m : ℕ) : Type 0 where
  pub inside : at < length s
  pub counted : d.count ≡ length d.entries
  pub weighs : at + 1 + length d.entries ≤ m

pub list_run : (w : ℕ) (s : List ℕ) (at : ℕ) {d : Labels} {m : ℕ} → run (labels w) s at ≡ done d m → ListRun w s at d m
unfolding labels_over
list_run w s at {d} {m} e =
    let p = bearing (label w) in
    let b = get_or s at 0 in
    let (h, e₁) = byte_taken s at (λ b. many (part 0 w b) p >>= λ l. ret (labels_of w b l)) e in
    let x = run_split (many (part 0 w b) p) (λ l. ret (labels_of w b l)) s (at + 1) d m e₁ in
    let (q, n) = run_ret _ s x.middle x.second in
    let c = many_long p s (part 0 w b) (at + 1) x.value x.middle x.first in
    subst (λ (d : Labels). ListRun w s at d m) q
    (record { inside = h; counted = sym c; weighs = omega (arith, many_weighs p s (λ x. 1) (entry_weighs w s) _ (at + 1) x.value x.middle x.first, sum_suc (λ (x : Borne). 0) x.value, n) })

-- ---- a language

abbrev pub after_lists : List ℕ → Labels → Labels → Prog Language
after_lists l g s = labels 5 >>= λ p. ret (language_is l g s p)

abbrev pub after_groups : List ℕ → Labels → Prog Language
after_groups l g = labels 5 >>= λ s. after_lists l g s

abbrev pub after_letters : List ℕ → Prog Language
after_letters l = labels 7 >>= λ g. after_groups l g

-- the entries of a list, and of a language
abbrev pub entry_count : Labels → ℕ
entry_count d = length d.entries

abbrev pub size_of : Language → ℕ
size_of l = length (entries_of l)

pub entries_long : (l : Language) → size_of l ≡ length l.1.0 + (length l.1.1.0 + length l.1.1.1.0)
unfolding tables flat_map
entries_long l =
    let a = map (borne_row (label 7)) l.1.0 in
    let b = map (borne_row (label 5)) l.1.1.0 in
    let c = map (borne_row (label 5)) l.1.1.1.0 in
    omega (
      arith,
      length-append a (b ++ (c ++ [])),
      length-append b (c ++ []),
      length-append c [],
      length-map l.1.0 (borne_row (label 7)),
      length-map l.1.1.0 (borne_row (label 5)),
      length-map l.1.1.1.0 (borne_row (label 5)),
    )

ends_three : (s : List ℕ) (at : ℕ) {o : Out ℕ} → o ≡ run (pass 3) s at → end_of o ≡ end_of (run (u8s 3) s at)
ends_three s at e = ap end_of e ∙ sym (bytes_end_lem 3 s at)

-- measured: its three bytes, then list after list
module _ (s : List ℕ) (at : ℕ) (h : at ≤ length s) where
  pub letters_lack : {x : Short} → short x ≡ run (pass 3) s at → Summed language size_of 381 s at (Err x)
  unfolding language_over
  letters_lack e = summed_short (cut_off_as (u8s 3) (λ l. tt) after_letters (begun language s at h) (ends_three s at e))

  module _ {p n : ℕ} (e : done p n ≡ run (pass 3) s at) where
    three : (l : List ℕ) × From language s at (after_letters l) n
    unfolding language_over
    three = let (l, r, _) = as_done (λ (l : List ℕ). tt) (run (u8s 3) s at) (sym (ends_three s at e)) in (l, onward (u8s 3) after_letters (begun language s at h) (sym r))

    pub letters_got : n ≤ length s
    letters_got = three.1.inside

    pub groups_lack : {y : Short} → Summed (labels 7) entry_count 127 s n (Err y) → Summed language size_of 381 s at (Err y)
    groups_lack x = summed_short (sum_cut_off (labels 7) (after_groups three.0) three.1 x)

    module _ {a n₂ : ℕ} (x : Summed (labels 7) entry_count 127 s n (Ok (a, n₂))) where
      went_after_groups : WentOn (labels 7) entry_count (after_groups three.0) language s at n a n₂
      went_after_groups = sum_onward (labels 7) (after_groups three.0) three.1 x

      pub groups_got : n₂ ≤ length s
      groups_got = went_after_groups.place.inside

      pub switch_groups_lack : {y : Short} → Summed (labels 5) entry_count 127 s n₂ (Err y) → Summed language size_of 381 s at (Err y)
      switch_groups_lack y = summed_short (sum_cut_off (labels 5) (after_lists three.0 went_after_groups.value) went_after_groups.place y)

      module _ {b n₃ : ℕ} (y : Summed (labels 5) entry_count 127 s n₂ (Ok (b, n₃))) where
        went_after_switch_groups : WentOn (labels 5) entry_count (after_lists three.0 went_after_groups.value) language s at n₂ b n₃
        went_after_switch_groups = sum_onward (labels 5) (after_lists three.0 went_after_groups.value) went_after_groups.place y

        pub switch_groups_got : n₃ ≤ length s
        switch_groups_got = went_after_switch_groups.place.inside

        with_presets : Labels → Language
        with_presets d = language_is three.0 went_after_groups.value went_after_switch_groups.value d

        pub presets_lack : {y : Short} → Summed (labels 5) entry_count 127 s n₃ (Err y) → Summed language size_of 381 s at (Err y)
        unfolding with_presets
        presets_lack z = summed_short (sum_cut_off (labels 5) (λ d. ret (with_presets d)) went_after_switch_groups.place z)

        pub language_counted : {v m : ℕ} → Summed (labels 5) entry_count 127 s n₃ (Ok (v, m)) → Summed language size_of 381 s at (Ok (a + (b + v), m))
        unfolding with_presets
        language_counted z =
            let w = sum_onward (labels 5) (λ d. ret (with_presets d)) went_after_switch_groups.place z in
            summed_done (finished w.place refl) (omega (arith, went_after_groups.is, went_after_switch_groups.is, w.is, entries_long (with_presets w.value)))
            (omega (arith, x.small, y.small, z.small))

-- ---- a language that was read

pub record LanguageRun (s : List ℕ) (at : ℕ) (l : Language) (m : ℕ) : Type 0 where
  pub letters_there : at + 3 ≤ length s
  pub groups : Labels
  pub switch_groups : Labels
  pub presets : Labels
  pub groups_end_lem : ℕ
  pub switch_groups_end : ℕ
  pub groups_read : run (labels 7) s (at + 3) ≡ done groups groups_end_lem
  pub switch_groups_read : run (labels 5) s groups_end_lem ≡ done switch_groups switch_groups_end
  pub presets_read : run (labels 5) s switch_groups_end ≡ done presets m
  pub is : l ≡ language_is (slice at (at + 3) s) groups switch_groups presets

letter_at : (s : List ℕ) (at i : ℕ) → i < 3 → get_or (slice at (at + 3) s) i 0 ≡ get_or s (at + i) 0
letter_at s at i h = get_or-drop at (take (at + 3) s) i 0 ∙ get_or-take (at + 3) s (at + i) 0 (omega arith)

pub letters_so : (s : List ℕ) (at : ℕ) → let l = slice at (at + 3) s in letters_at s at ≡ letters (part 0 8 (get_or l 0 0)) (part 0 8 (get_or l 1 0)) (part 0 8 (get_or l 2 0))
letters_so s at =
    let a = letter_at s at 0 (omega arith) ∙ ap (λ (n : ℕ). get_or s n 0) (add-zero at) in
    λ i. letters (part 0 8 (sym a i)) (part 0 8 (sym (letter_at s at 1 (omega arith)) i)) (part 0 8 (sym (letter_at s at 2 (omega arith)) i))

pub letters_are : (s : List ℕ) (at : ℕ) {a b c x y z : ℕ} → x ≡ get_or s at 0 → a ≡ part 0 8 x → y ≡ get_or s (at + 1) 0 → b ≡ part 0 8 y → z ≡ get_or s (at + 2) 0
    → c ≡ part 0 8 z → letters a b c ≡ letters_at s at
letters_are s at d e f g h k = λ i. letters ((e ∙ ap (part 0 8) d) i) ((g ∙ ap (part 0 8) f) i) ((k ∙ ap (part 0 8) h) i)

pub language_run : (s : List ℕ) (at : ℕ) {l : Language} {m : ℕ} → run language s at ≡ done l m → LanguageRun s at l m
unfolding language_over
language_run s at {l} {m} e =
    let (h, e₁) = bytes_taken s at 3 after_letters e in
    let b = slice at (at + 3) s in
    let x = run_split (labels 7) (after_groups b) s (at + 3) l m e₁ in
    let y = run_split (labels 5) (after_lists b x.value) s x.middle l m x.second in
    let z = run_split (labels 5) (λ p. ret (language_is b x.value y.value p)) s y.middle l m y.second in
    let (q, n) = run_ret _ s z.middle z.second in
    record {
      letters_there = h;
      groups = x.value;
      switch_groups = y.value;
      presets = z.value;
      groups_end_lem = x.middle;
      switch_groups_end = y.middle;
      groups_read = x.first;
      switch_groups_read = y.first;
      presets_read = z.first ∙ ap (done z.value) n;
      is = sym q;
    }

pub language_weighs : (s : List ℕ) (at : ℕ) (l : Language) (m : ℕ) → run language s at ≡ done l m → at + size_of l ≤ m
language_weighs s at l m e =
    let r = language_run s at e in
    let n = ap size_of r.is ∙ entries_long (language_is (slice at (at + 3) s) r.groups r.switch_groups r.presets) in
    omega (arith, n, (list_run 7 s _ r.groups_read).weighs, (list_run 5 s _ r.switch_groups_read).weighs, (list_run 5 s _ r.presets_read).weighs)

-- the entries of all languages are those of each, summed
pub entries_summed : sum size_of ≡ λ ls. length (flat_map entries_of ls)
entries_summed = λ i ls. sym (flat_length entries_of ls) i

-- ---- the body

abbrev pub body_is : ℕ → ℕ → List Language → TextLabel
body_is id b l = (part 0 8 id ∷ part 4 4 b ∷ part 0 4 b ∷ [], (l, tt))

abbrev pub after_head : ℕ → ℕ → Prog TextLabel
after_head id b = many (part 0 4 b) language >>= λ l. ret (body_is id b l)

abbrev pub program : Prog TextLabel
program = text_label_over language

as_program : (s : List ℕ) {o : Out TextLabel} → run program s 0 ≡ o → run kind.program s 0 ≡ o
as_program s e = ap (λ (p : Prog TextLabel). run p s 0) parse_over ∙ e

pub head_there : (s : List ℕ) → 2 ≤ length s → From kind.program s 0 (after_head (get_or s 0 0) (get_or s 1 0)) 2
unfolding text_label_over singly each
head_there s h = record { same = as_program s (singly_there 2 (λ l. after_head (get_or l 0 0) (get_or l 1 0)) s 0 h); inside = h }

pub count_four : (b : ℕ) {count : ℕ} → count ≡ part 0 4 b → count < 16
count_four b e = omega (arith, e, part_below 0 4 b)

-- measured: its first two bytes, then its languages
abbrev pub rows_in : TextLabel → ℕ
rows_in t = length (flat_map entries_of t.1.0)

module _ (s : List ℕ) where
  module _ {x : Short} (e : short x ≡ ends (ones 2) s 0) where
    head_cut : run kind.program s 0 ≡ short x
    unfolding text_label_over singly
    head_cut = as_program s (singly_cut 2 (λ l. after_head (get_or l 0 0) (get_or l 1 0)) s 0 (sym e))

    pub head_lacks : Summed kind.program rows_in 5715 s 0 (Err x)
    head_lacks = summed_short (sym head_cut)

    -- such a body is refused before anything else is asked
    pub headless : Measures kind s (too_short x)
    unfolding ones total
    headless = measures_short kind s (omega (arith, ends_few (ones 2) s 0 (sym e))) head_cut

  module _ {n : ℕ} (e : done tt n ≡ ends (ones 2) s 0) where
    two_taken : n ≡ 2
    unfolding ones total
    two_taken = ends_at (ones 2) s 0 (sym e)

    pub head_got : n ≤ length s
    head_got = ends_within (ones 2) s 0 (omega arith) (sym e)

    pub second_there : 1 < length s
    second_there = omega (arith, two_taken, head_got)

    pub body_counted : {b count : ℕ} {r : Result (ℕ × ℕ) Short} → b ≡ get_or s 1 0 → count ≡ part 0 4 b
        → Summed (many count language) (λ l. length (flat_map entries_of l)) (381 * count) s n r → Summed kind.program rows_in 5715 s 0 r
    body_counted {r = r} u v x =
        go r (subst (λ (c : ℕ). Summed (many c language) (λ l. length (flat_map entries_of l)) (381 * c) s 2 r) (v ∙ ap (part 0 4) u) (rw two_taken at x))
      where
        c : ℕ
        c = part 0 4 (get_or s 1 0)

        go : (r : Result (ℕ × ℕ) Short) → Summed (many c language) (λ l. length (flat_map entries_of l)) (381 * c) s 2 r → Summed kind.program rows_in 5715 s 0 r
        go (Ok y) x =
            let g = sum_onward (many c language) (λ l. ret (body_is (get_or s 0 0) (get_or s 1 0) l)) (head_there s second_there) x in
            summed_done (finished g.place refl) (sym g.is) (omega (arith, x.small, count_four (get_or s 1 0) {count = c} refl))
        go (Err y) x = summed_short (sum_cut_off (many c language) (λ l. ret (body_is (get_or s 0 0) (get_or s 1 0) l)) (head_there s second_there) x)

-- the languages of a body that was read begin behind the second byte
pub record BodyRun (s : List ℕ) (t : TextLabel) (k : ℕ) : Type 0 where
  pub inside : 2 ≤ length s
  pub is : t.0 ≡ part 0 8 (get_or s 0 0) ∷ part 4 4 (get_or s 1 0) ∷ part 0 4 (get_or s 1 0) ∷ []
  pub counted : length t.1.0 ≡ part 0 4 (get_or s 1 0)
  pub reads : run (many (length t.1.0) language) s 2 ≡ done t.1.0 k

pub body_run : (s : List ℕ) {t : TextLabel} {k : ℕ} → run kind.program s 0 ≡ done t k → BodyRun s t k
unfolding text_label_over
body_run s {t} {k} e =
    let (h, e₁) = byte_taken s 0 (λ id. u8 >>= after_head id) (ap (λ (p : Prog TextLabel). run p s 0) (sym parse_over) ∙ e) in
    let (h₁, e₂) = byte_taken s 1 (after_head (get_or s 0 0)) e₁ in
    let b = get_or s 1 0 in
    let x = run_split (many (part 0 4 b) language) (λ l. ret (body_is (get_or s 0 0) b l)) s 2 t k e₂ in
    let (q, n) = run_ret _ s x.middle x.second in
    let c = many_long language s (part 0 4 b) 2 x.value _ x.first in
    subst (λ (t : TextLabel). BodyRun s t k) q
    (record { inside = omega (arith, h₁); is = refl; counted = c; reads = (λ i. run (many (c i) language) s 2) ∙ x.first ∙ ap (done x.value) n })
