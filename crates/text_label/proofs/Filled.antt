-- What the filling pass has at hand: the bytes of a language that is known to be there, room for its entries, and what is stored of it in both tables.
use Prim.Native.Nat.{ℕ, ◌+◌, ◌*◌, ◌≤◌}
use mathlib.Core.Path.{◌≡◌, refl, sym, ap, subst, ◌∙◌}
use mathlib.Core.List.{List, [], ◌++◌, append-nil, map, flatten, flat_map}
use native.Mathlib.Omega.{arith}
use lib.ListN.{length, get_or, length-append, length-map}
use lib.Seq.{sets, slice}
use Rattle.wire.specs.Lists.{each}
use Rattle.wire.specs.Prog.{done, run}
use Rattle.wire.specs.Layout.{of, Borne, borne, borne_row}
use Rattle.wire.specs.Nest.{Fillable, Nested, RowNested}
use Rattle.wire.proofs.Reading.Steps.{sets_append}
use Rattle.wire.proofs.Tables.{flat_map_lem}
use Rattle.wire.proofs.Reading.Nest.{Stored, nested_as}
use Rattle.wire.proofs.Layouts.Rowed.{each_wide, rows_long}
use Rattle.wire.proofs.Lists.{flatten_append}
use Rattle.frame.specs.Body.{tables}
use Rattle.frame.specs.Ranges.{ranged}
use Rattle.labels.specs.Layout.{label}
use Rattle.labels.specs.Read.{Labels, labels}
use Rattle.labels.specs.Rows.{list_from}
use Rattle.labels.specs.declared.rows.Descriptions.{Descriptions}
use Rattle.text_label.specs.declared.rows.DescriptionLanguage.{DescriptionLanguage}
use Rattle.text_label.specs.declared.rows.TextLabelLanguage.{TextLabelLanguage}
use Rattle.text_label.specs.Rows.{language_row, Language}
use Rattle.text_label.specs.Read.{letters_at, language_is, language}
use Rattle.text_label.specs.Kind.{entries_of}
use Rattle.text_label.specs.Contract.{row_from, language_from}
use Rattle.text_label.proofs.Found.{counted}
use Rattle.text_label.proofs.Parsed.{entry_count, size_of, entries_long, list_run, LanguageRun, letters_so, language_run, language_weighs}

-- ---- a language: its three lists one after the other

abbrev pub columns_of : ℕ → Labels → List ℕ
columns_of w d = flat_map (borne_row (label w)) d.entries

abbrev pub cells : Language → List ℕ
cells l = flatten (entries_of l)

columns_long : (w : ℕ) (d : Labels) → length (columns_of w d) ≡ length d.entries * 4
columns_long w d =
    let wide = each_wide 4 (λ (v : Borne). borne (label w) v.1.offset v.1.length (of v.0)) d.entries in
    ap length (flat_map_lem (borne_row (label w)) d.entries) ∙ rows_long 4 (map (borne_row (label w)) d.entries) wide
    ∙ ap (λ (n : ℕ). n * 4) (length-map d.entries (borne_row (label w)))

-- the columns of the three lists, one after the other
cells_so : (l : List ℕ) (g s p : Labels) → cells (language_is l g s p) ≡ columns_of 7 g ++ (columns_of 5 s ++ columns_of 5 p)
unfolding tables flat_map
cells_so l g s p =
    let rows : ℕ → Labels → List (List ℕ) = λ w d. map (borne_row (label w)) d.entries in
    flatten_append (rows 7 g) (rows 5 s ++ (rows 5 p ++ []))
    ∙ (λ i. sym (flat_map_lem (borne_row (label 7)) g.entries) i ++ flatten_append (rows 5 s) (append-nil (rows 5 p) i) i)
    ∙ (λ i. columns_of 7 g ++ (sym (flat_map_lem (borne_row (label 5)) s.entries) i ++ sym (flat_map_lem (borne_row (label 5)) p.entries) i))

cells_long : (s : List ℕ) (at : ℕ) {l : Language} {m : ℕ} → run language s at ≡ done l m → length (cells l) ≡ size_of l * 4
cells_long s at {l} e =
    let r = language_run s at e in
    let g = r.groups in
    let sw = r.switch_groups in
    let p = r.presets in
    let three = language_is (slice at (at + 3) s) g sw p in
    let n = ap length (cells_so (slice at (at + 3) s) g sw p) ∙ length-append (columns_of 7 g) (columns_of 5 sw ++ columns_of 5 p) in
    let k : length (cells three) ≡ size_of three * 4 =
    omega (arith, n, length-append (columns_of 5 sw) (columns_of 5 p), columns_long 7 g, columns_long 5 sw, columns_long 5 p, entries_long three) in
    subst (λ (l : Language). length (cells l) ≡ size_of l * 4) (sym r.is) k

module _ (s : List ℕ) (at first : ℕ) (t : List ℕ) (f : Fillable language 4 size_of s at first t) where
  the_language : LanguageRun s at f.value f.end
  the_language = language_run s at f.reads

  abbrev g₀ : Labels
  g₀ = the_language.groups

  abbrev s₀ : Labels
  s₀ = the_language.switch_groups

  abbrev p₀ : Labels
  p₀ = the_language.presets

  rows_three : size_of f.value ≡ length g₀.entries + (length s₀.entries + length p₀.entries)
  rows_three = ap size_of the_language.is ∙ entries_long (language_is (slice at (at + 3) s) g₀ s₀ p₀)

  pub letters_there : at + 3 ≤ length s
  letters_there = the_language.letters_there

  pub groups_ask : Fillable (labels 7) 4 entry_count s (at + 3) first t
  groups_ask = record { value = g₀; end = the_language.groups_end_lem; reads = the_language.groups_read; begun = letters_there; all = f.all; before = omega (arith, f.before); room = omega (arith, f.room, rows_three) }

  module _ {g : Descriptions} {n : ℕ} {t₁ : List ℕ} (a : Nested (labels 7) 4 list_from (columns_of 7) s (at + 3) first t g n t₁) {first₂ : ℕ} (x : first₂ ≡ g.entries.first + g.entries.count) where
    groups_so : Stored list_from 4 (columns_of 7) first t g₀ the_language.groups_end_lem g n t₁
    groups_so = nested_as a the_language.groups_read

    second : first₂ ≡ first + length g₀.entries
    second =
        x ∙ ap (λ (d : Descriptions). d.entries.first + d.entries.count) groups_so.is
        ∙ ap (λ (k : ℕ). first + k) (list_run 7 s (at + 3) the_language.groups_read).counted

    pub switch_groups_ask : Fillable (labels 5) 4 entry_count s n first₂ t₁
    switch_groups_ask =
        let w = (list_run 7 s (at + 3) the_language.groups_read).weighs in
        let k = (list_run 5 s the_language.groups_end_lem the_language.switch_groups_read).inside in
        record {
          value = s₀;
          end = the_language.switch_groups_end;
          reads = ap (run (labels 5) s) groups_so.on ∙ the_language.switch_groups_read;
          begun = omega (arith, k, groups_so.on);
          all = f.all;
          before = omega (arith, second, w, f.before, groups_so.on);
          room = omega (arith, f.room, rows_three, second, groups_so.long);
        }

    module _ {sw : Descriptions} {m : ℕ} {t₂ : List ℕ} (b : Nested (labels 5) 4 list_from (columns_of 5) s n first₂ t₁ sw m t₂) {first₃ : ℕ} (y : first₃ ≡ sw.entries.first + sw.entries.count) where
      switch_groups_so : Stored list_from 4 (columns_of 5) first₂ t₁ s₀ the_language.switch_groups_end sw m t₂
      switch_groups_so = nested_as b (ap (run (labels 5) s) groups_so.on ∙ the_language.switch_groups_read)

      third : first₃ ≡ first + length g₀.entries + length s₀.entries
      third =
          y ∙ ap (λ (d : Descriptions). d.entries.first + d.entries.count) switch_groups_so.is
          ∙ (λ i. second i + (list_run 5 s the_language.groups_end_lem the_language.switch_groups_read).counted i)

      pub presets_ask : Fillable (labels 5) 4 entry_count s m first₃ t₂
      presets_ask =
          let w = (list_run 7 s (at + 3) the_language.groups_read).weighs in
          let v = (list_run 5 s the_language.groups_end_lem the_language.switch_groups_read).weighs in
          let k = (list_run 5 s the_language.switch_groups_end the_language.presets_read).inside in
          record {
            value = p₀;
            end = f.end;
            reads = ap (run (labels 5) s) switch_groups_so.on ∙ the_language.presets_read;
            begun = omega (arith, k, switch_groups_so.on);
            all = f.all;
            before = omega (arith, third, w, v, f.before, switch_groups_so.on);
            room = omega (arith, f.room, rows_three, third, groups_so.long, switch_groups_so.long);
          }

      module _ {p : Descriptions} {k : ℕ} {t₃ : List ℕ} (c : Nested (labels 5) 4 list_from (columns_of 5) s m first₃ t₂ p k t₃) where
        presets_so : Stored list_from 4 (columns_of 5) first₃ t₂ p₀ f.end p k t₃
        presets_so = nested_as c (ap (run (labels 5) s) switch_groups_so.on ∙ the_language.presets_read)

        all_stored : t₃ ≡ sets t (first * 4) (cells f.value)
        all_stored =
            let ga = columns_of 7 g₀ in
            let sa = columns_of 5 s₀ in
            let pa = columns_of 5 p₀ in
            let i : first₂ * 4 ≡ first * 4 + length ga = omega (arith, second, columns_long 7 g₀) in
            let j : first₃ * 4 ≡ first₂ * 4 + length sa = omega (arith, second, third, columns_long 5 s₀) in
            presets_so.stored
            ∙ (λ h. sets (switch_groups_so.stored h) (j h) pa)
            ∙ sym (sets_append t₁ (first₂ * 4) sa pa)
            ∙ (λ h. sets (groups_so.stored h) (i h) (sa ++ pa))
            ∙ sym (sets_append t (first * 4) ga (sa ++ pa))
            ∙ ap (sets t (first * 4)) (sym (ap cells the_language.is ∙ cells_so (slice at (at + 3) s) g₀ s₀ p₀))

        pub language_filled : {l : DescriptionLanguage} → l ≡ letters_at s at
            → Nested language 4 language_from cells s at first t (record { language = l; groups = g; switch_groups = sw; presets = p }) k t₃
        unfolding ranged each
        language_filled u = record {
          value = f.value;
          end = f.end;
          reads = f.reads;
          is =
              let z : sw ≡ list_from (first + length g₀.entries) s₀ = switch_groups_so.is ∙ ap (λ (n : ℕ). list_from n s₀) second in
              let v : p ≡ list_from (first + length g₀.entries + length s₀.entries) p₀ = presets_so.is ∙ ap (λ (n : ℕ). list_from n p₀) third in
              (λ i. record { language = (u ∙ letters_so s at) i; groups = groups_so.is i; switch_groups = z i; presets = v i }) ∙ ap (language_from first) (sym the_language.is);
          on = presets_so.on;
          stored = all_stored;
        }

-- ---- its row of table 6, which has the first row of each list

pub language_nested : (s : List ℕ) (at first : ℕ) (u : List ℕ) {l : TextLabelLanguage} {next behind : ℕ} {t t' u' row : List ℕ} {to : ℕ}
    → Nested language 4 language_from cells s at first u l next u'
    → behind ≡ l.presets.entries.first + l.presets.entries.count → row ≡ language_row l → t' ≡ sets t to row
    → RowNested language size_of row_from 12 cells 4 s at t to u first next behind t' u'
unfolding ranged each
language_nested s at first u {l} {next} {t = t} {to = to} n x y z =
    let d : run language s at ≡ done n.value next = n.reads ∙ ap (done n.value) (sym n.on) in
    let c = counted s at d in
    let e : behind_is n.value ≡ first + size_of n.value = omega (arith, c.presets, entries_long n.value) in
    record {
      value = n.value;
      reads = d;
      weighs = language_weighs s at n.value next d;
      wide = refl;
      tall = cells_long s at d;
      on = x ∙ ap (λ (r : TextLabelLanguage). r.presets.entries.first + r.presets.entries.count) n.is ∙ e;
      outer = z ∙ ap (sets t to) (y ∙ ap language_row n.is);
      inner = n.stored;
    }
  where
    behind_is : Language → ℕ
    behind_is v = first + length v.1.0 + length v.1.1.0 + get_or v.0 11 0
