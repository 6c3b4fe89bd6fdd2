-- The walk along a scene body, section after section, is its program; and what it finds decides the record, the rows and the sizes.
use Rattle.std.specs.Prelude.{Result, Ok, Err}
use Prim.Native.Nat.{ℕ, ◌≤◌}
use mathlib.Core.Path.{◌≡◌, refl, sym, ap, subst, ◌∙◌}
use mathlib.Core.List.{List}
use native.Mathlib.Omega.{arith}
use lib.ListN.{length}
use Rattle.wire.specs.Lists.{sum}
use Rattle.wire.specs.Prog.{Prog, ret, Out, done, short, run, ◌>>=◌}
use Rattle.wire.specs.Reads.{end_of, Summed}
use Rattle.wire.specs.Straight.{ends, ones}
use Rattle.wire.specs.Layout.{flat, Family, kids}
use Rattle.wire.specs.declared.reads.Short.{Short}
use Rattle.wire.proofs.Reading.Walk.{From, byte_next, onward, Passed, end_onward, end_cut_off, finished}
use Rattle.wire.proofs.Reading.Loops.{WentOn, sum_onward, sum_cut_off}
use Rattle.wire.proofs.Layouts.Families.{kids_summed}
use Rattle.wire.proofs.Layouts.Straight.{Past, singly, singly_cut}
use Rattle.scene_groups.specs.Layout.{group}
use Rattle.switch_groups.specs.Layout.{switch_group_list}
use Rattle.presets.specs.Layout.{presets}
use Rattle.scene.specs.declared.parsing.Places.{Places}
use Rattle.scene_kind.specs.Rows.{Scene}
use Rattle.scene_kind.specs.Read.{Section, section, scene_over}
use Rattle.scene_kind.specs.Kind.{kind}
use Rattle.scene.specs.Walk.{groups_flag, switches_flag, presets_flag, Found, tree_of, tree}
use Rattle.scene_kind.proofs.Mirrored.{parse_over}

-- ---- the program from section to section

abbrev pub behind_presets : List ℕ → Section (List ℕ) → Section Family → Section Family → Prog Scene
behind_presets s g x p = ret (tree_of s g x p)

abbrev pub behind_switches : List ℕ → Section (List ℕ) → Section Family → Prog Scene
behind_switches s g x = section (presets_flag s) 3 5 7 presets >>= behind_presets s g x

abbrev pub behind_groups : List ℕ → Section (List ℕ) → Prog Scene
behind_groups s g = section (switches_flag s) 3 5 7 switch_group_list >>= behind_switches s g

abbrev pub behind_head_lem : List ℕ → Prog Scene
behind_head_lem s = section (groups_flag s) 1 7 1 (flat 27 group) >>= behind_groups s

-- ---- the first two bytes

pub head_there : (s : List ℕ) → 2 ≤ length s → From kind.program s 0 (behind_head_lem s) 2
unfolding scene_over
head_there s h = record {
  same = ap (λ (p : Prog Scene). run p s 0) parse_over ∙ byte_next _ s 0 (omega arith) refl ∙ byte_next _ s 1 (omega arith) refl;
  inside = h;
}

pub head_cut : (s : List ℕ) {x : Short} → short x ≡ ends (ones 2) s 0 → run kind.program s 0 ≡ short x
unfolding scene_over singly
head_cut s e = ap (λ (p : Prog Scene). run p s 0) parse_over ∙ singly_cut 2 behind_head_lem s 0 (sym e)

-- ---- section after section, each with the flag as code has it

abbrev members : Section Family → ℕ
members x = length (kids x.rows)

-- as code counts them, row by row
abbrev pub counted : Section Family → ℕ
counted x = sum (λ y. length y.1) x.rows

abbrev pub InGroups : List ℕ → ℕ → Type 0
InGroups s m = Passed (section (groups_flag s) 1 7 1 (flat 27 group)) (behind_groups s) kind.program s 0 2 m

module _ {s : List ℕ} {n g : ℕ} (h : Past s 0 2 n) (q : g ≡ groups_flag s) where
  same : {o : Out (Unit {0})} → o ≡ end_of (run (section g 1 7 1 (flat 27 group)) s n) → o ≡ end_of (run (section (groups_flag s) 1 7 1 (flat 27 group)) s 2)
  same e = e ∙ (λ i. end_of (run (section (q i) 1 7 1 (flat 27 group)) s (h.is i)))

  pub groups_found : {m : ℕ} → done tt m ≡ end_of (run (section g 1 7 1 (flat 27 group)) s n) → InGroups s m
  groups_found e = end_onward (section (groups_flag s) 1 7 1 (flat 27 group)) (behind_groups s) (head_there s h.inside) (same e)

  pub groups_cut : {x : Short} → short x ≡ end_of (run (section g 1 7 1 (flat 27 group)) s n) → run kind.program s 0 ≡ short x
  groups_cut e = sym (end_cut_off (section (groups_flag s) 1 7 1 (flat 27 group)) (behind_groups s) (head_there s h.inside) (same e))

pub record InSwitches (s : List ℕ) (m v n : ℕ) : Type 0 where
  pub before : InGroups s m
  pub small : v ≤ 992
  pub on : WentOn (section (switches_flag s) 3 5 7 switch_group_list) members (behind_switches s before.value) kind.program s 0 m v n

module _ {s : List ℕ} {t m : ℕ} (w : InGroups s m) (q : t ≡ switches_flag s) where
  summed : {r : Result (ℕ × ℕ) Short} → Summed (section t 3 5 7 switch_group_list) counted 992 s m r → Summed (section (switches_flag s) 3 5 7 switch_group_list) members 992 s m r
  summed {r} x =
      subst (λ (t : ℕ). Summed (section t 3 5 7 switch_group_list) members 992 s m r) q
      (subst (λ (f : List Family → ℕ). Summed (section t 3 5 7 switch_group_list) (λ y. f y.rows) 992 s m r) kids_summed x)

  pub switches_found : {v n : ℕ} → Summed (section t 3 5 7 switch_group_list) counted 992 s m (Ok (v, n)) → InSwitches s m v n
  switches_found x = record { before = w; small = x.small; on = sum_onward (section (switches_flag s) 3 5 7 switch_group_list) (behind_switches s w.value) w.place (summed x) }

  pub switches_cut : {y : Short} → Summed (section t 3 5 7 switch_group_list) counted 992 s m (Err y) → run kind.program s 0 ≡ short y
  switches_cut x = sym (sum_cut_off (section (switches_flag s) 3 5 7 switch_group_list) (behind_switches s w.value) w.place (summed x))

module _ {s : List ℕ} {u m v n : ℕ} (w : InSwitches s m v n) (q : u ≡ presets_flag s) where
  summed_presets : {r : Result (ℕ × ℕ) Short} → Summed (section u 3 5 7 presets) counted 496 s n r → Summed (section (presets_flag s) 3 5 7 presets) members 496 s n r
  summed_presets {r} x =
      subst (λ (u : ℕ). Summed (section u 3 5 7 presets) members 496 s n r) q
      (subst (λ (f : List Family → ℕ). Summed (section u 3 5 7 presets) (λ y. f y.rows) 496 s n r) kids_summed x)

  pub all_found : 2 ≤ length s → {c k : ℕ} → Summed (section u 3 5 7 presets) counted 496 s n (Ok (c, k))
      → Found s (record { switch_groups = m; presets = n; members = v; conditions = c; k = k })
  all_found h x =
      let y = sum_onward (section (presets_flag s) 3 5 7 presets) (behind_presets s w.before.value w.on.value) w.on.place (summed_presets x) in
      record {
        in_groups = w.before.value;
        in_switches = w.on.value;
        in_presets = y.value;
        head = h;
        groups_read = w.before.reads;
        switches_read = w.on.reads;
        presets_read = y.reads;
        members_are = sym w.on.is;
        conditions_are = sym y.is;
        members_few = w.small;
        conditions_few = x.small;
      }

  pub presets_cut : {y : Short} → Summed (section u 3 5 7 presets) counted 496 s n (Err y) → run kind.program s 0 ≡ short y
  presets_cut x = sym (sum_cut_off (section (presets_flag s) 3 5 7 presets) (behind_presets s w.before.value w.on.value) w.on.place (summed_presets x))

-- ---- what was found

pub found_reads : (s : List ℕ) (p : Places) (f : Found s p) → run kind.program s 0 ≡ done (tree f) p.k
found_reads s p f =
    let w₀ = head_there s f.head in
    let w₁ = onward (section (groups_flag s) 1 7 1 (flat 27 group)) (behind_groups s) w₀ (sym f.groups_read) in
    let w₂ = onward (section (switches_flag s) 3 5 7 switch_group_list) (behind_switches s f.in_groups) w₁ (sym f.switches_read) in
    let w₃ = onward (section (presets_flag s) 3 5 7 presets) (behind_presets s f.in_groups f.in_switches) w₂ (sym f.presets_read) in
    sym (finished w₃ refl)
