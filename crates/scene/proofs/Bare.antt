-- A body whose sections have no rows is found at once, and needs no table; one that ends before the byte of its first section is short.
use Rattle.std.specs.Prelude.{Ok}
use Prim.Native.Nat.{ℕ, zero, suc, ◌+◌, ◌≤◌, ◌<◌}
use mathlib.Core.Path.{◌≡◌, refl, sym, ap, subst, ◌∙◌}
use mathlib.Core.List.{List, [], ◌∷◌, flat_map}
use mathlib.Core.Bool.{Bool, true, false, ◌&&◌}
use native.Mathlib.Omega.{arith}
use lib.ListN.{length, get_or}
use lib.Dec.{eqb, leb}
use borrow.Author.Tests.{eqb-true, ne_eqb, eq-eqb, leb-false}
use Rattle.wire.specs.Lists.{Every, all_nil, all_cons, firsts}
use Rattle.wire.specs.Bits.{part, total}
use Rattle.wire.specs.Prog.{Prog, Out, done, short, needing, run, many, ◌>>=◌}
use Rattle.wire.specs.Reads.{map_out}
use Rattle.wire.specs.Act.{pick}
use Rattle.wire.specs.Straight.{ends, ones}
use Rattle.wire.specs.declared.reads.Short.{Short}
use Rattle.wire.specs.Layout.{flat, Family}
use Rattle.wire.proofs.Writing.Acts.{and_both}
use Rattle.wire.proofs.Reading.Walk.{From, onward, cut_off}
use Rattle.wire.proofs.Layouts.Cells.{clash}
use Rattle.wire.proofs.Layouts.Straight.{ones_lacks, ends_few, Past, ones_past}
use Rattle.frame.specs.Body.{tables}
use Rattle.frame.specs.Entry.{too_short, Measures}
use Rattle.frame.proofs.Entries.{measures_short}
use Rattle.frame.proofs.Tables.{Empty, empty_opens}
use Rattle.scene_groups.specs.Layout.{group}
use Rattle.switch_groups.specs.Layout.{switch_group_list}
use Rattle.presets.specs.Layout.{presets}
use Rattle.scene_kind.specs.Read.{Section, section}
use Rattle.scene_kind.specs.Rows.{Scene, scene_is}
use Rattle.scene_kind.specs.Kind.{kind}
use Rattle.scene.specs.declared.parsing.Places.{Places}
use Rattle.scene.specs.Walk.{Flags, rows_at, count_at, groups_flag, switches_flag, presets_flag, tree, Bare, Opens}
use Rattle.scene.proofs.Sections.{section_of, section_so, section_cut}
use Rattle.scene.proofs.Walked.{behind_groups, head_there, head_cut, found_reads}

-- ---- sections without rows

section_bare : {A : Type 0} (p : Prog A) (r w ones : ℕ) (s : List ℕ) (flag at : ℕ) → rows_at flag at ≤ length s → count_at w s flag at ≡ 0
    → run (section flag r w ones p) s at ≡ done (section_of p r w ones s flag at []) (rows_at flag at)
unfolding many run
section_bare p r w ones s flag at h e = section_so p r w ones s flag at h ∙ ap (λ (c : ℕ). map_out (section_of p r w ones s flag at) (run (many c p) s (rows_at flag at))) e

rows_at_most : (flag at : ℕ) → at ≤ rows_at flag at
unfolding rows_at
rows_at_most flag at = omega arith

pub rows_at_near : (flag at : ℕ) → rows_at flag at ≤ at + 1
unfolding rows_at
rows_at_near flag at = go (eqb flag 1)
  where
    go : (b : Bool) → at + pick b 1 0 ≤ at + 1
    go true = omega arith
    go false = omega arith

-- the byte of a section is there, if that of the next is
pub stand : {n : ℕ} (t q a b k : ℕ) → b ≡ rows_at t a → k ≡ rows_at q b → k ≤ n → rows_at t a ≤ n
stand t q a b k y z h = let i = rows_at_most q b in omega arith

bare_found : (s : List ℕ) → 2 ≤ length s → {a b k : ℕ} → a ≡ rows_at (groups_flag s) 2 → b ≡ rows_at (switches_flag s) a → k ≡ rows_at (presets_flag s) b → k ≤ length s
    → count_at 7 s (groups_flag s) 2 ≡ 0 → count_at 5 s (switches_flag s) a ≡ 0 → count_at 5 s (presets_flag s) b ≡ 0
    → Bare s (record { switch_groups = a; presets = b; members = 0; conditions = 0; k = k })
unfolding flat_map
bare_found s h {a} {b} {k} ea eb ek l x y z =
    let i = rows_at_most (presets_flag s) b in
    let j = rows_at_most (switches_flag s) a in
    let u = section_bare (flat 27 group) 1 7 1 s (groups_flag s) 2 (omega arith) x in
    let v = section_bare switch_group_list 3 5 7 s (switches_flag s) a (omega arith) y in
    let w = section_bare presets 3 5 7 s (presets_flag s) b (omega arith) z in
    record {
      found = record {
        in_groups = section_of (flat 27 group) 1 7 1 s (groups_flag s) 2 [];
        in_switches = section_of switch_group_list 3 5 7 s (switches_flag s) a [];
        in_presets = section_of presets 3 5 7 s (presets_flag s) b [];
        head = h;
        groups_read = u ∙ ap (done (section_of (flat 27 group) 1 7 1 s (groups_flag s) 2 [])) (sym ea);
        switches_read = v ∙ ap (done (section_of switch_group_list 3 5 7 s (switches_flag s) a [])) (sym eb);
        presets_read = w ∙ ap (done (section_of presets 3 5 7 s (presets_flag s) b [])) (sym ek);
        members_are = refl;
        conditions_are = refl;
        members_few = omega arith;
        conditions_few = omega arith;
      };
      no_groups = refl;
      no_switches = refl;
      no_presets = refl;
    }

-- with the flags and the counts as code has them
pub bare_so : {s : List ℕ} {g t q : ℕ} → 2 ≤ length s → Flags s g t q → {a b k y z : ℕ} → a ≡ rows_at g 2 → b ≡ rows_at t a → k ≡ rows_at q b → k ≤ length s
    → count_at 7 s g 2 ≡ 0 → y ≡ count_at 5 s t a → z ≡ count_at 5 s q b → eqb y 0 && eqb z 0 ≡ true
    → Bare s (record { switch_groups = a; presets = b; members = 0; conditions = 0; k = k })
bare_so {s} h w {a} {b} {k} {y} {z} ea eb ek l x0 ey ez n =
    let (u, v) = and_both (eqb y 0) (eqb z 0) n in
    let y0 = eqb-true y 0 u in
    let z0 = eqb-true z 0 v in
    bare_found s h (ea ∙ ap (λ (g : ℕ). rows_at g 2) w.of_groups) (eb ∙ ap (λ (t : ℕ). rows_at t a) w.of_switches) (ek ∙ ap (λ (q : ℕ). rows_at q b) w.of_presets) l
    (ap (λ (g : ℕ). count_at 7 s g 2) (sym w.of_groups) ∙ x0)
    (ap (λ (t : ℕ). count_at 5 s t a) (sym w.of_switches) ∙ sym ey ∙ y0)
    (ap (λ (q : ℕ). count_at 5 s q b) (sym w.of_presets) ∙ sym ez ∙ z0)

-- no section at all
pub none_so : {s : List ℕ} {n v : ℕ} → Past s 0 2 n → v ≡ get_or s 0 0 → v < 32 → Bare s (record { switch_groups = n; presets = n; members = 0; conditions = 0; k = n })
unfolding rows_at count_at
none_so {s} {n} {v} h e l =
    let i = h.inside in
    let m = h.is in
    let x : groups_flag s ≡ 0 = omega arith in
    let y : switches_flag s ≡ 0 = omega arith in
    let z : presets_flag s ≡ 0 = omega arith in
    let absent : (v : ℕ) → v ≡ 0 → rows_at v n ≡ n = λ v e. ap (λ (v : ℕ). rows_at v n) e ∙ omega arith in
    let uncounted : (m v at : ℕ) → v ≡ 0 → count_at m s v at ≡ 0 = λ m v at e. ap (λ (v : ℕ). count_at m s v at) e in
    bare_found s i (sym (ap (rows_at (groups_flag s)) (sym m) ∙ absent _ x)) (sym (absent _ y)) (sym (absent _ z)) (omega arith) (uncounted 7 _ 2 x) (uncounted 5 _ n y)
    (uncounted 5 _ n z)

-- they need no table, and none changes
pub bare_opens : {s : List ℕ} {p : Places} → Bare s p → length s < 65536 → (x y z u v : List ℕ) → Opens s (x ∷ y ∷ z ∷ u ∷ v ∷ []) (Ok p) (x ∷ y ∷ z ∷ u ∷ v ∷ [])
unfolding kind tables firsts flat_map
bare_opens {s} {p} b h x y z u v =
    let f = b.found in
    let e : tree f ≡ scene_is (tree f).0 [] [] [] = λ i. scene_is (tree f).0 (b.no_groups i) (b.no_switches i) (b.no_presets i) in
    let none : Every Empty (kind.tables (tree f)) =
    subst (λ (t : Scene). Every Empty (kind.tables t)) (sym e) (all_cons refl (all_cons refl (all_cons refl (all_cons refl (all_cons refl all_nil))))) in
    record { gives = empty_opens kind s h (found_reads s p f) f (x ∷ y ∷ z ∷ u ∷ v ∷ []) refl none }

-- ---- cut before the byte of its first section

section_missing : {A : Type 0} (p : Prog A) (r w full : ℕ) (s : List ℕ) (flag : ℕ) → length s ≡ 2 → flag ≡ 1 → run (section flag r w full p) s 2 ≡ short (needing 3)
section_missing p r w full s flag l e =
    let c : ends (ones (pick (eqb flag 1) 1 0)) s 2 ≡ short (needing 3) =
    ap (λ (b : Bool). ends (ones (pick b 1 0)) s 2) (eq-eqb flag 1 e) ∙ ones_lacks 1 s 2 (omega arith) (omega arith) ∙ ap (λ (n : ℕ). short (needing (n + 1))) l in
    section_cut p r w full s flag 2 c

section_passed : {A : Type 0} (p : Prog A) (r w full : ℕ) (s : List ℕ) (flag : ℕ) → length s ≡ 2 → (flag ≡ 1 → ⊥)
    → run (section flag r w full p) s 2 ≡ done (section_of p r w full s flag 2 []) 2
unfolding rows_at count_at
section_passed p r w full s flag l e =
    let x = ne_eqb flag 1 e in
    let a : rows_at flag 2 ≡ 2 = ap (λ (b : Bool). 2 + pick b 1 0) x in
    section_bare p r w full s flag 2 (omega arith) (ap (λ (b : Bool). pick b (part 0 w (get_or s 2 0)) 0) x) ∙ ap (done (section_of p r w full s flag 2 [])) a

cut : {A : Type 0} (p : Prog A) {s : List ℕ} (f : A → Prog Scene) → From kind.program s 0 (p >>= f) 2 → run p s 2 ≡ short (needing 3)
    → run kind.program s 0 ≡ short (needing 3)
cut p f w e = sym (cut_off p f w (sym e))

flag_is : (v : ℕ) → eqb v 1 ≡ true → v ≡ 1
flag_is v e = eqb-true v 1 e

flag_is_not : (v : ℕ) → eqb v 1 ≡ false → v ≡ 1 → ⊥
flag_is_not v e q = clash (eq-eqb v 1 q) e

-- a flag that is not 1 is 0
flag_off : (v : ℕ) → v < 2 → eqb v 1 ≡ false → v ≡ 0
flag_off zero h e = refl
flag_off (suc zero) h e = clash refl e
flag_off (suc (suc v)) h e = absurd (omega arith)

first_cut : (s : List ℕ) → length s ≡ 2 → 32 ≤ get_or s 0 0 → get_or s 0 0 < 256 → run kind.program s 0 ≡ short (needing 3)
first_cut s l low high = go (eqb (groups_flag s) 1) (eqb (switches_flag s) 1) (eqb (presets_flag s) 1) refl refl refl
  where
    groups : Prog (Section (List ℕ))
    groups = section (groups_flag s) 1 7 1 (flat 27 group)

    switches : Prog (Section Family)
    switches = section (switches_flag s) 3 5 7 switch_group_list

    w₀ : From kind.program s 0 (groups >>= behind_groups s) 2
    w₀ = head_there s (omega arith)

    w₁ : (groups_flag s ≡ 1 → ⊥) → From kind.program s 0 (behind_groups s (section_of (flat 27 group) 1 7 1 s (groups_flag s) 2 [])) 2
    w₁ a = onward groups (behind_groups s) w₀ (sym (section_passed (flat 27 group) 1 7 1 s (groups_flag s) l a))

    go : (x y z : Bool) → eqb (groups_flag s) 1 ≡ x → eqb (switches_flag s) 1 ≡ y → eqb (presets_flag s) 1 ≡ z → run kind.program s 0 ≡ short (needing 3)
    go true y z a b c = cut groups (behind_groups s) w₀ (section_missing (flat 27 group) 1 7 1 s (groups_flag s) l (flag_is _ a))
    go false true z a b c = cut switches _ (w₁ (flag_is_not _ a)) (section_missing switch_group_list 3 5 7 s (switches_flag s) l (flag_is _ b))
    go false false true a b c =
        cut (section (presets_flag s) 3 5 7 presets) _
        (onward switches _ (w₁ (flag_is_not _ a)) (sym (section_passed switch_group_list 3 5 7 s (switches_flag s) l (flag_is_not _ b))))
        (section_missing presets 3 5 7 s (presets_flag s) l (flag_is _ c))
    go false false false a b c =
        let x = flag_off (groups_flag s) (omega arith) a in
        let below : get_or s 0 0 < 128 = omega (arith, x) in
        let y = flag_off (switches_flag s) (omega arith) b in
        let lower : get_or s 0 0 < 64 = omega (arith, y, below) in
        absurd (omega (arith, flag_off (presets_flag s) (omega arith) c, lower))

-- the read of that byte tells: it is there, or the body is cut
module _ (s : List ℕ) (h : 2 ≤ length s) where
  pub first_there : {n : ℕ} → done tt n ≡ ends (ones 1) s 2 → 3 ≤ length s
  first_there e = (ones_past 1 s 2 h e).inside

  pub cut_so : 32 ≤ get_or s 0 0 → get_or s 0 0 < 256 → {x : Short} → short x ≡ ends (ones 1) s 2 → run kind.program s 0 ≡ short x
  unfolding ends ones
  cut_so low high {x} e = go (leb 3 (length s)) refl (sym e)
    where
      go : (b : Bool) → leb 3 (length s) ≡ b → ◌≡◌ {A = Out (Unit {0})} (elim b [ true ↦ done tt 3 | false ↦ short (needing 3) ]) (short x) → run kind.program s 0 ≡ short x
      go true q w = absurd (let z : ◌≡◌ {A = ℕ} 0 1 = cc w in omega arith)
      go false q w = let k = leb-false 3 (length s) q in let v : needing 3 ≡ x = cc w in first_cut s (omega (arith, k)) low high ∙ ap short v

-- without its first two bytes
pub headless : (s : List ℕ) {x : Short} → short x ≡ ends (ones 2) s 0 → Measures kind s (too_short x)
unfolding kind ones total
headless s e = measures_short kind s (omega (arith, ends_few (ones 2) s 0 (sym e))) (head_cut s e)
