-- A section of the scene body: its byte, if it is there, and its rows behind it; and what the walk finds is what the whole program reads.
use Rattle.std.specs.Prelude.{Result, Err}
use Prim.Native.Nat.{ℕ, ◌+◌, ◌^◌, ◌≤◌, ◌<◌}
use mathlib.Core.Path.{◌≡◌, refl, sym, ap, subst, ◌∙◌}
use mathlib.Core.List.{List, []}
use mathlib.Core.Bool.{Bool, true, false}
use native.Mathlib.Omega.{arith}
use native.Mathlib.Nat.{add-zero}
use lib.ListN.{length, get_or}
use lib.Dec.{eqb, leb}
use lib.Pow.{pow_pos}
use borrow.Author.Tests.{leb-true, leb-false, eq-eqb, ne_eqb}
use Rattle.wire.specs.Bits.{part, total, zeros}
use Rattle.wire.specs.Prog.{Prog, ret, Out, done, short, needing, run, u8, many, ◌>>=◌}
use Rattle.wire.specs.Reads.{map_out, end_of, Summed}
use Rattle.wire.specs.Act.{pick}
use Rattle.wire.specs.Straight.{ends, ones}
use Rattle.wire.specs.declared.reads.Short.{Short}
use Rattle.wire.proofs.Reading.Runs.{out_and_then, run_bind}
use Rattle.wire.proofs.Reading.Walk.{byte_next, as_done}
use Rattle.wire.proofs.Reading.Loops.{summed_short}
use Rattle.wire.proofs.Fields.{part_below, wider}
use Rattle.wire.proofs.Layouts.Straight.{ends_at, ends_within, ones_lacks, size_there}
use Rattle.scene_kind.specs.Read.{Section, section}
use Rattle.scene.specs.Walk.{rows_at, count_at, reserved_at, reserved_zeros}

-- ---- its byte

pub rows_at_so : (flag at : ℕ) {k : ℕ} → k ≡ pick (eqb flag 1) 1 0 → at + k ≡ rows_at flag at
unfolding rows_at
rows_at_so flag at e = ap (λ (k : ℕ). at + k) e

pub byte_there : (flag at n : ℕ) → flag ≡ 1 → rows_at flag at ≤ n → at < n
unfolding rows_at
byte_there flag at n e h = let l = size_there 1 flag at n e h in omega arith

module _ (s : List ℕ) (flag at : ℕ) where
  pub count_there : (w : ℕ) {v r : ℕ} → flag ≡ 1 → v ≡ get_or s at 0 → r ≡ part 0 w v → (r ≡ count_at w s flag at) × (r < 2 ^ w)
  unfolding count_at
  count_there w {v} e q d = (d ∙ ap (part 0 w) q ∙ ap (λ (x : Bool). pick x (part 0 w (get_or s at 0)) 0) (sym (eq-eqb flag 1 e)), rw d (part_below 0 w v))

  pub count_absent : (w : ℕ) → (flag ≡ 1 → ⊥) → (0 ≡ count_at w s flag at) × (0 < 2 ^ w)
  unfolding count_at
  count_absent w e = (ap (λ (x : Bool). pick x (part 0 w (get_or s at 0)) 0) (sym (ne_eqb flag 1 e)), pow_pos w)

  pub reserved_there : (r w none : ℕ) {v x : ℕ} → flag ≡ 1 → v ≡ get_or s at 0 → x ≡ part w r v → r ≤ 8 → (x ≡ reserved_at r w none s flag at) × (x < 256)
  unfolding reserved_at
  reserved_there r w none {v} e q d l =
      (d ∙ ap (part w r) q ∙ ap (λ (x : Bool). pick x (part w r (get_or s at 0)) none) (sym (eq-eqb flag 1 e)), rw d (wider r 8 l (part_below w r v)))

  pub reserved_absent : (r w none : ℕ) → (flag ≡ 1 → ⊥) → none < 256 → (none ≡ reserved_at r w none s flag at) × (none < 256)
  unfolding reserved_at
  reserved_absent r w none e l = (ap (λ (x : Bool). pick x (part w r (get_or s at 0)) none) (sym (ne_eqb flag 1 e)), l)

  -- where code stands after that byte
  pub record Begun (n : ℕ) : Type 0 where
    pub at_rows : n ≡ rows_at flag at
    pub there_is : rows_at flag at ≤ length s
    pub inside : n ≤ length s

  pub begins : {n k : ℕ} → at ≤ length s → k ≡ pick (eqb flag 1) 1 0 → done tt n ≡ ends (ones k) s at → Begun n
  unfolding ones total rows_at
  begins {n} {k} h q e =
      let e' : ends (ones (pick (eqb flag 1) 1 0)) s at ≡ done tt n = ap (λ (k : ℕ). ends (ones k) s at) (sym q) ∙ sym e in
      let m : n ≡ rows_at flag at = ends_at (ones (pick (eqb flag 1) 1 0)) s at e' ∙ go (eqb flag 1) in
      let i = ends_within (ones (pick (eqb flag 1) 1 0)) s at h e' in
      record { at_rows = m; there_is = rw (← m) i; inside = i }
    where
      go : (x : Bool) → at + total (ones (pick x 1 0)) ≡ at + pick x 1 0
      go true = refl
      go false = refl

  pub zeros_there : (r w : ℕ) {v x y : ℕ} → flag ≡ 1 → v ≡ get_or s at 0 → x ≡ part w r v → y ≡ zeros r x → y ≡ reserved_zeros r w s flag at
  unfolding reserved_zeros
  zeros_there r w e q d z = z ∙ ap (zeros r) (d ∙ ap (part w r) q) ∙ ap (λ (x : Bool). pick x (zeros r (part w r (get_or s at 0))) 0) (sym (eq-eqb flag 1 e))

  pub zeros_absent : (r w : ℕ) → (flag ≡ 1 → ⊥) → 0 ≡ reserved_zeros r w s flag at
  unfolding reserved_zeros
  zeros_absent r w e = ap (λ (x : Bool). pick x (zeros r (part w r (get_or s at 0))) 0) (sym (ne_eqb flag 1 e))

-- ---- its rows

module _ {A : Type 0} (p : Prog A) (r w none : ℕ) (s : List ℕ) (flag at : ℕ) where
  -- the section that has these rows
  abbrev pub section_of : List A → Section A
  section_of l = record { reserved = reserved_at r w none s flag at; count = count_at w s flag at; rows = l }

  rows_then : (f : List A → Section A) (k n : ℕ) → run (many k p >>= λ l. ret (f l)) s n ≡ map_out f (run (many k p) s n)
  unfolding run
  rows_then f k n = run_bind (many k p) (λ l. ret (f l)) s n ∙ go (run (many k p) s n)
    where
      go : (o : Out (List A)) → out_and_then o (λ l m. run (ret (f l)) s m) ≡ map_out f o
      go (done l m) = refl
      go (short x) = refl

  abbrev there : Prog (Section A)
  there = u8 >>= λ b. many (part 0 w b) p >>= λ l. ret (record { reserved = part w r b; count = part 0 w b; rows = l })

  abbrev absent : Section A
  absent = record { reserved = none; count = 0; rows = [] }

  -- its byte is there: the rows are read behind it
  pub section_so : rows_at flag at ≤ length s → run (section flag r w none p) s at ≡ map_out section_of (run (many (count_at w s flag at) p) s (rows_at flag at))
  unfolding section run many rows_at count_at reserved_at
  section_so h = go (eqb flag 1) h
    where
      go : (x : Bool) → at + pick x 1 0 ≤ length s
          → ◌≡◌ {A = Out (Section A)} (run (pick x there (ret absent)) s at)
          (map_out (λ l. record { reserved = pick x (part w r (get_or s at 0)) none; count = pick x (part 0 w (get_or s at 0)) 0; rows = l }) (run (many (pick x (part 0 w (get_or s at 0)) 0) p) s (at + pick x 1 0)))
      go true h = byte_next _ s at (omega arith) refl ∙ rows_then _ (part 0 w (get_or s at 0)) (at + 1)
      go false h = ap (done absent) (sym (add-zero at))

  -- it is not: nor is the section
  pub section_cut : {x : Short} → ends (ones (pick (eqb flag 1) 1 0)) s at ≡ short x → run (section flag r w none p) s at ≡ short x
  unfolding section run ones ends u8 ◌>>=◌
  section_cut {x} e = go (eqb flag 1) e
    where
      cut : (b : Bool) (q : Out (Section A)) → ◌≡◌ {A = Out (Unit {0})} (elim b [ true ↦ done tt (at + 1) | false ↦ short (needing (at + 1)) ]) (short x)
          → ◌≡◌ {A = Out (Section A)} (elim b [ true ↦ q | false ↦ short (needing (at + 1)) ]) (short x)
      cut true q e = absurd (let z : ◌≡◌ {A = ℕ} 0 1 = cc e in omega arith)
      cut false q e = let z : needing (at + 1) ≡ x = cc e in ap short z

      go : (y : Bool) → ends (ones (pick y 1 0)) s at ≡ short x → ◌≡◌ {A = Out (Section A)} (run (pick y there (ret absent)) s at) (short x)
      go true e = cut (leb (at + 1) (length s)) _ e
      go false e = absurd (let z : ◌≡◌ {A = ℕ} 0 1 = cc e in omega arith)

  missing : {k : ℕ} {x : Short} → k ≡ pick (eqb flag 1) 1 0 → short x ≡ ends (ones k) s at → run (section flag r w none p) s at ≡ short x
  missing q e = section_cut (ap (λ (k : ℕ). ends (ones k) s at) (sym q) ∙ sym e)

  pub section_cut_off : {k : ℕ} {x : Short} → k ≡ pick (eqb flag 1) 1 0 → short x ≡ ends (ones k) s at → short x ≡ end_of (run (section flag r w none p) s at)
  section_cut_off q e = sym (ap end_of (missing q e))

  pub section_cut_sum : (f : List A → ℕ) {k all : ℕ} {x : Short} → k ≡ pick (eqb flag 1) 1 0 → short x ≡ ends (ones k) s at
      → Summed (section flag r w none p) (λ z. f z.rows) all s at (Err x)
  section_cut_sum f q e = summed_short (sym (missing q e))

  -- the rows decide the end of the section, and what is known of them
  pub section_ends : {n k : ℕ} {o : Out (Unit {0})} → Begun s flag at n → k ≡ count_at w s flag at → o ≡ end_of (run (many k p) s n) → o ≡ end_of (run (section flag r w none p) s at)
  section_ends {n} {k} b q e =
      e ∙ (λ i. end_of (run (many (q i) p) s (b.at_rows i))) ∙ sym (ap end_of (section_so b.there_is) ∙ go (run (many (count_at w s flag at) p) s (rows_at flag at)))
    where
      go : (o : Out (List A)) → end_of (map_out section_of o) ≡ end_of o
      go (done l m) = refl
      go (short x) = refl

  pub section_sum : (f : List A → ℕ) {n k most all : ℕ} {x : Result (ℕ × ℕ) Short} → Begun s flag at n → k ≡ count_at w s flag at → most ≤ all → Summed (many k p) f most s n x
      → Summed (section flag r w none p) (λ y. f y.rows) all s at x
  section_sum f {n} {k} b q l v = record {
    is = v.is ∙ (λ i. map_out f (run (many (q i) p) s (b.at_rows i))) ∙ sym (ap (map_out (λ (y : Section A). f y.rows)) (section_so b.there_is) ∙ go (run (many (count_at w s flag at) p) s (rows_at flag at)));
    small = omega (arith, v.small, l);
  }
    where
      go : (o : Out (List A)) → map_out (λ (y : Section A). f y.rows) (map_out section_of o) ≡ map_out f o
      go (done l m) = refl
      go (short x) = refl

  -- a section that was read: its byte is there, and its rows are those behind it
  pub record Stands (x : Section A) (end : ℕ) : Type 0 where
    pub there_is : rows_at flag at ≤ length s
    pub reads : run (many (count_at w s flag at) p) s (rows_at flag at) ≡ done x.rows end
    pub is : x ≡ section_of x.rows

  pub stands : {x : Section A} {end : ℕ} → at ≤ length s → run (section flag r w none p) s at ≡ done x end → Stands x end
  unfolding rows_at
  stands {x} {end} h e = go (leb (rows_at flag at) (length s)) refl
    where
      of : (l : List A) → section_of l ≡ x → run (many (count_at w s flag at) p) s (rows_at flag at) ≡ done l end → rows_at flag at ≤ length s → Stands x end
      of l q d t = subst (λ (y : Section A). Stands y end) q (record { there_is = t; reads = d; is = refl })

      lacks_byte : length s < rows_at flag at → ends (ones (pick (eqb flag 1) 1 0)) s at ≡ short (needing (length s + 1))
      lacks_byte l = ones_lacks (pick (eqb flag 1) 1 0) s at h l

      never : short (needing (length s + 1)) ≡ done x end → ⊥
      never e = let z : ◌≡◌ {A = ℕ} 0 1 = cc e in omega arith

      go : (b : Bool) → leb (rows_at flag at) (length s) ≡ b → Stands x end
      go true q =
          let t = leb-true (rows_at flag at) (length s) q in
          let (l, d, z) = as_done section_of (run (many (count_at w s flag at) p) s (rows_at flag at)) (sym (section_so t) ∙ e) in
          of l z d t
      go false q = absurd (never (sym (section_cut (lacks_byte (leb-false (rows_at flag at) (length s) q))) ∙ e))
