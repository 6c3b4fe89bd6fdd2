-- Switch groups read: the sizes of their bytes, where they end, and their columns and members once they are known to be there.
use Rattle.std.specs.Prelude.{Ok, Err}
use Prim.Native.Nat.{ℕ, ◌+◌, ◌*◌, ◌≤◌, ◌<◌}
use mathlib.Core.Path.{◌≡◌, refl, sym, ap, ◌∙◌}
use mathlib.Core.List.{List, [], ◌∷◌, flatten, flat_map}
use mathlib.Core.Bool.{true}
use native.Mathlib.Omega.{arith}
use lib.ListN.{length, get_or}
use lib.Seq.{sets}
use Rattle.wire.specs.Lists.{each, sum}
use Rattle.wire.specs.Bits.{part, total, split, zeros}
use Rattle.wire.specs.Prog.{Out, done, short, run, many}
use Rattle.wire.specs.Reads.{map_out, end_of, is_done, pos_of, rows_of, Summed}
use Rattle.wire.specs.Nest.{Fillable, Nested}
use Rattle.wire.specs.Layout.{of, row, set, put, has, flat, broken_row, layouts, cells, shown, tally, family_tally}
use Rattle.wire.specs.Straight.{ends, ones, puts_at, took}
use Rattle.wire.specs.declared.reads.Short.{Short}
use Rattle.wire.specs.declared.rows.Range.{Range}
use Rattle.wire.proofs.Layouts.Cells.{all}
use Rattle.wire.proofs.Layouts.Rowed.{weight}
use Rattle.wire.proofs.Layouts.Straight.{ends_at, ends_within}
use Rattle.wire.proofs.Layouts.Families.{head_sizes, tail_sizes, kids_of, tailed, behind_head, head_got, head_lacks, broken_got, broken_lacks, singles_behind, singles_pos, family_test, kids_ask, tail_there, family_filled, tally_ask, tail_tallied, family_tallied}
use Rattle.pairs.specs.Layout.{pair}
use Rattle.pairs.proofs.Pairs.{pair_one}
use Rattle.switch_groups.specs.Layout.{member, switch_group, switch_group_list}
use Rattle.switch_groups.specs.declared.rows.SwitchGroup.{SwitchGroup}
use Rattle.switch_groups.specs.Rows.{switch_group_row, switch_group_from}

-- ---- the bytes

head_sizes_lem : (s : List ℕ) (at : ℕ) → head_sizes switch_group s at ≡ ones 2
unfolding took ones
head_sizes_lem s at = refl

tail_sizes_lem : (s : List ℕ) (at m : ℕ) → tail_sizes switch_group s at m ≡ ones 1
unfolding took ones
tail_sizes_lem s at m = refl

count_is : (s : List ℕ) (at : ℕ) → kids_of switch_group s at ≡ part 0 5 (get_or s (at + 1) 0) + 1
unfolding took puts_at put split total
count_is s at = refl

pub fills : family_test switch_group member ≡ true
unfolding family_test has all weight pair flatten
fills = refl

-- ---- measured

pub two_lack : (s : List ℕ) (at : ℕ) → at ≤ length s → {x : Short} → short x ≡ ends (ones 2) s at → Summed switch_group_list (λ x. length x.1) 32 s at (Err x)
two_lack s at h e = broken_lacks switch_group (flat 2 member) s at 32 h (head_lacks switch_group (flat 2 member) s at (rw head_sizes_lem e))

-- behind the two bytes
pub record Two (s : List ℕ) (at n : ℕ) : Type 0 where
  pub begun : at ≤ length s
  pub there : at + 2 ≤ length s
  pub inside : n ≤ length s
  pub goes : end_of (run switch_group_list s at) ≡ behind_head switch_group (flat 2 member) s at n

pub two : (s : List ℕ) (at : ℕ) → at ≤ length s → {n : ℕ} → done tt n ≡ ends (ones 2) s at → Two s at n
unfolding ones total
two s at h e =
    let i = ends_within (ones 2) s at h (sym e) in
    let q = ends_at (ones 2) s at (sym e) in
    record { begun = h; there = omega arith; inside = i; goes = head_got switch_group (flat 2 member) s at (rw head_sizes_lem e) }

module _ {s : List ℕ} {at n b count : ℕ} (w : Two s at n) (q : b ≡ get_or s (at + 1) 0) (k : (count ≡ part 0 5 b + 1) × (count ≤ 32)) where
  counted : count ≡ kids_of switch_group s at
  counted = k.0 ∙ ap (λ (b : ℕ). part 0 5 b + 1) q ∙ sym (count_is s at)

  ended : {o : Out (Unit {0})} → o ≡ ends (ones (count + 1)) s n → o ≡ end_of (run switch_group_list s at)
  ended e = e ∙ sym (w.goes ∙ singles_behind 2 member pair_one s switch_group at count 1 (sym counted) (tail_sizes_lem s at) n)

  pub all_lack : {x : Short} → short x ≡ ends (ones (count + 1)) s n → Summed switch_group_list (λ x. length x.1) 32 s at (Err x)
  all_lack e = broken_lacks switch_group (flat 2 member) s at 32 w.begun (ended e)

  pub all_got : {m : ℕ} → done tt m ≡ ends (ones (count + 1)) s n → Summed switch_group_list (λ x. length x.1) 32 s at (Ok (count, m))
  all_got e = broken_got switch_group (flat 2 member) s at 32 w.begun (ended e) counted k.1

-- ---- filled

module _ (s : List ℕ) (at : ℕ) {b count : ℕ} (e : b ≡ get_or s (at + 1) 0) (k : count ≡ part 0 5 b + 1) where
  count_so : kids_of switch_group s at ≡ count
  count_so = count_is s at ∙ sym (k ∙ ap (λ (b : ℕ). part 0 5 b + 1) e)

  -- where its last byte stands
  last_is : at + 2 ≤ length s → is_done (run (many count (flat 2 member)) s (at + 2)) ≡ true
      → at + 2 + count ≡ pos_of (run (many (kids_of switch_group s at) (flat 2 member)) s (at + total (head_sizes switch_group s at)))
  unfolding took total
  last_is h q = sym (ap (λ (k : ℕ). pos_of (run (many k (flat 2 member)) s (at + 2))) count_so ∙ (singles_pos 2 member pair_one s count (at + 2) h q).0)

abbrev ranged : ℕ → ℕ → Range
ranged first count = record { first = first; count = count }

module _ (s : List ℕ) (at first : ℕ) (u : List ℕ) (f : Fillable switch_group_list 2 (λ x. length x.1) s at first u) where
  pub two_there : at + 2 ≤ length s
  unfolding took total
  two_there = (kids_ask switch_group 2 member s at first u f).begun

  module _ {b count : ℕ} (e : b ≡ get_or s (at + 1) 0) (k : count ≡ part 0 5 b + 1) where
    pub members_ask : (at + 2 ≤ length s) × (is_done (run (many count (flat 2 member)) s (at + 2)) ≡ true) × (first * 2 + 2 * count ≤ length u)
    unfolding took total
    members_ask = let a = kids_ask switch_group 2 member s at first u f in (a.begun, rw (count_so s at e k) at a.sound, rw (count_so s at e k) at a.room)

    pub default_there : at + 2 + count < length s
    unfolding took total
    default_there = let w = tail_there switch_group 2 member s at first u f (last_is s at e k two_there members_ask.1) in omega (arith, w)

    pub switch_filled : {id d : ℕ} {g : SwitchGroup} {after : List ℕ} → id ≡ get_or s at 0 → d ≡ get_or s (at + 2 + count) 0 → g ≡ switch_group_from id b d (ranged first count)
        → after ≡ sets u (first * 2) (flat_map (λ r. r) (rows_of (run (many count (flat 2 member)) s (at + 2))))
        → Nested switch_group_list 2 (λ n x. broken_row switch_group (n, x)) (λ x. flatten x.1) s at first u (switch_group_row g) (at + 2 + count + 1) after
    unfolding took puts_at put split total each
    switch_filled {id} {d} {g} q z r w =
        let c : count ≡ part 0 5 (get_or s (at + 1) 0) + 1 = k ∙ ap (λ (b : ℕ). part 0 5 b + 1) e in
        let columns : switch_group_row g ≡ row 9 (set 5 first (tailed switch_group s at (at + 2 + count))) =
        ap switch_group_row r ∙ λ i. switch_group_row (switch_group_from (q i) (e i) (z i) (ranged first (c i))) in
        family_filled switch_group 2 member s at first u f (last_is s at e k two_there members_ask.1) columns refl
        (w ∙ ap (λ (k : ℕ). sets u (first * 2) (flat_map (λ r. r) (rows_of (run (many k (flat 2 member)) s (at + 2))))) (sym (count_so s at e k)))

-- ---- tallied

module _ (s : List ℕ) (at : ℕ) (h : at ≤ length s) (q : is_done (run switch_group_list s at) ≡ true) where
  pub two_known : at + 2 ≤ length s
  unfolding took total
  two_known = (tally_ask switch_group 2 member s at h q).begun

  module _ {b count : ℕ} (e : b ≡ get_or s (at + 1) 0) (k : count ≡ part 0 5 b + 1) where
    pub members_known : is_done (run (many count (flat 2 member)) s (at + 2)) ≡ true
    unfolding took total
    members_known = rw (count_so s at e k) at (tally_ask switch_group 2 member s at h q).sound

    pub default_known : at + 2 + count < length s
    unfolding took total
    default_known = let w = tail_tallied switch_group 2 member s at h q (last_is s at e k two_known members_known) in omega (arith, w)

    pub switch_tallied : {id d own below zs : ℕ} → id ≡ get_or s at 0 → d ≡ get_or s (at + 2 + count) 0 → own ≡ zeros 1 (part 7 1 id) + zeros 3 (part 5 3 b) + zeros 1 (part 7 1 d)
        → below ≡ sum (λ r. tally (member ∷ []) (of r)) (rows_of (run (many count (flat 2 member)) s (at + 2))) → zs ≡ own + below → done zs (at + 2 + count + 1) ≡ map_out (family_tally switch_group member) (run switch_group_list s at)
    unfolding took puts_at put split total each tally cells shown sum flatten
    switch_tallied {id} {d} {own} i z o w r =
        let t : own ≡ tally (layouts switch_group) (of (row 9 (tailed switch_group s at (at + 2 + count)))) =
        o ∙ (λ j. zeros 1 (part 7 1 (i j)) + zeros 3 (part 5 3 (e j)) + zeros 1 (part 7 1 (z j))) ∙ omega arith in
        family_tallied switch_group 2 member s at h q (last_is s at e k two_known members_known) t
        (w ∙ ap (λ (k : ℕ). sum (λ r. tally (member ∷ []) (of r)) (rows_of (run (many k (flat 2 member)) s (at + 2)))) (sym (count_so s at e k))) r refl
