-- `full_bytes` counts the bytes of a row without a fault, parts and all, and is 0 of any other.
use Prim.Native.Nat.{ℕ, ◌+◌, ◌≤◌}
use mathlib.Core.Path.{◌≡◌, sym, ap, ◌∙◌}
use native.Mathlib.Omega.{arith}
use Rattle.scene_groups.specs.Rows.{group_cols, group_of}
use Rattle.scene_groups.proofs.Groups.{fives, twos, threes}
use Rattle.scene_groups.proofs.Writes.{part_most, plain_so, odd_so}
use Rattle.scene_groups.proofs.writing.full_bytes.Goals as goal

-- a row has at most ten bytes behind the first three
most : (v w x : ℕ) {a b c : ℕ} → a ≡ fives v → b ≡ twos w → c ≡ threes x → a + (b + c) ≤ 10
most v w x p q r = omega (arith, part_most v 5 p, part_most w 2 q, part_most x 3 r)

pub overflow_add-result : goal.overflow_add-result
overflow_add-result c =
    omega (arith, most _ _ _ c.size.ensures c.size-then-plain.ensures c.size-then-plain-2.ensures)

pub overflow_add-result-then-plain : goal.overflow_add-result-then-plain
overflow_add-result-then-plain c =
    omega (arith, most _ _ _ c.size.ensures c.size-then-plain.ensures c.size-then-plain-2.ensures)

pub overflow_add-result-then-plain-2 : goal.overflow_add-result-then-plain-2
overflow_add-result-then-plain-2 c =
    omega (arith, most _ _ _ c.size.ensures c.size-then-plain.ensures c.size-then-plain-2.ensures)

pub returns-then-plain : goal.returns-then-plain
returns-then-plain c =
    let s = c.args in plain_so (group_cols (group_of s.groups.now s.b))
    (sym c.plain.ensures ∙ c.if-plain.true)
    (λ i. 3 + ((c.size.ensures ∙ ap fives c.column.ensures) i + ((c.size-then-plain.ensures ∙ ap twos
    c.column-then-plain.ensures) i + (c.size-then-plain-2.ensures ∙ ap threes c.column-then-plain-2.ensures) i)))

pub returns-else-plain : goal.returns-else-plain
returns-else-plain c = search (odd_so, sym c.plain.ensures ∙ c.if-plain.false)
