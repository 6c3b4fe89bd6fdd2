-- `writing::plain_pairs` meets its contract: a plain row is one byte, so there are as many bytes as rows.
use Prim.Native.Nat.{ℕ, ◌+◌}
use mathlib.Core.Path.{◌≡◌, subst}
use native.Mathlib.Omega.{arith}
use Rattle.wire.specs.Spell.{PlainRows}
use Rattle.pairs.specs.Write.{pair_acts}
use Rattle.pairs.proofs.writing.plain_pairs.Goals as goal

pub returns : goal.returns
returns c =
    let w = c.plain_rows.ensures in
    let e : c.plain_rows.result.bytes ≡ c.plain_rows.result.rows = omega (arith, w.each, w.few) in
    subst (λ (k : ℕ). PlainRows (λ j. pair_acts c.args.table.now (c.args.r.first + j)) 1 c.args.r.count c.plain_rows.result.rows k) e w
