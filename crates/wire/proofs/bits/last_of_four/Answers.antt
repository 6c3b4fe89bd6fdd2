-- `wire::bits::last_of_four` meets its contract: no bit stands above a field, and the last column is what stands above the other three.
use Rattle.std.specs.Prelude.{Some}
use Prim.Native.Nat.{ℕ, ◌+◌, ◌*◌, ◌/◌, ◌<◌, ◌^◌}
use mathlib.Core.List.{[], ◌∷◌}
use mathlib.Core.Bool.{Bool}
use mathlib.Core.Path.{◌≡◌, sym, ap, ◌∙◌}
use native.Mathlib.Omega.{arith}
use lib.Bits.{bit_and}
use lib.Dec.{eqb}
use borrow.Author.Tests.{eq-eqb, ne_eqb}
use Rattle.wire.specs.Bits.{field, fit, some_if}
use Rattle.wire.proofs.Fields.{four_fit_lem}
use Rattle.wire.proofs.bits.last_of_four.Goals as goal

last : (a b c d : ℕ) {x : ℕ} → x ≡ (d * 65536 + c) * 2 ^ 32 + (b * 65536 + a) → a < 65536 → b < 65536 → c < 65536 → x / 281474976710656 ≡ d
last a b c d e h i j = omega (arith, e)

pub returns-then-columns-over-eq0 : goal.returns-then-columns-over-eq0
returns-then-columns-over-eq0 c =
    let a = c.args in
    let e : eqb (bit_and c.quad-columns.result c.quad-over.result) 0 ≡ fit (field a.wa a.a ∷ field a.wb a.b ∷ field a.wc a.c ∷ field a.wd a.d ∷ []) =
    rw (c.quad-columns.ensures, c.quad-over.ensures, c.above-4.ensures, c.above-3.ensures, c.above-2.ensures, c.above.ensures)
    (four_fit_lem a.a a.wa a.b a.wb a.c a.wc a.d a.wd (omega arith) (omega arith) (omega arith) (omega arith) (omega arith) (omega arith) (omega arith) (omega arith)) in
    ap Some (last a.a a.b a.c a.d c.quad-columns.ensures (omega arith) (omega arith) (omega arith)) ∙ ap (λ (b : Bool). some_if b a.d) (sym (eq-eqb _ 0 c.if-columns-over-eq0.true) ∙ e)

pub returns-else-columns-over-eq0 : goal.returns-else-columns-over-eq0
returns-else-columns-over-eq0 c =
    let a = c.args in
    let e : eqb (bit_and c.quad-columns.result c.quad-over.result) 0 ≡ fit (field a.wa a.a ∷ field a.wb a.b ∷ field a.wc a.c ∷ field a.wd a.d ∷ []) =
    rw (c.quad-columns.ensures, c.quad-over.ensures, c.above-4.ensures, c.above-3.ensures, c.above-2.ensures, c.above.ensures)
    (four_fit_lem a.a a.wa a.b a.wb a.c a.wc a.d a.wd (omega arith) (omega arith) (omega arith) (omega arith) (omega arith) (omega arith) (omega arith) (omega arith)) in
    ap (λ (b : Bool). some_if b a.d) (sym (ne_eqb _ 0 c.if-columns-over-eq0.false) ∙ e)
