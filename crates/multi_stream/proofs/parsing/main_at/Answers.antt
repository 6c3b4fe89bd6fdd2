-- `multi_stream::parsing::main_at` meets its contract: the two bytes are there.
use mathlib.Core.Path.{sym, ap, ◌∙◌}
use native.Mathlib.Omega.{arith}
use Rattle.multi_stream.specs.declared.rows.MainStream.{MainStream}
use Rattle.multi_stream.proofs.Parsed.{both_there, main_placed, aside_placed}
use Rattle.multi_stream.proofs.parsing.main_at.Goals as goal

pub bounds-body-1 : goal.bounds-body-1
bounds-body-1 c =
    let h = both_there _ (rw c.if-present.true at c.requires) in omega (arith, h)

pub bounds-body-2 : goal.bounds-body-2
bounds-body-2 c =
    let h = both_there _ (rw c.if-present.true at c.requires) in omega (arith, h)

pub returns-then-present : goal.returns-then-present
returns-then-present c =
    let t = c.if-present.true in let o = c.of.ensures in
    (ap (λ (m : MainStream). m.present) o ∙ sym t, rw (t, o, c.part.ensures, c.part-then-present.ensures, c.part-then-present-2.ensures, c.part-then-present-3.ensures) (search (main_placed, rw t at c.requires)))

pub returns-else-present : goal.returns-else-present
returns-else-present c =
    let t = c.if-present.false in let o = c.absent.ensures in (ap (λ (m : MainStream). m.present) o ∙ sym t, rw (t, o) (aside_placed _))
