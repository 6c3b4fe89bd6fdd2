-- `reader::reads::byte_from` meets its contract: the byte stands within the body, or not.
use Prim.Native.Nat.{◌+◌}
use mathlib.Core.Path.{◌≡◌, refl, sym, ap, ◌∙◌}
use native.Mathlib.Omega.{arith}
use Rattle.wire.proofs.Reading.Steps.{got, lacks}
use Rattle.wire.specs.Prog.{short, needing}
use Rattle.reader.specs.Reading.{told, after}
use Rattle.reader.proofs.reads.byte_from.Goals as goal

pub returns-then-end-body : goal.returns-then-end-body
returns-then-end-body c =
    let a = c.args in
    let e = got a.body.now a.at (omega arith) refl in
    let ends : c.capped_sum-end.result ≡ a.at + 1 = omega arith in
    record {
      is = c.byte_at.ensures.is ∙ (e ∙ sym (ap told e));
      small = c.byte_at.ensures.small;
      moved = ends ∙ sym (ap (after a.at) e);
    }

pub returns-else-end-body : goal.returns-else-end-body
returns-else-end-body c =
    let a = c.args in
    let e = lacks a.body.now a.at (omega arith) in
    record {
      is = ap (λ n. short (needing n)) (omega arith) ∙ sym (ap told e);
      small = omega arith;
      moved = sym (ap (after a.at) e);
    }
