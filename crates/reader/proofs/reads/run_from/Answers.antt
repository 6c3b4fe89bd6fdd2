-- `reader::reads::run_from` meets its contract: the run ends within the body, or not.
use Prim.Native.Nat.{◌+◌}
use mathlib.Core.Path.{◌≡◌, sym, ap, ◌∙◌}
use native.Mathlib.Omega.{arith}
use Rattle.wire.proofs.Reading.Steps.{got_run, lacks_run}
use Rattle.wire.specs.Prog.{done, short, needing}
use Rattle.reader.specs.Reading.{told, after}
use Rattle.reader.proofs.reads.run_from.Goals as goal

pub returns-then-end-body : goal.returns-then-end-body
returns-then-end-body c =
    let a = c.args in
    let e = got_run a.body.now a.start a.count (omega arith) in
    let ends : c.capped_sum-end.result ≡ a.start + a.count = omega arith in
    record { is = ap (λ n. done a.start n) ends ∙ sym (ap told e); moved = ends ∙ sym (ap (after a.start) e) }

pub returns-else-end-body : goal.returns-else-end-body
returns-else-end-body c =
    let a = c.args in
    let e = lacks_run a.body.now a.start a.count (omega arith) in
    record {
      is = ap (λ n. short (needing n)) (omega arith) ∙ sym (ap told e);
      moved = sym (ap (after a.start) e);
    }
