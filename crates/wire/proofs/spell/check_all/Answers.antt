-- `spell::check_all` meets its contract.
use mathlib.Core.Path.{sym, ◌∙◌}
use native.Mathlib.Omega.{arith}
use Rattle.wire.proofs.Handed.{handed}
use Rattle.wire.proofs.Writing.Passes.{stopped}
use Rattle.wire.proofs.Writing.Spelling.{checks_none, checks_stop, checks_on}
use Rattle.wire.proofs.spell.check_all.Goals as goal

pub returns-in_err-n : goal.returns-in_err-n
returns-in_err-n c = rw (handed c.from_residual.result c.from_residual.ensures.1 ∙ sym c.in_err-n.was) (record { of = λ fss r. stopped _ _ c.in_err-n.was })

pub overflow_add-result : goal.overflow_add-result
overflow_add-result c = let r = rw c.in_ok-n.was at c.requires.0 in omega arith

pub returns-then-k-spelt : goal.returns-then-k-spelt
returns-then-k-spelt c = checks_stop _ c.in_ok-n.was _ c.if-there.true c.first_odd-k.ensures c.if-k-spelt.true

pub overflow_add-result-then-there : goal.overflow_add-result-then-there
overflow_add-result-then-there c = let r = rw c.in_ok-n.was at c.requires.0 in omega (arith, c.first_odd-k.ensures.within)

pub returns-then-there : goal.returns-then-there
returns-then-there c = checks_on _ c.in_ok-n.was _ c.if-there.true c.first_odd-k.ensures c.if-k-spelt.false

pub returns : goal.returns
returns c = checks_none _ c.in_ok-n.was c.if-there.false
