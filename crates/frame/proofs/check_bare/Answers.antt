-- `frame::check_bare` meets its contract: the head, and the trailing run behind it.
use Prim.Native.Nat.{◌^◌}
use mathlib.Core.Path.{sym, ◌∙◌}
use mathlib.Core.List.{[]}
use native.Mathlib.Omega.{arith}
use Rattle.wire.proofs.Writing.Passes.{more}
use Rattle.frame.specs.Sight.{head_kind}
use Rattle.frame.proofs.Passes.{run_outside}
use Rattle.frame.proofs.Bare.{head_looked}
use Rattle.frame.proofs.check_bare.Goals as goal

pub payload_run-requires : goal.payload_run-requires
payload_run-requires c =
    let h = c.requires in omega (arith, (c.check_all-p.ensures.of h.fields h.spelt).near, h.few)

pub returns-then-in_store : goal.returns-then-in_store
returns-then-in_store c =
    let h = c.requires in
    let e = sym c.in_store.ensures ∙ c.if-in_store.true in
    record {
      of = λ fss s. more (2 ^ 17) (head_looked fss c.args.run c.args.store.now e (c.check_all-p.ensures.of fss s) c.payload_run.ensures.0) (omega (arith, h.few, c.payload_run.ensures.1));
    }

pub returns-else-in_store : goal.returns-else-in_store
unfolding head_kind
returns-else-in_store c =
    record { of = λ fss s. run_outside (head_kind fss) c.args.run [] c.args.store.now (sym c.in_store.ensures ∙ c.if-in_store.false) (2 ^ 17) }
