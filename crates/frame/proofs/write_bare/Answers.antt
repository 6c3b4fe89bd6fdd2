-- `frame::write_bare` meets its contract: what is answered after the check pass, and the fill pass.
use mathlib.Core.List.{[]}
use Rattle.wire.proofs.Handed.{handed}
use Rattle.frame.specs.Sight.{head_kind}
use Rattle.frame.proofs.Entries.{writes_refused, fillable, writes_done}
use Rattle.frame.proofs.write_bare.Goals as goal

pub returns-in_err-n : goal.returns-in_err-n
returns-in_err-n c =
    rw (handed c.from_residual.result c.from_residual.ensures.1)
    (record { of = λ fss s. writes_refused (head_kind fss) c.args.run [] c.args.store.now (c.check_bare.ensures.of fss s) _ _ c.in_err-n.ensures })

pub fill_bare-requires : goal.fill_bare-requires
fill_bare-requires c =
    let h = c.requires in
    record {
      fields = h.fields;
      spelt = h.spelt;
      ready = fillable (head_kind h.fields) c.args.run [] c.args.store.now (c.check_bare.ensures.of h.fields h.spelt) _ c.in_ok-n.ensures;
    }

pub returns : goal.returns
returns c =
    record {
      of = λ fss s.
          let w = c.check_bare.ensures.of fss s in
          let j = c.in_ok-n.ensures in
          writes_done (head_kind fss) c.args.run [] c.args.store.now w _ j (c.fill_bare.ensures.of fss s (fillable (head_kind fss) c.args.run [] c.args.store.now w _ j));
    }
