-- `frame::fill_bare` meets its contract: the head, and the trailing run behind it.
use Rattle.frame.proofs.Bare.{head_ready, bare_run_ready, bare_filled}
use Rattle.frame.proofs.fill_bare.Goals as goal

pub fill_all-n-requires : goal.fill_all-n-requires
fill_all-n-requires c =
    let h = c.requires in
    record { fss = h.fields; spelt = h.spelt; ready = head_ready h.fields c.args.run c.args.store.now h.ready }

pub copy_payload-requires : goal.copy_payload-requires
copy_payload-requires c =
    let h = c.requires in
    let r = head_ready h.fields c.args.run c.args.store.now h.ready in
    bare_run_ready h.fields c.args.run c.args.store.now h.ready c.fill_all-n.auto.out (c.fill_all-n.ensures.of h.fields h.spelt r.sound)

pub returns : goal.returns
returns c =
    record {
      of = λ fss s ready.
          let r = head_ready fss c.args.run c.args.store.now ready in
          bare_filled fss c.args.run c.args.store.now ready c.fill_all-n.auto.out (c.fill_all-n.ensures.of fss s r.sound) c.copy_payload.ensures;
    }
