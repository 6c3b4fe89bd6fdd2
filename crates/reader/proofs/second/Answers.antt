-- `reader::second` meets its contract: two reads one after the other are the second of two.
use Rattle.std.proofs.Common.{ℕ, ◌+◌, ◌^◌, ◌<◌, List, length, get_or, Bool, true, false, leb, ◌≡◌, refl, sym, ap, ◌∙◌, arith}
use Rattle.wire.specs.Prog as Prog
use Rattle.wire.specs.Prog.{Out, done, short, needing, run}
use Rattle.wire.proofs.Reading.Runs.{out_and_then, run_bind, run_u8}
use Rattle.reader.specs.Reading.{told, after, second_byte}
use Rattle.reader.proofs.second.Goals as goal

-- the outcome of a byte at a position, where t says whether it stands within
abbrev byte_at : Bool → List ℕ → ℕ → Out ℕ
byte_at t s at = elim t [ true ↦ done (get_or s at 0) (at + 1) | false ↦ short (needing (at + 1)) ]

-- a need that is not too large is told as it is
told_same : (t : Bool) (s : List ℕ) (at : ℕ) → at + 1 < 2 ^ 64 → told (byte_at t s at) ≡ byte_at t s at
told_same true s at h = refl
told_same false s at h = ap (λ n. short (needing n)) (omega arith)

-- whether or not the first byte stands within
both : (s : List ℕ) (t : Bool) → leb 1 (length s) ≡ t → told (run Prog.u8 s (after 0 (byte_at t s 0))) ≡ out_and_then (byte_at t s 0) (λ a n. run Prog.u8 s n)
both s true e = ap told (run_u8 s 1) ∙ (told_same (leb 2 (length s)) s 1 (omega arith) ∙ sym (run_u8 s 1))
both s false e = ap told (run_u8 s 0 ∙ ap (λ t. byte_at t s 0) e) ∙ told_same false s 0 (omega arith)

-- a read from where a first one leaves the reader is the second of two
in_order : (s : List ℕ) → told (run Prog.u8 s (after 0 (run Prog.u8 s 0))) ≡ run second_byte s 0
in_order s =
    ap (λ o. told (run Prog.u8 s (after 0 o))) (run_u8 s 0)
    ∙ (both s (leb 1 (length s)) refl ∙ sym (run_bind Prog.u8 (λ b. Prog.u8) s 0 ∙ ap (λ o. out_and_then o (λ a n. run Prog.u8 s n)) (run_u8 s 0)))

pub returns : goal.returns
returns c =
    let s = c.args.body in
    let st = c.new-reader.ensures in
    let f = c.u8.ensures in
    let g = c.u8-2.ensures in
    let first : c.u8.new.self.pos ≡ after 0 (run Prog.u8 s.now 0) = f.moved ∙ (λ i. after (st.1 i) (run Prog.u8 (st.0 i).now (st.1 i))) in
    g.is ∙ ((λ i. told (run Prog.u8 ((f.same ∙ st.0) i).now (first i))) ∙ in_order s.now)
