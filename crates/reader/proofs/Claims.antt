-- No second outcome meets a promise of `Reader`: the body and the position decide the answer and where the reader stands afterwards. And a run of length 0 succeeds.
use Rattle.std.specs.Prelude.{Result, Ok, Err}
use Prim.Native.Nat.{ℕ, ◌≤◌}
use mathlib.Core.List.{List}
use mathlib.Core.Path.{◌≡◌, refl, sym, ap, ◌∙◌}
use native.Mathlib.Nat.{add-zero}
use native.Mathlib.Omega.{arith}
use lib.ListN.{length}
use denote.Ref.{Bor}
use Rattle.wire.specs.Prog.{Out, done, short, run, pass}
use Rattle.wire.specs.Reads.{read_out}
use Rattle.wire.specs.declared.reads.Short.{Short}
use Rattle.wire.proofs.Reading.Steps.{got_run}
use Rattle.reader.specs.Reading.{told, after, ReadsByte, TakesRun, GivesRest}
use Rattle.reader.specs.declared.Reader.{Reader}

-- an answer back from its outcome
abbrev read_from : Out ℕ → Result (ℕ × ℕ) Short
read_from (done a n) = Ok (a, n)
read_from (short x) = Err x

read_back : (r : Result (ℕ × ℕ) Short) → read_from (read_out r) ≡ r
read_back (Ok x) = refl
read_back (Err x) = refl

-- two readers of one body at one position are the same
same_reader : {s : Bor (List ℕ)} {n : ℕ} {r r' : Reader} → r.body ≡ s → r'.body ≡ s → r.pos ≡ n → r'.pos ≡ n → r ≡ r'
same_reader b b' p p' = λ i. record { body = (b ∙ sym b') i; pos = (p ∙ sym p') i }

-- a read of one byte has one answer, and leaves the reader at one place
pub byte_once : {r r' r'' : Reader} {b b₂ : Result (ℕ × ℕ) Short} → ReadsByte r b r' → ReadsByte r b₂ r'' → (b ≡ b₂) × (r' ≡ r'')
byte_once {b = b} {b₂ = b₂} f g = (sym (read_back b) ∙ (ap read_from (f.is ∙ sym g.is) ∙ read_back b₂), same_reader f.same g.same f.moved g.moved)

-- so has a read of `count` bytes
pub run_once : {count : ℕ} {r r' r'' : Reader} {n n₂ : Result (ℕ × ℕ) Short} → TakesRun count r n r' → TakesRun count r n₂ r'' → (n ≡ n₂) × (r' ≡ r'')
run_once {n = n} {n₂ = n₂} f g = (sym (read_back n) ∙ (ap read_from (f.is ∙ sym g.is) ∙ read_back n₂), same_reader f.same g.same f.moved g.moved)

-- and what is left
pub rest_once : {r r' r'' : Reader} {s s₂ : List ℕ} → GivesRest r s r' → GivesRest r s₂ r'' → (s ≡ s₂) × (r' ≡ r'')
rest_once f g = (f.is ∙ sym g.is, same_reader f.same g.same f.moved g.moved)

-- a run of length 0 succeeds in the body, also at its end, and leaves the reader where it stands
pub none_taken : {r r' : Reader} {n : Result (ℕ × ℕ) Short} → r.pos ≤ length r.body.now → TakesRun 0 r n r' → (n ≡ Ok (r.pos, r.pos)) × (r'.pos ≡ r.pos)
none_taken {r} {r'} {n} h t =
    let e : run (pass 0) r.body.now r.pos ≡ done r.pos r.pos = got_run r.body.now r.pos 0 (omega arith) ∙ ap (done r.pos) (add-zero r.pos) in
    (sym (read_back n) ∙ ap read_from (t.is ∙ ap told e), t.moved ∙ ap (after r.pos) e)
