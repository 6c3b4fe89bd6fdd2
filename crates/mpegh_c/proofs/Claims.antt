-- What is claimed of the entry points for hosts, whatever the kind: each promise is met by one code and one content of the lent slices.
use Prim.Native.Nat.{ℕ}
use mathlib.Core.List.{List}
use mathlib.Core.Path.{◌≡◌, sym, ap, ◌∙◌}
use Rattle.frame.specs.Kind.{Kind, Lent}
use Rattle.mpegh_c.specs.Host.{Hosted, HostReads, HostMeasures, HostTallies, HostWrites}

module _ {Tree Top Value : Type 0} (K : Kind Tree Top Value) where
  pub record Fixed : Type 0 where
    pub reading : (columns : ℕ) (row : Top → List ℕ) (body top top' top'' : List ℕ) (lent after after' : Lent) (n n' : ℕ)
        → HostReads K columns row body top lent n top' after → HostReads K columns row body top lent n' top'' after'
        → (n ≡ n') × (top' ≡ top'') × (after ≡ after')
    pub measuring : (body rows after after' : List ℕ) (n n' : ℕ) → HostMeasures K body rows n after → HostMeasures K body rows n' after' → (n ≡ n') × (after ≡ after')
    pub tallying : (body : List ℕ) (n n' : ℕ) → HostTallies K body n → HostTallies K body n' → n ≡ n'
    pub writing : (top : Top) (lent : Lent) (store out after after' : List ℕ) (n n' : ℕ) → HostWrites K top lent store out n after
        → HostWrites K top lent store out n' after' → (n ≡ n') × (after ≡ after')

  pub fixed : Fixed
  fixed = record {
    reading = λ columns row body top top' top'' lent after after' n n' v w.
        let e = v.promised ∙ sym w.promised in
        (ap (λ (o : Hosted). o.code) e, ap (λ (o : Hosted). o.front) e, ap (λ (o : Hosted). o.tables) e);
    measuring = λ body rows after after' n n' v w. let e = v.promised ∙ sym w.promised in (ap (λ (o : Hosted). o.code) e, ap (λ (o : Hosted). o.front) e);
    tallying = λ body n n' v w. v.promised ∙ sym w.promised;
    writing = λ top lent store out after after' n n' v w. (v.answers ∙ sym w.answers, v.leaves ∙ sym w.leaves);
  }
