-- The largest image of a kind, from what its own actions make at most: its trailing run is at most 65,535 bytes more.
use Rattle.std.specs.Prelude.{Ok, Err}
use Prim.Native.Nat.{ℕ, ◌+◌, ◌≤◌, ◌<◌}
use mathlib.Core.List.{List, [], ◌∷◌, ◌++◌, append-nil}
use mathlib.Core.Bool.{true}
use mathlib.Core.Path.{◌≡◌, sym, ap, subst, ◌∙◌}
use native.Mathlib.Omega.{arith}
use lib.ListN.{length, length-append}
use lib.Dec.{leb}
use borrow.Author.Tests.{leb-true}
use Rattle.wire.specs.Act.{copy, image, settle}
use Rattle.wire.specs.Pen.{clean, bytes}
use Rattle.wire.proofs.Writing.Acts.{and_both, clean_both, bytes_append, settled}
use Rattle.wire.proofs.Writing.Passes.{slice_long}
use Rattle.frame.specs.declared.Unwritten.TheVariants as W
use Rattle.frame.specs.Kind.{Kind, Lent}
use Rattle.frame.specs.Numbers.{refuses}
use Rattle.frame.specs.Entry.{all_acts, trail, writing, Writes}
use Rattle.frame.proofs.Output.{Met, met}

module _ {Tree Top Value : Type 0} (K : Kind Tree Top Value) (top : Top) (lent : Lent) (store : List ℕ) (most : ℕ) (few : clean (K.acts top lent store) ≡ true → length (bytes (K.acts top lent store)) ≤ most) (short : (K.trailing top).length < 65536) where
  -- whatever the tables and the store
  pub image_most : (b : List ℕ) → settle (all_acts K top lent store) 0 ≡ image b → length b ≤ most + 65535
  unfolding all_acts clean bytes
  image_most b e =
      let p = K.trailing top in
      let q = K.acts top lent store in
      let s = settled (all_acts K top lent store) 0 e in
      let (r, c) = and_both (leb (p.offset + p.length) (length store)) _ s.sound in
      let (a, d) = clean_both q (copy (trail K top store) ∷ []) c in
      omega (
        arith,
        few a,
        short,
        ap length s.is ∙ ap length (bytes_append q (copy (trail K top store) ∷ [])) ∙ length-append (bytes q) (trail K top store ++ []),
        ap length (append-nil (trail K top store)) ∙ slice_long p.offset p.length store (leb-true _ _ r),
      )

  -- so when writing answers 10, the length is at most that; `Writes` is the promise of `write`
  pub longest : (out after : List ℕ) (n : ℕ) → Writes K top lent store out (refuses 10 (n ∷ [])) after → n ≤ most + 65535
  unfolding writing Met
  longest out after n w =
      let (b, e, l, o, k) = met out (settle (all_acts K top lent store) 0) (Err (W.TooLong n)) after (sym w.promised) in
      subst (λ (k : ℕ). k ≤ most + 65535) l (image_most b e)
