-- What an entry point for hosts cites at its returns: the promise of its kind's crate, then a code and slices that say the same.
use Rattle.std.specs.Prelude.{Result, Ok, Err}
use Prim.Native.Nat.{ℕ, ◌≤◌, ◌<◌}
use mathlib.Core.List.{List, []}
use mathlib.Core.Bool.{Bool, true, false}
use mathlib.Core.Path.{◌≡◌, refl, sym, ap, ◌∙◌}
use lib.ListN.{length}
use lib.Dec.{leb}
use lib.Seq.{sets}
use borrow.Author.Tests.{le-leb, lt-leb, leb-true, leb-false}
use Rattle.wire.proofs.Reading.Steps.{front_stored}
use Rattle.frame.specs.Numbers.{Numbered, Answer, accepted, refused, answer_as, answer_of}
use Rattle.frame.specs.declared.Refusal.{Refusal}
use Rattle.frame.specs.Kind.{Kind, Lent}
use Rattle.frame.specs.Entry.{Sizes, Output, leaves, onto, no_room, judging, sizes, measuring, Reads, Measures, Tallies, Writes}
use Rattle.frame.proofs.Entries.{reads_unmeasured}
use Rattle.mpegh_c.specs.Code.{code, refused_code, answer_code}
use Rattle.mpegh_c.specs.Host.{Hosted, hosted, fronted, topped, rows_of, hosted_sizes, unroomed, unread, host_reading, host_measuring, HostReads, HostMeasures, HostTallies, HostWrites}

-- a code and the lent slices afterwards, the code as a number
abbrev said : ℕ → List ℕ → Lent → Hosted
said n front lent = record { code = n; front = front; tables = lent }

unroomed_onto : {A B : Type 0} (f : A → B) (a : Answer A) → unroomed (onto f a) ≡ unroomed a
unfolding onto
unroomed_onto f (accepted a) = refl
unroomed_onto f (refused x) = refl

unroomed_as : {A B : Type 0} (f : A → B) (r : Result A Refusal) → unroomed (answer_of r) ≡ unroomed (answer_as f r)
unroomed_as f (Ok a) = refl
unroomed_as f (Err x) = refl

module _ {Tree Top Value : Type 0} (K : Kind Tree Top Value) where
  -- ---- tallying, writing

  pub tallies : {body : List ℕ} {t : Answer ℕ} {n : ℕ} → Tallies K body t → n ≡ answer_code t → HostTallies K body n
  tallies w e = record { promised = e ∙ ap answer_code w.promised }

  pub writes : {top : Top} {lent : Lent} {store out after : List ℕ} {a : Answer ℕ} {n : ℕ} → Writes K top lent store out a after → n ≡ answer_code a
      → HostWrites K top lent store out n after
  writes w e = record { answers = e ∙ ap (λ (o : Output). answer_code o.answer) w.promised; leaves = ap (λ (o : Output). o.output) w.promised }

  -- ---- measuring

  module _ {body rows : List ℕ} where
    pub measures_refused : {x : Numbered} {n : ℕ} → Measures K body (refused x) → n ≡ refused_code x → HostMeasures K body rows n rows
    unfolding host_measuring
    measures_refused w e = record { promised = ap (λ (n : ℕ). said n rows []) e ∙ ap (hosted_sizes rows) w.promised }

    module _ {z : Sizes} (w : Measures K body (accepted z)) where
      -- the slice is too short for the counts
      pub measures_unroomed : {n : ℕ} → length rows < length (rows_of z.tables) → n ≡ answer_code (no_room 0 1) → HostMeasures K body rows n rows
      unfolding host_measuring
      measures_unroomed h e =
          let q : hosted_sizes rows (accepted z) ≡ hosted (no_room 0 1) rows [] = rw (lt-leb _ _ h, hosted_sizes) refl in
          record { promised = ap (λ (n : ℕ). said n rows []) e ∙ sym q ∙ ap (hosted_sizes rows) w.promised }

      pub measures_sized : {n : ℕ} {after : List ℕ} → length (rows_of z.tables) ≤ length rows → after ≡ sets rows 0 (rows_of z.tables) → n ≡ code 0 z.before
          → HostMeasures K body rows n after
      unfolding host_measuring
      measures_sized h f e =
          let q : hosted_sizes rows (accepted z) ≡ hosted (accepted z.before) (fronted (rows_of z.tables) rows) [] = rw (le-leb _ _ h, hosted_sizes) refl in
          let g = f ∙ front_stored rows (rows_of z.tables) h in
          record { promised = (λ i. said (e i) (g i) []) ∙ sym q ∙ ap (hosted_sizes rows) w.promised }

  -- ---- reading

  pub unread_so : {body : List ℕ} {z : Answer Sizes} {n : ℕ} → Measures K body z → n ≡ answer_code (unroomed z) → n ≡ answer_code (unread K body)
  unfolding measuring
  unread_so {body} w e = e ∙ ap (λ (z : Answer Sizes). answer_code (unroomed z)) w.promised ∙ ap answer_code (unroomed_onto (sizes K) (judging K body))

  -- of a body that was measured, by the code's own sizes
  pub unread_measured : {A : Type 0} (f : A → Sizes) {body : List ℕ} (r : Result A Refusal) {n : ℕ} → Measures K body (answer_as f r) → n ≡ answer_code (unroomed (answer_of r))
      → n ≡ answer_code (unread K body)
  unread_measured f r w e = unread_so w (e ∙ ap answer_code (unroomed_as f r))

  module _ (columns : ℕ) (row : Top → List ℕ) where
    -- the slice is too short for the top record
    pub reads_unroomed : {body top : List ℕ} {lent : Lent} {n : ℕ} → length top < columns → n ≡ answer_code (unread K body) → HostReads K columns row body top lent n top lent
    unfolding host_reading
    reads_unroomed {top = top} {lent} h e = record { promised = ap (λ (n : ℕ). said n top lent) e ∙ sym (rw (lt-leb _ _ h, host_reading) refl) }

    roomy : {body : List ℕ} (top : List ℕ) {lent after : Lent} {r : Answer Top} → columns ≤ length top → Reads K body lent r after
        → topped row top (leaves r after) ≡ host_reading K columns row body top lent
    unfolding host_reading
    roomy top h w = ap (topped row top) w.promised ∙ sym (rw (le-leb _ _ h, host_reading) refl)

    module _ {body top : List ℕ} {lent after : Lent} (h : columns ≤ length top) where
      pub reads_refused : {x : Numbered} {n : ℕ} → Reads K body lent (refused x) after → n ≡ refused_code x → HostReads K columns row body top lent n top after
      reads_refused w e = record { promised = ap (λ (n : ℕ). said n top after) e ∙ roomy top h w }

      pub reads_done : {t : Top} {front : List ℕ} → Reads K body lent (accepted t) after → length (row t) ≡ columns → front ≡ sets top 0 (row t)
          → HostReads K columns row body top lent 0 front after
      reads_done {t} w l e = record { promised = ap (λ (front : List ℕ). said 0 front after) (e ∙ front_stored top (row t) (rw l h)) ∙ roomy top h w }

    -- a body that is refused whatever is lent
    pub reads_neither : {body top : List ℕ} {lent : Lent} {x : Numbered} {n : ℕ} → Measures K body (refused x) → n ≡ refused_code x
        → HostReads K columns row body top lent n top lent
    reads_neither {body} {top} {lent} {n = n} w e = go (leb columns (length top)) refl
      where
        go : (b : Bool) → leb columns (length top) ≡ b → HostReads K columns row body top lent n top lent
        go true h = reads_refused (leb-true _ _ h) (reads_unmeasured K body w lent) e
        go false h = reads_unroomed (leb-false _ _ h) (unread_so w e)
