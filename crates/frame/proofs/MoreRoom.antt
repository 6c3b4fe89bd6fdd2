-- Room, of every kind: more of it changes only "no room", 3 is given exactly when a table is short, and behind the rows a table keeps its content.
use Prim.Native.Nat.{ℕ, zero, suc, ◌+◌, ◌*◌, ◌/◌, ◌≤◌, ◌<◌}
use mathlib.Core.List.{List, [], ◌∷◌, ◌++◌, flatten}
use mathlib.Core.Bool.{Bool, true, false}
use mathlib.Core.Option.{Option, none, some}
use mathlib.Core.Path.{◌≡◌, refl, sym, ap, subst, ◌∙◌}
use native.Mathlib.Omega.{arith}
use native.Mathlib.Nat.{le-div_iff_mul-le, mul-zero, zero-mul, suc-mul, add_comm, div-zero, le_refl, le_trans}
use lib.ListN.{length, drop, length-append, length-drop}
use lib.Seq.{drop-append_seam}
use lib.Dec.{leb}
use borrow.Author.Tests.{leb-true, leb-false, le-leb, lt-leb}
use Rattle.wire.specs.Lists.{Every, all_cons}
use Rattle.wire.specs.Prog.{done, run}
use Rattle.wire.proofs.Reading.Takes.{run_takes}
use Rattle.wire.proofs.Lists.{every_head, every_tail}
use Rattle.frame.specs.Numbers.{accepted, number}
use Rattle.frame.specs.Kind.{Kind, Lent, Rows}
use Rattle.frame.specs.Entry.{no_room, Outcome, leaves, onto, Sizes, Need, needs, first_table, other_tables, room, lacking, filled, sizes, reading, measuring}
use Rattle.frame.specs.Claims.{Lowest, this, later, Kept, all_kept, kept_behind, Roomier, none_lent, one_more, MoreRoomGiven}
use Rattle.frame.proofs.Judged.{not_refused, short_room, long_room, same_room, answers, View, is_read, lacks, is_short, is_long, view, reads_so, lacks_so, refused_so, ran_well, was, measured}
use Rattle.frame.proofs.Lawful.{Shaped, Lawful}
use Rattle.frame.proofs.More.{judge_long}

div_mono : (a b c : ℕ) → a ≤ b → a / c ≤ b / c
div_mono a b zero h = rw (div-zero a, div-zero b) (le_refl 0)
div_mono a b (suc c) h = let p : 0 < suc c = omega arith in
    (le-div_iff_mul-le p).1 (le_trans ((le-div_iff_mul-le p).0 (le_refl (a / suc c))) h)

room_mono : (n : Need) (lent more : Lent) → Roomier lent more → room n lent ≤ room n more
unfolding room first_table
room_mono n [] [] none_lent = le_refl _
room_mono n (t ∷ ts) (u ∷ us) (one_more h r) = div_mono (length t) (length u) n.columns h
room_mono n [] (u ∷ us) r = elim r [ ]
room_mono n (t ∷ ts) [] r = elim r [ ]

roomier_others : (lent more : Lent) → Roomier lent more → Roomier (other_tables lent) (other_tables more)
unfolding other_tables
roomier_others [] [] none_lent = none_lent
roomier_others (t ∷ ts) (u ∷ us) (one_more h r) = r
roomier_others [] (u ∷ us) r = elim r [ ]
roomier_others (t ∷ ts) [] r = elim r [ ]

-- what a test of the room says, as a derivation
pub data Fit : List Need → Lent → Type 0 where
  fit_nil : {lent : Lent} → Fit [] lent
  fit_cons : {n : Need} {ns : List Need} {lent : Lent} → n.rows ≤ room n lent → Fit ns (other_tables lent) → Fit (n ∷ ns) lent

fit_more : {ns : List Need} {lent : Lent} (more : Lent) → Roomier lent more → Fit ns lent → Fit ns more
fit_more more r fit_nil = fit_nil
fit_more {lent = lent} more r (fit_cons {n = n} h f) = fit_cons (le_trans h (room_mono n lent more r)) (fit_more (other_tables more) (roomier_others lent more r) f)

fit_none : {ns : List Need} {lent : Lent} → Fit ns lent → lacking ns lent ≡ none
unfolding lacking
fit_none fit_nil = refl
fit_none (fit_cons h f) = rw (le-leb _ _ h, lacking) (fit_none f)

pub none_fit : (ns : List Need) (lent : Lent) → lacking ns lent ≡ none → Fit ns lent
unfolding lacking
none_fit [] lent e = fit_nil
none_fit (n ∷ ns) lent e = go (leb n.rows (room n lent)) refl e (none_fit ns (other_tables lent))
  where
    go : (b : Bool) → leb n.rows (room n lent) ≡ b → Path (Option Need) (elim b [ true ↦ lacking ns (other_tables lent) | false ↦ some n ]) none
        → (lacking ns (other_tables lent) ≡ none → Fit ns (other_tables lent)) → Fit (n ∷ ns) lent
    go true h e r = fit_cons (leb-true _ _ h) (r e)
    go false h e r = absurd (let z : ◌≡◌ {A = ℕ} 0 1 = cc e in omega arith)

lowest : (ns : List Need) (lent : Lent) (x : Need) → lacking ns lent ≡ some x → Lowest ns lent x.number x.rows
unfolding lacking
lowest [] lent x e = absurd (let z : ◌≡◌ {A = ℕ} 0 1 = cc e in omega arith)
lowest (n ∷ ns) lent x e = go (leb n.rows (room n lent)) refl e (lowest ns (other_tables lent) x)
  where
    go : (b : Bool) → leb n.rows (room n lent) ≡ b → Path (Option Need) (elim b [ true ↦ lacking ns (other_tables lent) | false ↦ some n ]) (some x)
        → (lacking ns (other_tables lent) ≡ some x → Lowest ns (other_tables lent) x.number x.rows) → Lowest (n ∷ ns) lent x.number x.rows
    go true h e r = later (leb-true _ _ h) (r e)
    go false h e r = let z : n ≡ x = cc e in rw (← z) (this (leb-false _ _ h))

record Lacks (ns : List Need) (lent : Lent) (t r : ℕ) : Type 0 where
  need : Need
  found : lacking ns lent ≡ some need
  table : need.number ≡ t
  rows : need.rows ≡ r

from_lowest : {ns : List Need} {lent : Lent} {t r : ℕ} → Lowest ns lent t r → Lacks ns lent t r
unfolding lacking
from_lowest (this {n = n} h) = record { need = n; found = rw (lt-leb _ _ h, lacking) refl; table = refl; rows = refl }
from_lowest (later h l) = let x = from_lowest l in record { need = x.need; found = rw (le-leb _ _ h, lacking) x.found; table = x.table; rows = x.rows }

pub fit_head : {n : Need} {ns : List Need} {lent : Lent} → Fit (n ∷ ns) lent → (n.rows ≤ room n lent) × Fit ns (other_tables lent)
fit_head (fit_cons h f) = (h, f)

div_fits : (r n c : ℕ) → r ≤ n / c → r * c ≤ n
div_fits r n zero h = omega (arith, mul-zero r)
div_fits r n (suc c) h = let p : 0 < suc c = omega arith in (le-div_iff_mul-le p).0 h

pub length_flatten : (c : ℕ) (rows : List (List ℕ)) → Every (λ (row : List ℕ). length row ≡ c) rows → length (flatten rows) ≡ length rows * c
unfolding flatten
length_flatten c [] h = sym (zero-mul c)
length_flatten c (r ∷ rs) (all_cons e h) = length-append r (flatten rs) ∙ (λ i. e i + length_flatten c rs h i) ∙ add_comm c (length rs * c) ∙ sym (suc-mul (length rs) c)

front_length : (f t : List ℕ) → length f ≤ length t → length (f ++ drop (length f) t) ≡ length t
front_length f t h = length-append f (drop (length f) t) ∙ omega (arith, length-drop (length f) t)

behind_kept : (a t : List ℕ) {n : ℕ} → length a ≡ n → drop n (a ++ drop (length a) t) ≡ drop n t
behind_kept a t e = rw (← e) (drop-append_seam a (drop (length a) t))

keeps : (rs : List Rows) (lent : Lent) → Every Shaped rs → Fit (needs rs) lent → length lent ≡ length rs → Kept (needs rs) lent (filled rs lent)
unfolding needs filled room first_table other_tables
keeps [] [] h f n = all_kept
keeps [] (t ∷ ts) h f n = absurd (omega arith)
keeps (r ∷ rs) [] h f n = absurd (omega arith)
keeps (r ∷ rs) (t ∷ ts) h f n =
    let g = fit_head f in
    let w : length (flatten r.rows) ≡ length r.rows * r.columns = length_flatten r.columns r.rows (every_head Shaped h) in
    let l : length (flatten r.rows) ≤ length t = omega (arith, w, div_fits (length r.rows) (length t) r.columns g.0) in
    kept_behind (front_length (flatten r.rows) t l) (behind_kept (flatten r.rows) t w) (keeps rs ts (every_tail Shaped h) g.1 (omega arith))

module _ {Tree Top Value : Type 0} (K : Kind Tree Top Value) where
  -- the rows of a body that was read are as wide as their tables
  pub shapes : Lawful K → (body : List ℕ) {t : Tree} {k : ℕ} → run K.program body 0 ≡ done t k → Every Shaped (K.tables t)
  shapes L body {t} e = L.shaped t _ (run_takes K.program body 0 e (omega arith))

  fits_more : (ns : List Need) (lent more : Lent) → Roomier lent more → lacking ns lent ≡ none → lacking ns more ≡ none
  fits_more ns lent more r h = fit_none (fit_more more r (none_fit ns lent h))

  room_changes : (body : List ℕ) (lent more : Lent) → Roomier lent more → ((t r : ℕ) → (reading K body lent).answer ≡ no_room t r → ⊥)
      → (reading K body more).answer ≡ (reading K body lent).answer
  room_changes body lent more r never = go (view K body lent)
    where
      go : View K body lent → (reading K body more).answer ≡ (reading K body lent).answer
      go (is_read s j h q) = answers (reads_so K body more s j (fits_more _ lent more r h)) ∙ sym (answers q)
      go (lacks s n j h q) = absurd (never _ _ (answers q))
      go (is_short x j q) = answers (refused_so K body more j) ∙ sym (answers q)
      go (is_long h q) = answers (refused_so K body more (judge_long K body h)) ∙ sym (answers q)

  refused_keeps : (body : List ℕ) (lent : Lent) → (number (reading K body lent).answer ≡ 0 → ⊥) → (reading K body lent).tables ≡ lent
  unfolding number
  refused_keeps body lent never = go (view K body lent)
    where
      go : View K body lent → (reading K body lent).tables ≡ lent
      go (is_read s j h q) = absurd (never (ap number (answers q)))
      go (lacks s n j h q) = ap (λ (o : Outcome Top). o.tables) q
      go (is_short x j q) = ap (λ (o : Outcome Top). o.tables) q
      go (is_long h q) = ap (λ (o : Outcome Top). o.tables) q

  lacking_of : (body : List ℕ) (lent : Lent) (t r : ℕ) → reading K body lent ≡ leaves (no_room t r) lent
      → (z : Sizes) × (measuring K body ≡ accepted z) × Lowest z.tables lent t r
  unfolding measuring onto sizes
  lacking_of body lent t r e = go (view K body lent)
    where
      go : View K body lent → (z : Sizes) × (measuring K body ≡ accepted z) × Lowest z.tables lent t r
      go (is_read s j h q) = not_refused (answers (sym q ∙ e))
      go (lacks s n j h q) = let w = same_room (answers (sym q ∙ e)) in (sizes K s, ap (onto (sizes K)) j, rw (← w.0, ← w.1) (lowest _ lent n h))
      go (is_short x j q) = short_room x t r (answers (sym q ∙ e))
      go (is_long h q) = long_room (length body) t r (answers (sym q ∙ e))

  lacking_so : (body : List ℕ) (lent : Lent) (t r : ℕ) (z : Sizes) → measuring K body ≡ accepted z → Lowest z.tables lent t r → reading K body lent ≡ leaves (no_room t r) lent
  unfolding sizes
  lacking_so body lent t r z e l =
      let (s, j, q) = measured K body z e in
      let w : needs (K.tables s.tree) ≡ z.tables = ap (λ (x : Sizes). x.tables) q in
      let x = from_lowest (rw (← w) at l) in
      lacks_so K body lent s x.need j x.found ∙ (λ i. leaves (no_room (x.table i) (x.rows i)) lent)

  pub more_room : Lawful K → MoreRoomGiven K
  unfolding measuring onto sizes
  more_room L = record {
    kept = λ body lent top after e n.
        let w = was K body lent top after e in
        let t = w.sound.tree in
        let k = keeps (K.tables t) lent (shapes L body (ran_well K body w.sound w.judges).reads) (none_fit _ lent w.fits) (n ∙ sym (L.all_there t)) in
        (sizes K w.sound, ap (onto (sizes K)) w.judges, subst (Kept (needs (K.tables t)) lent) w.after_is k);
    more_room = room_changes;
    same_rows = λ body lent more top after r e.
        let w = was K body lent top after e in (
          K.tables w.sound.tree,
          sizes K w.sound,
          ap (onto (sizes K)) w.judges,
          refl,
          sym w.after_is,
          reads_so K body more w.sound w.judges (fits_more _ lent more r w.fits) ∙ (λ i. leaves (accepted (w.top_is i)) (filled (K.tables w.sound.tree) more)),
        );
    no_room = λ body lent t r. (lacking_of body lent t r, λ x. lacking_so body lent t r x.0 x.1 x.2);
    untouched = refused_keeps;
  }
