-- A row as a format: its layout, broken where rows of another table or a payload stand, each steered by a column (a count or a length).
use Prim.Native.Nat.{ℕ, zero, suc, ◌+◌, ◌≤◌, ◌<◌}
use mathlib.Core.List.{List, [], ◌∷◌, ◌++◌, map-append, flatten}
use mathlib.Core.Bool.{Bool, true, false, not, ◌&&◌}
use mathlib.Core.Logic.{inl, inr}
use mathlib.Core.Path.{◌≡◌, refl, sym, ap, subst, ◌∙◌}
use native.Mathlib.Omega.{arith}
use native.Mathlib.Nat.{add-zero, zero-add}
use lib.ListN.{length, get_or}
use lib.Seq.{ext_get_or}
use lib.Dec.{eqb, leb, ltb}
use borrow.Author.Tests.{not-true, ltb-true, ltb-false, ne_eqb}
use Rattle.wire.specs.Lists.{Every, all_nil, all_cons, each, Byte}
use Rattle.wire.specs.Prog.{Prog, ret, Out, done, short, needing, run, passed, ◌>>=◌}
use Rattle.wire.specs.declared.rows.Payload.{Payload}
use Rattle.wire.specs.Act.{Act, pick}
use Rattle.wire.specs.Pen.{clean, bytes}
use Rattle.wire.specs.Layout.{Cell, num, Layout, end, line, word, choose, follows, judged, Columns, of, row, reads, writes, shown, matches, every, column, has, mix, columns}
use Rattle.wire.proofs.Lists.{every_left, every_right}
use Rattle.wire.proofs.Reading.Runs.{bind_assoc, run_split, run_ret}
use Rattle.wire.proofs.Reading.Blind.{passed_bind, passed_map}
use Rattle.wire.proofs.Writing.Acts.{and_both, both_and, Makes, makes_both, clean_append, clean_both, bytes_append}
use Rattle.wire.proofs.Reading.Takes.{Takes, takes_bind, takes_split, takes_map, map_takes, Here, here_left, here_right}
use Rattle.wire.proofs.Tables.{each_length}
use Rattle.wire.proofs.Layouts.Codec.{Codec, Read, Wrote, Spells}
use Rattle.wire.proofs.Layouts.Cells as L
use Rattle.wire.proofs.Layouts.Cells.{On, Off, Apart, Fine, sound, set_else, all, free, proper, free_apart, apart_left, apart_right, apart_front, apart_back, apart_both, on_both, cells_on, columns_none, none_columns, or_none, has_append, shown_in, mix_in, mix_on, mix_all, clash, every_same, puts_else, none_or, on_none, every_append, append_every, either, mix_out}

-- T is what is read at the breaks, M what that means
pub data Form : Type 0 → Type 0 → Type 1 where
  last : Layout → Form (Unit {0}) (Unit {0})
  hole : {A C T M : Type 0} → Layout → ℕ → (ℕ → Codec A C) → Form T M → Form (A × T) (C × M)

unfoldable pub form_read : {T M : Type 0} (x : Form T M) → Columns → Prog (Columns × T)
form_read (last l) f = do
  g ← reads l f
  ret (g, tt)
form_read (hole l k m r) f = do
  h ← reads l f
  a ← (m (h k)).read
  v ← form_read r h
  ret (v.0, (a, v.1))

unfoldable pub form_means : {T M : Type 0} (x : Form T M) → List ℕ → Columns → T → M
form_means (last l) s g a = tt
form_means (hole l k m r) s g a = ((m (g k)).means s a.0, form_means r s g a.1)

unfoldable pub form_acts : {T M : Type 0} (x : Form T M) → Columns → M → List Act
form_acts (last l) g c = writes l g
form_acts (hole l k m r) g c = writes l g ++ ((m (g k)).acts c.0 ++ form_acts r g c.1)

unfoldable pub FormFits : {T M : Type 0} (x : Form T M) → Columns → M → Type 0
FormFits (last l) g c = Fine l g
FormFits (hole l k m r) g c = Fine l g × ((m (g k)).Fits c.0 × FormFits r g c.1)

unfoldable pub form_shown : {T M : Type 0} → Form T M → Columns → List Cell
form_shown (last l) g = shown l g
form_shown (hole l k m r) g = shown l g ++ form_shown r g

unfoldable pub form_matches : {T M : Type 0} → Form T M → Columns → List Act
form_matches (last l) g = matches l g
form_matches (hole l k m r) g = matches l g ++ form_matches r g

unfoldable pub form_all : {T M : Type 0} → Form T M → List ℕ
form_all (last l) = all l
form_all (hole l k m r) = all l ++ form_all r

-- the columns that are read in any case
unfoldable pub sure : Layout → List ℕ
sure end = []
sure (line css l) = columns (flatten css) ++ sure l
sure (word k l) = k ∷ sure l
sure (choose k is p q l) = sure l
sure (follows c j t x l) = column c ∷ sure l
sure (judged p l) = sure p ++ sure l

unfoldable pub form_proper : {T M : Type 0} → List ℕ → Form T M → Bool
form_proper known (last l) = proper known l
form_proper known (hole l k m r) = proper known l && (not (has k (form_all r)) && (free (all l) (form_all r) && form_proper (sure l ++ known) r))

unfoldable pub form_spans : {T M : Type 0} (x : Form T M) → Columns → T → List Payload
form_spans (last l) g a = []
form_spans (hole l k m r) g a = (m (g k)).spans a.0 ++ form_spans r g a.1

-- the same program as one writes it, without the pairs
unfoldable pub form_go : {B T M : Type 0} (x : Form T M) → Columns → (Columns → T → Prog B) → Prog B
form_go (last l) f k = do
  g ← reads l f
  k g tt
form_go (hole l c m r) f k = do
  h ← reads l f
  a ← (m (h c)).read
  form_go r h (λ g y. k g (a, y))

pub form_goes : {B T M : Type 0} (x : Form T M) (f : Columns) (k : Columns × T → Prog B) → form_read x f >>= k ≡ form_go x f (λ g y. k (g, y))
unfolding form_read form_go ◌>>=◌
form_goes (last l) f k = bind_assoc (reads l f) (λ g. ret (g, tt)) k
form_goes (hole {A} {T = S} l c m r) f k =
    let D : Type 0 = Columns × (A × S) in
    bind_assoc {B = D} (reads l f) (λ h. (m (h c)).read >>= λ a. form_read r h >>= λ v. ret (v.0, (a, v.1))) k
    ∙ (λ i. reads l f >>= λ h. bind_assoc {B = D} (m (h c)).read (λ a. form_read r h >>= λ v. ret (v.0, (a, v.1))) k i)
    ∙ (λ i. reads l f >>= λ h. (m (h c)).read >>= λ a. (bind_assoc {B = D} (form_read r h) (λ v. ret (v.0, (a, v.1))) k ∙ form_goes r h (λ v. k (v.0, (a, v.1)))) i)

-- ---- columns

pub sure_shown : (l : Layout) (g : Columns) {f : Columns} → On (columns (shown l g)) f g → On (sure l) f g
unfolding sure shown
sure_shown end g h = h
sure_shown (line css l) g h = let (a, b) = cells_on (flatten css) (shown l g) h in on_both (columns (flatten css)) (sure l) a (sure_shown l g b)
sure_shown (word k l) g h = let (a, b) = cells_on (num 16 k ∷ []) (shown l g) h in on_both (k ∷ []) (sure l) a (sure_shown l g b)
sure_shown (choose k is p q l) g h = sure_shown l g (cells_on (pick (is (g k)) (shown p g) (shown q g)) (shown l g) h).1
sure_shown (follows c j t x l) g h = let (a, b) = cells_on (c ∷ []) (shown l g) h in on_both (column c ∷ []) (sure l) a (sure_shown l g b)
sure_shown (judged p l) g h = let (a, b) = cells_on (shown p g) (shown l g) h in on_both (sure p) (sure l) (sure_shown p g a) (sure_shown l g b)

sure_apart : (l : Layout) (b : List ℕ) → Apart (all l) b → Apart (sure l) b
unfolding sure all
sure_apart end b h = h
sure_apart (line css l) b h =
    apart_both (columns (flatten css)) (sure l) b (apart_front (columns (flatten css)) (all l) b h) (sure_apart l b (apart_back (columns (flatten css)) (all l) b h))
sure_apart (word k l) b h = apart_both (k ∷ []) (sure l) b (apart_front (k ∷ []) (all l) b h) (sure_apart l b (apart_back (k ∷ []) (all l) b h))
sure_apart (choose k is p q l) b h = sure_apart l b (apart_back (all p ++ all q) (all l) b h)
sure_apart (follows c j t x l) b h = apart_both (column c ∷ []) (sure l) b (apart_front (column c ∷ []) (all l) b h) (sure_apart l b (apart_back (column c ∷ []) (all l) b h))
sure_apart (judged p l) b h = apart_both (sure p) (sure l) b (sure_apart p b (apart_front (all p) (all l) b h)) (sure_apart l b (apart_back (all p) (all l) b h))

pub form_shown_in : {T M : Type 0} (x : Form T M) (g : Columns) (j : ℕ) → has j (form_all x) ≡ false → has j (columns (form_shown x g)) ≡ false
unfolding form_all form_shown
form_shown_in (last l) g j e = shown_in l g j e
form_shown_in (hole l k m r) g j e = let (a, b) = or_none (has j (all l)) (has j (form_all r)) (sym (has_append j (all l) (form_all r)) ∙ e) in columns_none j (shown l g) (form_shown r g) (shown_in l g j a) (form_shown_in r g j b)

record Tests (known : List ℕ) (l : Layout) (k : ℕ) {T M : Type 0} (r : Form T M) : Type 0 where
  head : proper known l ≡ true
  steers : has k (form_all r) ≡ false
  apart : Apart (all l) (form_all r)
  tail : form_proper (sure l ++ known) r ≡ true

tests : {A C : Type 0} (known : List ℕ) (l : Layout) (k : ℕ) (m : ℕ → Codec A C) {T M : Type 0} (r : Form T M) → form_proper known (hole l k m r) ≡ true → Tests known l k r
unfolding form_proper
tests known l k m r p =
    let (a, b) = and_both (proper known l) _ p in
    let (c, d) = and_both (not (has k (form_all r))) _ b in
    let (e, f) = and_both (free (all l) (form_all r)) _ d in
    record { head = a; steers = not-true _ c; apart = free_apart (all l) (form_all r) e; tail = f }

-- ---- what is written is read

later : (l : Layout) {T M : Type 0} (r : Form T M) (f g : Columns) → Off (columns (shown l g ++ form_shown r g)) f g
    → Off (columns (form_shown r g)) (mix (columns (shown l g)) g f) g
later l r f g w j e = go (has j (columns (shown l g))) refl
  where
    go : (b : Bool) → has j (columns (shown l g)) ≡ b → pick b (g j) (f j) ≡ g j
    go true q = refl
    go false q = w j (columns_none j (shown l g) (form_shown r g) q e)

pub record Gets {T M : Type 0} (x : Form T M) (f g : Columns) (c : M) (at : ℕ) : Type 0 where
  pub value : T
  pub takes : Takes (form_read x f) at (g, value) (bytes (form_acts x g c))
  pub meant : (s : List ℕ) → Here s at (bytes (form_acts x g c)) → form_means x s g value ≡ c

pub form_forth : (known : List ℕ) {T M : Type 0} (x : Form T M) → form_proper known x ≡ true → (f g : Columns) (c : M) → On known f g → Off (columns (form_shown x g)) f g
    → FormFits x g c → clean (form_acts x g c) ≡ true → (at : ℕ)
    → Gets x f g c at
unfolding form_proper form_shown FormFits form_acts form_read form_means
form_forth known (last l) p f g c o w h e at = record {
  value = tt;
  takes = takes_map (λ g. (g, tt)) (subst (λ (x : Columns). Takes (reads l f) at x (bytes (writes l g))) (mix_all (columns (shown l g)) w) (L.forth known l p f g o h e at));
  meant = λ s i. refl;
}
form_forth known (hole {A} {T = S} l k m r) p f g c o w h e at =
    let t = tests known l k m r p in
    let (e₀, e₁) = clean_both (writes l g) ((m (g k)).acts c.0 ++ form_acts r g c.1) e in
    let (e₂, e₃) = clean_both ((m (g k)).acts c.0) (form_acts r g c.1) e₁ in
    let ks = columns (shown l g) in
    let x : Columns = mix ks g f in
    let w₁ : Off (columns (form_shown r g)) x g = later l r f g w in
    let u = L.forth known l t.head f g o h.0 e₀ at in
    let q : x k ≡ g k = w₁ k (form_shown_in r g k t.steers) in
    let n₀ = at + length (bytes (writes l g)) in
    let v = (m (g k)).forth c.0 h.1.0 e₂ n₀ in
    let n₁ = n₀ + length (bytes ((m (g k)).acts c.0)) in
    let y = form_forth (sure l ++ known) r t.tail x g c.1 (on_both (sure l) known (sure_shown l g (mix_in ks g f)) (mix_on ks known o)) w₁ h.1.1 e₃ n₁ in
    let vt : Takes (m (x k)).read n₀ v.value (bytes ((m (g k)).acts c.0)) =
    subst (λ (n : ℕ). Takes (m n).read n₀ v.value (bytes ((m (g k)).acts c.0))) (sym q) v.takes in
    let j₁ = bytes_append ((m (g k)).acts c.0) (form_acts r g c.1) in
    let j₀ = bytes_append (writes l g) ((m (g k)).acts c.0 ++ form_acts r g c.1) ∙ ap (λ (b : List ℕ). bytes (writes l g) ++ b) j₁ in
    let B : Type 0 = Columns × (A × S) in
    let tk =
    takes_bind {B = B} (λ h. (m (h k)).read >>= λ a. form_read r h >>= λ v. ret (v.0, (a, v.1))) u
    (takes_bind {B = B} (λ a. form_read r x >>= λ v. ret (v.0, (a, v.1))) vt (takes_map {B = B} (λ v'. (v'.0, (v.value, v'.1))) y.takes)) in
    record {
      value = (v.value, y.value);
      takes = rw j₀ tk;
      meant = λ s i. let i' = here_right (bytes (writes l g)) _ (subst (Here s at) j₀ i) in λ z. (v.meant s (here_left _ _ i') z, y.meant s (here_right (bytes ((m (g k)).acts c.0)) _ i') z);
    }

-- ---- what is read is written

pub record Gave {T M : Type 0} (x : Form T M) (s : List ℕ) (f g : Columns) (a : T) (bs : List ℕ) : Type 0 where
  pub fits : FormFits x g (form_means x s g a)
  pub makes : Makes (form_acts x g (form_means x s g a)) bs
  pub rest : Off (columns (form_shown x g)) f g

steady : (ks : List ℕ) {T M : Type 0} (r : Form T M) {f g : Columns} → Apart ks (form_all r) → Off (columns (form_shown r g)) f g → On ks f g
steady ks r {f} {g} a h j e = h j (form_shown_in r g j (a j e))

shown_steady : (l : Layout) {T M : Type 0} (r : Form T M) (f g : Columns) → Apart (all l) (form_all r) → Off (columns (form_shown r g)) f g → On (columns (shown l f)) f g
shown_steady l r f g a h j e = go (has j (all l)) refl
  where
    go : (b : Bool) → has j (all l) ≡ b → f j ≡ g j
    go true q = h j (form_shown_in r g j (a j q))
    go false q = clash e (shown_in l f j q)

gave_hole : {A C : Type 0} (known : List ℕ) (l : Layout) (k : ℕ) (m : ℕ → Codec A C) {T M : Type 0} (r : Form T M) → Tests known l k r → Apart known (form_all r)
    → (s : List ℕ) (f h g : Columns) (x : A) (y : T) (bs b₀ b₁ b₂ : List ℕ)
    → L.Back l f h b₀ → Every Byte b₀ → Wrote (m (h k)).Fits (m (h k)).acts ((m (h k)).means s x) b₁ → Gave r s h g y b₂ → bs ≡ b₀ ++ (b₁ ++ b₂) → Gave (hole l k m r) s f g (x, y) bs
unfolding form_shown FormFits form_acts form_means
gave_hole known l k m r t kn s f h g x y bs b₀ b₁ b₂ u hb v w j =
    let o = shown_steady l r h g t.apart w.rest in
    let z = L.same known l t.head h g (steady known r kn w.rest) o in
    let q : h k ≡ g k = w.rest k (form_shown_in r g k t.steers) in
    let v' = subst (λ (n : ℕ). Wrote (m n).Fits (m n).acts ((m n).means s x) b₁) q v in
    let c : every sound g (shown l g) ≡ true = subst (λ (cs : List Cell). every sound g cs ≡ true) z.cells (sym (every_same sound (shown l h) o) ∙ u.fine.0) in
    record {
      fits = ((c, ap clean (sym z.matched) ∙ u.fine.1), (v'.fits, w.fits));
      makes = rw j (makes_both (subst (λ (q : List Act). Makes q b₀) z.acts (u.makes hb)) (makes_both v'.makes w.makes));
      rest = λ i e. let (a, b) = none_columns i (shown l g) (form_shown r g) e in u.rest i (subst (λ (cs : List Cell). has i (columns cs) ≡ false) (sym z.cells) a) ∙ w.rest i b;
    }

pub form_back : (known : List ℕ) {T M : Type 0} (x : Form T M) → form_proper known x ≡ true → Apart known (form_all x)
    → (s : List ℕ) (at : ℕ) (f : Columns) (z : Columns × T) (bs : List ℕ) → Takes (form_read x f) at z bs → Every Byte bs → Here s at bs
    → Gave x s f z.0 z.1 bs
unfolding form_proper form_shown form_all FormFits form_acts form_read form_means
form_back known (last l) p kn s at f z bs t h i =
    let (g, e, u) = map_takes (reads l f) (λ g. (g, tt)) t in
    let b = L.back known l p kn f g at bs u in
    subst (λ (z : Columns × Unit {0}). Gave (last l) s f z.0 z.1 bs) e (record { fits = b.fine; makes = b.makes h; rest = b.rest })
form_back known (hole {A} {T = S} l k m r) p kn s at f z bs t h i =
    let B : Type 0 = Columns × (A × S) in
    let ts = tests known l k m r p in
    let kr = apart_right known (all l) (form_all r) kn in
    let u = takes_split {B = B} (reads l f) _ t in
    let v = takes_split {B = B} (m (u.value k)).read _ u.second in
    let w = map_takes {B = B} (form_read r u.value) (λ y. (y.0, (v.value, y.1))) v.second in
    let j : bs ≡ u.front ++ (v.front ++ v.back) = u.joined ∙ ap (λ (b : List ℕ). u.front ++ b) v.joined in
    let h₀ : Every Byte (u.front ++ (v.front ++ v.back)) = rw j at h in
    let i₀ : Here s at (u.front ++ (v.front ++ v.back)) = rw j at i in
    let h₁ = every_right Byte u.front _ h₀ in
    let i₁ = here_right u.front _ i₀ in
    let x₀ = L.back known l ts.head (apart_left known (all l) (form_all r) kn) f u.value at u.front u.first in
    let x₁ = (m (u.value k)).back s (at + length u.front) v.value v.front v.first (every_left Byte _ _ h₁) (here_left _ _ i₁) in
    let x₂ =
    form_back (sure l ++ known) r ts.tail (apart_both (sure l) known (form_all r) (sure_apart l (form_all r) ts.apart) kr) s
    (at + length u.front + length v.front) u.value w.0 v.back w.2 (every_right Byte v.front _ h₁) (here_right v.front _ i₁) in
    subst (λ (z : B). Gave (hole l k m r) s f z.0 z.1 bs) w.1
    (gave_hole known l k m r ts kr s f u.value w.0.0 v.value w.0.1 bs u.front v.front v.back x₀ (every_left Byte _ _ h₀) x₁ x₂ j)

-- ---- its payloads

was : {A : Type 0} {a : A} {k : ℕ} (n : ℕ) (b : Bool) {o : Out A} → ◌≡◌ {A = Out A} (elim b [ true ↦ o | false ↦ short (needing n) ]) (done a k) → o ≡ done a k
was n true e = e
was n false e = absurd (let z : ◌≡◌ {A = ℕ} 0 1 = cc e in omega arith)

leaves : (l : Layout) (f : Columns) (s : List ℕ) (at : ℕ) (g : Columns) (k : ℕ) → run (reads l f) s at ≡ done g k → Off (all l) f g
unfolding reads all run has
leaves end f s at g k e j n = let q : f ≡ g = cc e in ap (λ (x : Columns). x j) q
leaves (line css l) f s at g k e j n =
    let (a, b) = or_none (has j (columns (flatten css))) (has j (all l)) (sym (has_append j (columns (flatten css)) (all l)) ∙ n) in
    sym (puts_else css _ f j a) ∙ leaves l _ s (at + length css) g k (was (at + length css) (leb (at + length css) (length s)) e) j b
leaves (word c l) f s at g k e j n =
    let (a, b) = or_none (eqb j c) (has j (all l)) n in
    sym (set_else c _ f j a) ∙ leaves l _ s (at + 1 + 1) g k (was (at + 1 + 1) (leb (at + 1 + 1) (length s)) (was (at + 1) (leb (at + 1) (length s)) e)) j b
leaves (choose i is p q l) f s at g k e j n =
    let (a, b) = or_none (has j (all p ++ all q)) (has j (all l)) (sym (has_append j (all p ++ all q) (all l)) ∙ n) in
    let (c, d) = or_none (has j (all p)) (has j (all q)) (sym (has_append j (all p) (all q)) ∙ a) in
    let u = run_split (pick (is (f i)) (reads p f) (reads q f)) (λ x. reads l x) s at g k e in
    go (is (f i)) (λ e. leaves p f s at u.value u.middle e j c) (λ e. leaves q f s at u.value u.middle e j d) u.first
    ∙ leaves l u.value s u.middle g k u.second j b
  where
    go : (b : Bool) {x : Columns} {n : ℕ} → (run (reads p f) s at ≡ done x n → f j ≡ x j) → (run (reads q f) s at ≡ done x n → f j ≡ x j)
        → run (pick b (reads p f) (reads q f)) s at ≡ done x n → f j ≡ x j
    go true h i e = h e
    go false h i e = i e
leaves (follows c i t x l) f s at g k e j n = let (a, b) = or_none (eqb j (column c)) (has j (all l)) n in sym (set_else (column c) _ f j a) ∙ leaves l _ s at g k e j b
leaves (judged p l) f s at g k e j n =
    let (a, b) = or_none (has j (all p)) (has j (all l)) (sym (has_append j (all p) (all l)) ∙ n) in
    let u = run_split (reads p f) (λ x. reads l x) s at g k e in
    leaves p f s at u.value u.middle u.first j a ∙ leaves l u.value s u.middle g k u.second j b

record Passes {T M : Type 0} (x : Form T M) (f : Columns) (s : List ℕ) (at : ℕ) (z : Columns × T) : Type 0 where
  over : passed (form_read x f) s at ≡ form_spans x z.0 z.1
  rest : Off (form_all x) f z.0

form_skipped : {T M : Type 0} (x : Form T M) (known : List ℕ) → form_proper known x ≡ true → (f : Columns) (s : List ℕ) (at : ℕ) (z : Columns × T) (k : ℕ)
    → run (form_read x f) s at ≡ done z k → Passes x f s at z
unfolding form_read form_spans form_all form_proper
form_skipped (last l) known p f s at z k e =
    let u = run_split {B = Columns × Unit {0}} (reads l f) (λ g. ret (g, tt)) s at z k e in
    let q = (run_ret (u.value, tt) s u.middle u.second).0 in
    let n = leaves l f s at u.value u.middle u.first in
    record {
      over = passed_map {B = Columns × Unit {0}} (reads l f) (λ g. (g, tt)) s at u.first ∙ L.skips l f s at u.value u.middle u.first;
      rest = λ j h. n j h ∙ ap (λ (z : Columns × Unit {0}). z.0 j) q;
    }
form_skipped (hole {A} {T = S} l k m r) known p f s at z n e =
    let B : Type 0 = Columns × (A × S) in
    let t = tests known l k m r p in
    let u = run_split {B = B} (reads l f) (λ h. (m (h k)).read >>= λ a. form_read r h >>= λ v. ret (v.0, (a, v.1))) s at z n e in
    let v = run_split {B = B} (m (u.value k)).read (λ a. form_read r u.value >>= λ v. ret (v.0, (a, v.1))) s u.middle z n u.second in
    let w = run_split {B = B} (form_read r u.value) (λ y. ret (y.0, (v.value, y.1))) s v.middle z n v.second in
    let q : (w.value.0, (v.value, w.value.1)) ≡ z = (run_ret _ s w.middle w.second).0 in
    let y = form_skipped r (sure l ++ known) t.tail u.value s v.middle w.value w.middle w.first in
    let h : u.value k ≡ w.value.0 k = y.rest k t.steers in
    let o = leaves l f s at u.value u.middle u.first in
    subst (Passes (hole l k m r) f s at) q (record {
      over =
          passed_bind {B = B} (reads l f) (λ h. (m (h k)).read >>= λ a. form_read r h >>= λ v. ret (v.0, (a, v.1))) s at u.first
          ∙ (λ i. L.skips l f s at u.value u.middle u.first i ++ passed {A = B} ((m (u.value k)).read >>= λ a. form_read r u.value >>= λ v. ret (v.0, (a, v.1))) s u.middle)
          ∙ passed_bind {B = B} (m (u.value k)).read (λ a. form_read r u.value >>= λ v. ret (v.0, (a, v.1))) s u.middle v.first
          ∙ (λ i. ((m (u.value k)).skipped s u.middle v.value v.middle v.first ∙ ap (λ (n : ℕ). (m n).spans v.value) h) i ++ (passed_map {B = B} (form_read r u.value) (λ y. (y.0, (v.value, y.1))) s v.middle w.first ∙ y.over) i);
      rest = λ j a. let (x₀, x₁) = or_none (has j (all l)) (has j (form_all r)) (sym (has_append j (all l) (form_all r)) ∙ a) in o j x₀ ∙ y.rest j x₁;
    })

-- ---- rows: the first n columns

pub each_in : (f : Columns) (i n j : ℕ) → j < n → get_or (each f i n) j 0 ≡ f (i + j)
unfolding each
each_in f i zero j h = absurd (omega arith)
each_in f i (suc n) zero h = ap f (sym (add-zero i))
each_in f i (suc n) (suc j) h = each_in f (i + 1) n j (omega arith) ∙ ap f (omega arith)

each_out : (f : Columns) (i n j : ℕ) → n ≤ j → get_or (each f i n) j 0 ≡ 0
unfolding each
each_out f i zero j h = refl
each_out f i (suc n) zero h = absurd (omega arith)
each_out f i (suc n) (suc j) h = each_out f (i + 1) n j (omega arith)

unfoldable pub below : ℕ → List ℕ → Bool
below n [] = true
below n (k ∷ ks) = ltb k n && below n ks

pub below_has : (n : ℕ) (ks : List ℕ) → below n ks ≡ true → (j : ℕ) → n ≤ j → has j ks ≡ false
unfolding below has
below_has n [] e j h = refl
below_has n (k ∷ ks) e j h =
    let (a, b) = and_both (ltb k n) (below n ks) e in
    let l = ltb-true k n a in
    none_or (ne_eqb j k (λ q. omega arith)) (below_has n ks b j h)

pub row_of : (n : ℕ) (r : List ℕ) → length r ≡ n → row n (of r) ≡ r
row_of n r e = ext_get_or 0 (row n (of r)) r (each_length (of r) 0 n ∙ sym e) (λ i h. each_in (of r) 0 n i (rw (each_length (of r) 0 n) at h) ∙ ap (of r) (zero-add i))

-- columns that are 0 from n on
pub of_row : (n : ℕ) (g : Columns) → ((j : ℕ) → n ≤ j → g j ≡ 0) → of (row n g) ≡ g
of_row n g h = λ i j. go j (ltb j n) refl i
  where
    go : (j : ℕ) (b : Bool) → ltb j n ≡ b → get_or (each g 0 n) j 0 ≡ g j
    go j true q = each_in g 0 n j (ltb-true j n q) ∙ ap g (zero-add j)
    go j false q = let l = ltb-false j n q in each_out g 0 n j (omega arith) ∙ sym (h j (omega arith))

-- ---- the actions of a row with any actions at its breaks

abbrev pub Breaks : {T M : Type 0} → Form T M → Type 0
Breaks (last l) = Unit {0}
Breaks (hole l k m r) = List Act × Breaks r

unfoldable pub woven : {T M : Type 0} (x : Form T M) → Columns → Breaks x → List Act
woven (last l) g q = writes l g
woven (hole l k m r) g q = writes l g ++ (q.0 ++ woven r g q.1)

pub record Alike {T M : Type 0} (x : Form T M) (f g : Columns) : Type 0 where
  pub acts : (q : Breaks x) → woven x f q ≡ woven x g q
  pub cells : form_shown x f ≡ form_shown x g
  pub matched : form_matches x f ≡ form_matches x g

alike_at : (known : List ℕ) {T M : Type 0} (x : Form T M) → form_proper known x ≡ true → (f g : Columns) → On known f g → On (columns (form_shown x f)) f g → Alike x f g
unfolding form_proper form_shown form_matches woven
alike_at known (last l) p f g o h = let s = L.same known l p f g o h in record { acts = λ q. s.acts; cells = s.cells; matched = s.matched }
alike_at known (hole l k m r) p f g o h =
    let t = tests known l k m r p in
    let (a, b) = cells_on (shown l f) (form_shown r f) h in
    let s = L.same known l t.head f g o a in
    let a' : On (columns (shown l f)) f g = a in
    let y = alike_at (sure l ++ known) r t.tail f g (on_both (sure l) known (sure_on l f a') o) b in
    record { acts = λ q i. s.acts i ++ (q.0 ++ y.acts q.1 i); cells = λ i. s.cells i ++ y.cells i; matched = λ i. s.matched i ++ y.matched i }
  where
    sure_on : (l : Layout) (f : Columns) {g : Columns} → On (columns (shown l f)) f g → On (sure l) f g
    sure_on l f {g} h j e = sym (sure_shown l f {f = g} (λ j e. sym (h j e)) j e)

-- each break spells its part of the meaning
unfoldable pub Holes : {T M : Type 0} (x : Form T M) → Columns → Breaks x → M → Type 0
Holes (last l) g q c = Unit {0}
Holes (hole l k m r) g q c = Spells (m (g k)) q.0 c.0 × Holes r g q.1 c.1

abbrev pub Fit : {T M : Type 0} → Form T M → Columns → Type 0
Fit x g = (every sound g (form_shown x g) ≡ true) × (clean (form_matches x g) ≡ true)

record Spelt {T M : Type 0} (x : Form T M) (g : Columns) (q : Breaks x) (c : M) : Type 0 where
  fits : FormFits x g c
  sound : clean (form_acts x g c) ≡ true
  same : bytes (woven x g q) ≡ bytes (form_acts x g c)

spelt : {T M : Type 0} (x : Form T M) (g : Columns) (q : Breaks x) (c : M) → Fit x g → clean (woven x g q) ≡ true → Holes x g q c → Spelt x g q c
unfolding form_shown form_matches woven Holes FormFits form_acts
spelt (last l) g q c f e h = record { fits = f; sound = e; same = refl }
spelt (hole l k m r) g q c f e h =
    let (f₀, f₁) = every_append sound g (shown l g) (form_shown r g) f.0 in
    let (m₀, m₁) = clean_both (matches l g) (form_matches r g) f.1 in
    let (e₀, e₁) = clean_both (writes l g) (q.0 ++ woven r g q.1) e in
    let (e₂, e₃) = clean_both q.0 (woven r g q.1) e₁ in
    let y = spelt r g q.1 c.1 (f₁, m₁) e₃ h.1 in
    let a = (m (g k)).acts c.0 in
    record {
      fits = ((f₀, m₀), (h.0.fits, y.fits));
      sound = clean_append (writes l g) (a ++ form_acts r g c.1) ∙ both_and e₀ (clean_append a (form_acts r g c.1) ∙ both_and h.0.sound y.sound);
      same =
          bytes_append (writes l g) (q.0 ++ woven r g q.1)
          ∙ ap (λ (b : List ℕ). bytes (writes l g) ++ b) (bytes_append q.0 (woven r g q.1) ∙ (λ i. h.0.same i ++ y.same i) ∙ sym (bytes_append a (form_acts r g c.1)))
          ∙ sym (bytes_append (writes l g) (a ++ form_acts r g c.1));
    }

-- what was read has no fault: neither its flags and counts, nor its bytes, if its breaks have none
unfoldable pub Cleans : {T M : Type 0} (x : Form T M) → Breaks x → Type 0
Cleans (last l) q = Unit {0}
Cleans (hole l k m r) q = (clean q.0 ≡ true) × Cleans r q.1

pub record Faultless {T M : Type 0} (x : Form T M) (g : Columns) : Type 0 where
  pub fit : Fit x g
  pub small : (j : ℕ) → has j (columns (form_shown x g)) ≡ true → g j < 65536
  pub sound : (q : Breaks x) → Cleans x q → clean (woven x g q) ≡ true

faultless_at : (known : List ℕ) {T M : Type 0} (x : Form T M) → form_proper known x ≡ true → (g : Columns) (c : M) → FormFits x g c → clean (form_acts x g c) ≡ true
    → Faultless x g
unfolding form_proper form_shown form_matches woven Cleans FormFits form_acts
faultless_at known (last l) p g c f e =
    let w = L.all_fit known l p g f.1 e in
    record { fit = f; small = L.cells_small (shown l g) g (L.shown_narrow known l p g) f.0 w; sound = λ q h. e }
faultless_at known (hole l k m r) p g c f e =
    let t = tests known l k m r p in
    let (e₀, e₁) = clean_both (writes l g) ((m (g k)).acts c.0 ++ form_acts r g c.1) e in
    let (e₂, e₃) = clean_both ((m (g k)).acts c.0) (form_acts r g c.1) e₁ in
    let w = L.all_fit known l t.head g f.0.1 e₀ in
    let y = faultless_at (sure l ++ known) r t.tail g c.1 f.1.1 e₃ in
    record {
      fit = (append_every sound g (shown l g) (form_shown r g) f.0.0 y.fit.0, clean_append (matches l g) (form_matches r g) ∙ both_and f.0.1 y.fit.1);
      small = λ j h. elim (either (has j (columns (shown l g))) (has j (columns (form_shown r g))) (sym (has_append j (columns (shown l g)) (columns (form_shown r g))) ∙ rw (map-append column (shown l g) (form_shown r g)) at h)) [
        | inl q ↦ L.cells_small (shown l g) g (L.shown_narrow known l t.head g) f.0.0 w j q
        | inr q ↦ y.small j q
      ];
      sound = λ q h. clean_append (writes l g) (q.0 ++ woven r g q.1) ∙ both_and e₀ (clean_append q.0 (woven r g q.1) ∙ both_and h.0 (y.sound q.1 h.1));
    }

-- columns of at most eight bits
unfoldable pub form_in_bytes : {T M : Type 0} → Form T M → Bool
form_in_bytes (last l) = L.in_bytes l
form_in_bytes (hole l k m r) = L.in_bytes l && form_in_bytes r

bytes_at : (known : List ℕ) {T M : Type 0} (x : Form T M) → form_proper known x ≡ true → form_in_bytes x ≡ true → (g : Columns) (c : M) → FormFits x g c
    → clean (form_acts x g c) ≡ true
    → (j : ℕ) → has j (columns (form_shown x g)) ≡ true → g j < 256
unfolding form_proper form_shown form_in_bytes FormFits form_acts
bytes_at known (last l) p n g c f e j h = L.cells_byte (shown l g) g (L.bytes_shown l g n) (L.all_fit known l p g f.1 e) j h
bytes_at known (hole l k m r) p n g c f e j h =
    let t = tests known l k m r p in
    let (n₀, n₁) = and_both (L.in_bytes l) (form_in_bytes r) n in
    let (e₀, e₁) = clean_both (writes l g) ((m (g k)).acts c.0 ++ form_acts r g c.1) e in
    let (e₂, e₃) = clean_both ((m (g k)).acts c.0) (form_acts r g c.1) e₁ in
    elim (either (has j (columns (shown l g))) (has j (columns (form_shown r g))) (sym (has_append j (columns (shown l g)) (columns (form_shown r g))) ∙ rw (map-append column (shown l g) (form_shown r g)) at h)) [
      | inl q ↦ L.cells_byte (shown l g) g (L.bytes_shown l g n₀) (L.all_fit known l t.head g f.0.1 e₀) j q
      | inr q ↦ bytes_at (sure l ++ known) r t.tail n₁ g c.1 f.1.1 e₃ j q
    ]

pub each_every : (P : ℕ → Type 0) (f : Columns) (i n : ℕ) → ((j : ℕ) → P (f j)) → Every P (each f i n)
unfolding each
each_every P f i zero h = all_nil
each_every P f i (suc n) h = all_cons (h i) (each_every P f (i + 1) n h)

-- ---- the format of a row: its columns, and what stands at the breaks

module _ (n : ℕ) {T M : Type 0} (x : Form T M) (init : Columns) (p : form_proper [] x ≡ true) (b : below n (form_all x) ≡ true) (z : (j : ℕ) → n ≤ j → init j ≡ 0) where
  abbrev pub rows_read : Prog (List ℕ × T)
  rows_read = form_read x init >>= λ v. ret (row n v.0, v.1)

  abbrev pub rows_means : List ℕ → List ℕ × T → List ℕ × M
  rows_means s v = (v.0, form_means x s (of v.0) v.1)

  abbrev pub rows_acts : List ℕ × M → List Act
  rows_acts c = form_acts x (of c.0) c.1

  pub rows_goes : {B : Type 0} (k : List ℕ × T → Prog B) → rows_read >>= k ≡ form_go x init (λ g y. k (row n g, y))
  unfolding ◌>>=◌
  rows_goes k = bind_assoc {B = List ℕ × T} (form_read x init) (λ v. ret (row n v.0, v.1)) k ∙ form_goes x init (λ v. k (row n v.0, v.1))

  unfoldable pub RowFits : List ℕ × M → Type 0
  RowFits c = (length c.0 ≡ n) × Off (columns (form_shown x (of c.0))) init (of c.0) × FormFits x (of c.0) c.1

  zero_on : (g : Columns) → Off (form_all x) init g → (j : ℕ) → n ≤ j → g j ≡ 0
  zero_on g h j l = sym (h j (below_has n (form_all x) b j l)) ∙ z j l

  pub rows_forth : (c : List ℕ × M) → RowFits c → clean (rows_acts c) ≡ true → (at : ℕ)
      → Read rows_read rows_means at c (bytes (rows_acts c))
  unfolding RowFits
  rows_forth c f e at =
      let g = form_forth [] x p init (of c.0) c.1 (on_none init (of c.0)) f.1 f.2 e at in
      record {
        value = (c.0, g.value);
        takes = subst (λ (r : List ℕ). Takes rows_read at (r, g.value) (bytes (rows_acts c))) (row_of n c.0 f.0) (takes_map {B = List ℕ × T} (λ v. (row n v.0, v.1)) g.takes);
        meant = λ s h i. (c.0, g.meant s h i);
      }

  wrote : (s : List ℕ) (g : Columns) (a : T) (bs : List ℕ) → Gave x s init g a bs → Wrote RowFits rows_acts (row n g, form_means x s (of (row n g)) a) bs
  unfolding RowFits
  wrote s g a bs w =
      let q = of_row n g (zero_on g (λ j h. w.rest j (form_shown_in x g j h))) in
      let y = subst (λ (h : Columns). Gave x s init h a bs) (sym q) w in
      record { fits = (each_length g 0 n, y.rest, y.fits); makes = y.makes }

  pub rows_back : (s : List ℕ) (at : ℕ) (v : List ℕ × T) (bs : List ℕ) → Takes rows_read at v bs → Every Byte bs → Here s at bs
      → Wrote RowFits rows_acts (v.0, form_means x s (of v.0) v.1) bs
  rows_back s at v bs t h i =
      let u = map_takes {B = List ℕ × T} (form_read x init) (λ v. (row n v.0, v.1)) t in
      let w = form_back [] x p (λ j e. clash e (unfold has in refl)) s at init u.0 bs u.2 h i in
      subst (λ (v : List ℕ × T). Wrote RowFits rows_acts (v.0, form_means x s (of v.0) v.1) bs) u.1 (wrote s u.0.0 u.0.1 bs w)

  pub rows_skipped : (s : List ℕ) (at : ℕ) (v : List ℕ × T) (k : ℕ) → run rows_read s at ≡ done v k
      → passed rows_read s at ≡ form_spans x (of v.0) v.1
  rows_skipped s at v k e =
      let u = run_split {B = List ℕ × T} (form_read x init) (λ v. ret (row n v.0, v.1)) s at v k e in
      let w = form_skipped x [] p init s at u.value u.middle u.first in
      let q = of_row n u.value.0 (zero_on u.value.0 w.rest) in
      let y : (row n u.value.0, u.value.1) ≡ v = (run_ret _ s u.middle u.second).0 in
      passed_map {B = List ℕ × T} (form_read x init) (λ v. (row n v.0, v.1)) s at u.first ∙ w.over ∙ ap (λ (g : Columns). form_spans x g u.value.1) (sym q)
      ∙ ap (λ (v : List ℕ × T). form_spans x (of v.0) v.1) y

  unfoldable pub rows_codec : Codec (List ℕ × T) (List ℕ × M)
  rows_codec = record {
    read = rows_read;
    means = rows_means;
    acts = rows_acts;
    Fits = RowFits;
    forth = rows_forth;
    back = rows_back;
    spans = λ v. form_spans x (of v.0) v.1;
    skipped = rows_skipped;
  }

  -- the meaning of columns: those that writing reads, and what reading leaves in the others
  abbrev pub means_as : Columns → Columns
  means_as g = mix (columns (form_shown x g)) g init

  pub alike : (f g : Columns) → On (columns (form_shown x f)) f g → Alike x f g
  alike f g h = alike_at [] x p f g (on_none f g) h

  pub means_same : (f g : Columns) → On (columns (form_shown x f)) f g → means_as f ≡ means_as g
  means_same f g h = (λ i j. go j (has j (columns (form_shown x f))) refl i) ∙ ap (λ (cs : List Cell). mix (columns cs) g init) (alike f g h).cells
    where
      go : (j : ℕ) (b : Bool) → has j (columns (form_shown x f)) ≡ b → pick b (f j) (init j) ≡ pick b (g j) (init j)
      go j true q = h j q
      go j false q = refl

  -- columns that agree with a row that fits mean that row
  pub means_again : (c : List ℕ × M) → RowFits c → (g : Columns) → On (columns (form_shown x (of c.0))) (of c.0) g → row n (means_as g) ≡ c.0
  unfolding RowFits
  means_again c f g h = ap (row n) (sym (means_same (of c.0) g h) ∙ mix_all (columns (form_shown x (of c.0))) f.1) ∙ row_of n c.0 f.0

  -- a row whose counts are not 0 and whose actions have no fault
  pub row_spells : (g : Columns) (q : Breaks x) (c : M) → Fit x g → clean (woven x g q) ≡ true → Holes x (means_as g) q c → Spells rows_codec (woven x g q) (row n (means_as g), c)
  unfolding rows_codec RowFits
  row_spells g q c f e h =
      let ks = columns (form_shown x g) in
      let o : On ks g (means_as g) = λ j e. sym (mix_in ks g init j e) in
      let a = alike g (means_as g) o in
      let f' : every sound (means_as g) (form_shown x (means_as g)) ≡ true =
      subst (λ (cs : List Cell). every sound (means_as g) cs ≡ true) a.cells (sym (every_same sound (form_shown x g) o) ∙ f.0) in
      let y = spelt x (means_as g) q c (f', ap clean (sym a.matched) ∙ f.1) (ap clean (sym (a.acts q)) ∙ e) h in
      let r : Off (columns (form_shown x (means_as g))) init (means_as g) =
      subst (λ (cs : List Cell). Off (columns cs) init (means_as g)) a.cells (λ j e. sym (mix_out ks g init j e)) in
      let w = of_row n (means_as g) (zero_on (means_as g) (λ j e. r j (form_shown_in x (means_as g) j e))) in
      let F : Columns → Type 0 = λ h. Off (columns (form_shown x h)) init h × FormFits x h c in
      record {
        fits = (each_length (means_as g) 0 n, (subst F (sym w) (r, y.fits)).0, (subst F (sym w) (r, y.fits)).1);
        sound = ap (λ (h : Columns). clean (form_acts x h c)) w ∙ y.sound;
        same = ap bytes (a.acts q) ∙ y.same ∙ sym (ap (λ (h : Columns). bytes (form_acts x h c)) w);
      }

  -- a row that was read, also where it stands with other columns besides
  pub row_ready : (c : List ℕ × M) → RowFits c → clean (rows_acts c) ≡ true → (g : Columns) → On (columns (form_shown x (of c.0))) (of c.0) g → Faultless x g
  unfolding RowFits
  row_ready c f e g h =
      let y = faultless_at [] x p (of c.0) c.1 f.2 e in
      let a = alike (of c.0) g h in
      record {
        fit = (subst (λ (cs : List Cell). every sound g cs ≡ true) a.cells (sym (every_same sound (form_shown x (of c.0)) h) ∙ y.fit.0), ap clean (sym a.matched) ∙ y.fit.1);
        small = λ j q. let q' = subst (λ (cs : List Cell). has j (columns cs) ≡ true) (sym a.cells) q in rw (← h j q') (y.small j q');
        sound = λ q k. ap clean (sym (a.acts q)) ∙ y.sound q k;
      }

  pub row_columns : ((j : ℕ) → init j < 65536) → (c : List ℕ × M) → RowFits c → clean (rows_acts c) ≡ true → (j : ℕ) → get_or c.0 j 0 < 65536
  unfolding RowFits
  row_columns h c f e j = go (has j (columns (form_shown x (of c.0)))) refl
    where
      go : (b : Bool) → has j (columns (form_shown x (of c.0))) ≡ b → of c.0 j < 65536
      go true q = (faultless_at [] x p (of c.0) c.1 f.2 e).small j q
      go false q = rw (← f.1 j q) (h j)

  pub row_bytes_lem : form_in_bytes x ≡ true → ((j : ℕ) → init j < 256) → (c : List ℕ × M) → RowFits c → clean (rows_acts c) ≡ true → (j : ℕ) → get_or c.0 j 0 < 256
  unfolding RowFits
  row_bytes_lem o h c f e j = go (has j (columns (form_shown x (of c.0)))) refl
    where
      go : (b : Bool) → has j (columns (form_shown x (of c.0))) ≡ b → of c.0 j < 256
      go true q = bytes_at [] x p o (of c.0) c.1 f.2 e j q
      go false q = rw (← f.1 j q) (h j)
