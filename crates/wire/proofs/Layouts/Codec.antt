-- Formats built from lawful pieces. A format says what is read (payloads by their places), what that means (payloads by their bytes) and the actions that write
-- the meaning; its laws tie the three together. A byte of fields, a run, one after the other, a list and an optional part are lawful, and so is what is built of them.
use Prim.Native.Nat.{ℕ, zero, suc, ◌+◌, ◌^◌, ◌<◌}
use mathlib.Core.List.{List, [], ◌∷◌, ◌++◌, append-nil, flat_map, flatten, map}
use mathlib.Core.Bool.{Bool, true, false}
use mathlib.Core.Option.{Option, none, some}
use mathlib.Core.Path.{◌≡◌, refl, sym, ap, ◌∙◌, subst}
use native.Mathlib.Omega.{arith}
use lib.ListN.{length, length-append, replicate, length-replicate}
use lib.Seq.{slice, drop_at}
use Rattle.wire.specs.Lists.{Every, all_nil, all_cons, each, Byte}
use Rattle.wire.specs.Bits.{part, Field, field, fit, join, total, split, widths}
use Rattle.wire.specs.Prog.{Prog, ret, done, run, ◌>>=◌, u8, pass, many, span, passed}
use Rattle.wire.specs.declared.rows.Payload.{Payload}
use Rattle.wire.specs.Act.{Act, byte, copy, rows}
use Rattle.wire.specs.Pen.{clean, bytes}
use Rattle.wire.proofs.Fields.{joined_below, split_fits, join_split, split_join}
use Rattle.wire.proofs.Lists.{every_head, every_left, every_right}
use Rattle.wire.proofs.Reading.Runs.{run_split, run_ret}
use Rattle.wire.proofs.Reading.Blind.{passed_bind, passed_map, passed_u8, passed_pass}
use Rattle.wire.proofs.Reading.Takes.{Takes, nothing, takes_bind, takes_split, takes_ret, takes_map, map_takes, takes_u8, u8_takes, takes_pass, pass_takes, Here, here_left, here_right, here_is}
use Rattle.wire.proofs.Writing.Acts.{and_both, both_and, Makes, makes_both, clean_append, clean_both, bytes_append}

-- the program, begun at `at`, takes bs, and what it answers means c in every body that has bs there
pub record Read {A C : Type 0} (p : Prog A) (means : List ℕ → A → C) (at : ℕ) (c : C) (bs : List ℕ) : Type 0 where
  pub value : A
  pub takes : Takes p at value bs
  pub meant : (s : List ℕ) → Here s at bs → means s value ≡ c

-- c fits, and its actions make bs
pub record Wrote {C : Type 0} (Fits : C → Type 0) (acts : C → List Act) (c : C) (bs : List ℕ) : Type 0 where
  pub fits : Fits c
  pub makes : Makes (acts c) bs

-- Fits is what the actions of a meaning leave open: a length or a count that another part holds
pub record Codec (A C : Type 0) : Type 1 where
  pub read : Prog A
  pub means : List ℕ → A → C
  pub acts : C → List Act
  pub Fits : C → Type 0
  -- what is written is read, and what is read is written
  pub forth : (c : C) → Fits c → clean (acts c) ≡ true → (at : ℕ) → Read read means at c (bytes (acts c))
  pub back : (s : List ℕ) (at : ℕ) (a : A) (bs : List ℕ) → Takes read at a bs → Every Byte bs → Here s at bs → Wrote Fits acts (means s a) bs
  -- its payloads are what the program passes over
  pub spans : A → List Payload
  pub skipped : (s : List ℕ) (at : ℕ) (a : A) (k : ℕ) → run read s at ≡ done a k → passed read s at ≡ spans a

-- some body that has the bytes there
some_body : (at : ℕ) (bs : List ℕ) → (s : List ℕ) × Here s at bs
some_body at bs =
    let z : List ℕ = replicate at 0 in
    let l : length z ≡ at = length-replicate at 0 in
    (z ++ bs, record { begun = omega (arith, length-append z bs); rest = []; holds = drop_at z bs at l ∙ sym (append-nil bs) })

-- ---- one byte, taken apart into fields of widths that fill it

module _ {A : Type 0} (ws : List ℕ) (full : total ws ≡ 8) (of : ℕ → A) (fields : A → List Field) (shape : (x : A) → widths (fields x) ≡ ws)
    (taken : (b : ℕ) → b < 256 → fields (of b) ≡ split ws b) (found : (b : ℕ) (x : A) → b < 256 → fields x ≡ split ws b → of b ≡ x) where
  abbrev byte_acts : A → List Act
  byte_acts x = byte (fields x) ∷ []

  pack : (x : A) → fit (fields x) ≡ true → of (join 0 (fields x)) ≡ x
  pack x e =
      let h : join 0 (fields x) < 2 ^ total ws = rw (shape x) at (joined_below (fields x) e) in
      found (join 0 (fields x)) x (rw full at h) (sym (rw (shape x) at (split_join (fields x) e)))

  pub byte_forth : (x : A) → clean (byte_acts x) ≡ true → (at : ℕ) → Read (u8 >>= λ b. ret (of b)) (λ s x. x) at x (bytes (byte_acts x))
  unfolding clean bytes
  byte_forth x e at = record {
    value = x;
    takes = rw (pack x (and_both (fit (fields x)) true e).0) at (takes_map of {at = at} (takes_u8 (join 0 (fields x))));
    meant = λ s h. refl;
  }

  byte_made : (b : ℕ) {bs : List ℕ} → bs ≡ b ∷ [] → b < 256 → Wrote (λ (x : A). Unit {0}) byte_acts (of b) bs
  unfolding clean bytes
  byte_made b q h =
      let e = taken b h in
      let f : fit (fields (of b)) ≡ true = rw e (split_fits ws b) in
      let j : join 0 (fields (of b)) ≡ b = rw e (join_split ws b (rw full h)) in
      record { fits = tt; makes = record { sound = both_and f refl; is = q ∙ ap (λ (n : ℕ). n ∷ []) (sym j) } }

  pub byte_back : (s : List ℕ) (at : ℕ) (x : A) (bs : List ℕ) → Takes (u8 >>= λ b. ret (of b)) at x bs → Every Byte bs → Here s at bs → Wrote (λ (x : A). Unit {0}) byte_acts x bs
  byte_back s at x bs t h i =
      let u = map_takes u8 of t in
      let q = u8_takes u.2 in
      rw u.1 at (byte_made u.0 q (every_head Byte (rw q at h)))

  unfoldable pub one_byte : Codec A A
  one_byte = record {
    read = u8 >>= λ b. ret (of b);
    means = λ s x. x;
    acts = byte_acts;
    Fits = λ x. Unit {0};
    forth = λ x f e at. byte_forth x e at;
    back = byte_back;
    spans = λ x. [];
    skipped = λ s at x k e. let u = run_split u8 (λ b. ret (of b)) s at x k e in passed_map u8 of s at u.first ∙ passed_u8 s at;
  }

-- a byte that is one field
pub whole_byte : (b : ℕ) → b < 256 → b ≡ part 0 8 b
whole_byte b h = omega arith

unfoldable pub number : Codec ℕ ℕ
unfolding split total widths
number =
    one_byte (8 ∷ []) refl (λ b. b) (λ x. field 8 x ∷ []) (λ x. refl) (λ b h. ap (λ (n : ℕ). field 8 n ∷ []) (whole_byte b h))
    (λ b x h e. let q : x ≡ part 0 8 b = cc e in whole_byte b h ∙ sym q)

-- ---- a run of n bytes, by its place

pub run_forth : (n : ℕ) (x : List ℕ) → length x ≡ n → (at : ℕ) → Read (pass n) (λ s p. slice p (p + n) s) at x (bytes (copy x ∷ []))
unfolding bytes
run_forth n x f at = rw (append-nil x) (record { value = at; takes = rw f at (takes_pass {at = at} x); meant = λ s h. rw f at (here_is h) })

pub run_back : (n : ℕ) (s : List ℕ) (at p : ℕ) (bs : List ℕ) → Takes (pass n) at p bs → Here s at bs
    → Wrote (λ (x : List ℕ). length x ≡ n) (λ x. copy x ∷ []) (slice p (p + n) s) bs
unfolding clean bytes
run_back n s at p bs t i =
    let u = pass_takes t in
    let q : slice p (p + n) s ≡ bs = rw u.0 (rw u.1 at (here_is i)) in
    rw q (record { fits = u.1; makes = record { sound = refl; is = sym (append-nil bs) } })

unfoldable pub payload : ℕ → Codec ℕ (List ℕ)
payload n = record {
  read = pass n;
  means = λ s p. slice p (p + n) s;
  acts = λ x. copy x ∷ [];
  Fits = λ x. length x ≡ n;
  forth = λ x f e at. run_forth n x f at;
  back = λ s at p bs t h i. run_back n s at p bs t i;
  spans = λ p. span p n ∷ [];
  skipped = λ s at p k e. passed_pass n s at p k e;
}

-- ---- n bytes, handed over as one read and written one by one

-- ---- one after the other; what follows is steered by a key that the first part has

module _ {A B C D K : Type 0} (m : Codec A C) (key : A → K) (keyed : C → K) (same : (s : List ℕ) (a : A) → keyed (m.means s a) ≡ key a) (next : K → Codec B D) where
  unfoldable pub then_read : Prog (A × B)
  then_read = do
    x ← m.read
    y ← (next (key x)).read
    ret (x, y)

  unfoldable pub then_means : List ℕ → A × B → C × D
  then_means s v = (m.means s v.0, (next (key v.0)).means s v.1)

  unfoldable pub then_acts : C × D → List Act
  then_acts c = m.acts c.0 ++ (next (keyed c.0)).acts c.1

  unfoldable pub ThenFits : C × D → Type 0
  ThenFits c = m.Fits c.0 × (next (keyed c.0)).Fits c.1

  pub then_forth : (c : C × D) → ThenFits c → clean (then_acts c) ≡ true → (at : ℕ) → Read then_read then_means at c (bytes (then_acts c))
  unfolding then_read then_means then_acts ThenFits
  then_forth c f e at =
      let g = clean_both (m.acts c.0) ((next (keyed c.0)).acts c.1) e in
      let r = m.forth c.0 f.0 g.0 at in
      let b = some_body at (bytes (m.acts c.0)) in
      let q : keyed c.0 ≡ key r.value = ap keyed (sym (r.meant b.0 b.1)) ∙ same b.0 r.value in
      let t = (next (key r.value)).forth c.1 (rw q at f.1) (rw q at g.1) (at + length (bytes (m.acts c.0))) in
      let h : bytes ((next (key r.value)).acts c.1) ≡ bytes ((next (keyed c.0)).acts c.1) = ap (λ (k : K). bytes ((next k).acts c.1)) (sym q) in
      rw (bytes_append (m.acts c.0) ((next (keyed c.0)).acts c.1)) (record {
        value = (r.value, t.value);
        takes = takes_bind _ r.takes (takes_map (λ y. (r.value, y)) (rw h at t.takes));
        meant = λ s i j. (r.meant s (here_left _ _ i) j, t.meant s (rw (sym h) at (here_right (bytes (m.acts c.0)) _ i)) j);
      })

  then_wrote : (s : List ℕ) (x : A) (y : B) (bs front back : List ℕ) → bs ≡ front ++ back → Wrote m.Fits m.acts (m.means s x) front
      → Wrote (next (key x)).Fits (next (key x)).acts ((next (key x)).means s y) back → Wrote ThenFits then_acts (then_means s (x, y)) bs
  unfolding then_means then_acts ThenFits
  then_wrote s x y bs front back j a b = rw j (record { fits = (a.fits, rw (same s x) b.fits); makes = rw (same s x) (makes_both a.makes b.makes) })

  pub then_back : (s : List ℕ) (at : ℕ) (v : A × B) (bs : List ℕ) → Takes then_read at v bs → Every Byte bs → Here s at bs → Wrote ThenFits then_acts (then_means s v) bs
  unfolding then_read
  then_back s at v bs t h i =
      let u = takes_split m.read _ t in
      let w = map_takes (next (key u.value)).read (λ y. (u.value, y)) u.second in
      let h' : Every Byte (u.front ++ u.back) = rw u.joined at h in
      let i' : Here s at (u.front ++ u.back) = rw u.joined at i in
      let x = m.back s at u.value u.front u.first (every_left Byte _ _ h') (here_left _ _ i') in
      let y = (next (key u.value)).back s (at + length u.front) w.0 u.back w.2 (every_right Byte u.front _ h') (here_right u.front _ i') in
      rw w.1 at (then_wrote s u.value w.0 bs u.front u.back u.joined x y)

  unfoldable pub then_spans : A × B → List Payload
  then_spans v = m.spans v.0 ++ (next (key v.0)).spans v.1

  pub then_skipped : (s : List ℕ) (at : ℕ) (v : A × B) (k : ℕ) → run then_read s at ≡ done v k → passed then_read s at ≡ then_spans v
  unfolding then_read then_spans
  then_skipped s at v k e =
      let u = run_split m.read _ s at v k e in
      let w = run_split (next (key u.value)).read (λ y. ret (u.value, y)) s u.middle v k u.second in
      let q : (u.value, w.value) ≡ v = (run_ret _ _ _ w.second).0 in
      passed_bind m.read _ s at u.first ∙ rw (passed_map {B = A × B} (next (key u.value)).read (λ y. (u.value, y)) s u.middle w.first)
      (rw (m.skipped s at u.value u.middle u.first, (next (key u.value)).skipped s u.middle w.value w.middle w.first) (ap then_spans q))

  unfoldable pub steer : Codec (A × B) (C × D)
  steer = record { read = then_read; means = then_means; acts = then_acts; Fits = ThenFits; forth = then_forth; back = then_back; spans = then_spans; skipped = then_skipped }

-- ---- n of one kind

module _ {A C : Type 0} (m : Codec A C) where
  unfoldable pub Counted : ℕ → List C → Type 0
  Counted n cs = (length cs ≡ n) × Every m.Fits cs

  abbrev pub form_list_acts : List C → List Act
  form_list_acts cs = flat_map m.acts cs

  pub list_forth : (cs : List C) → Every m.Fits cs → clean (form_list_acts cs) ≡ true → (at : ℕ)
      → Read (many (length cs) m.read) (λ s l. map (m.means s) l) at cs (bytes (form_list_acts cs))
  unfolding many flat_map bytes
  list_forth [] f e at = record { value = []; takes = nothing; meant = λ s h. refl }
  list_forth (c ∷ cs) (all_cons h f) e at =
      let g = clean_both (m.acts c) (form_list_acts cs) e in
      let r = m.forth c h g.0 at in
      let t = list_forth cs f g.1 (at + length (bytes (m.acts c))) in
      rw (bytes_append (m.acts c) (form_list_acts cs)) (record {
        value = r.value ∷ t.value;
        takes = takes_bind _ r.takes (takes_map (λ l. r.value ∷ l) t.takes);
        meant = λ s i j. r.meant s (here_left _ _ i) j ∷ t.meant s (here_right (bytes (m.acts c)) _ i) j;
      })

  list_nil : (s : List ℕ) {bs : List ℕ} → bs ≡ [] → Wrote (Counted 0) form_list_acts (map (m.means s) []) bs
  unfolding Counted flat_map clean bytes
  list_nil s e = record { fits = (refl, all_nil); makes = record { sound = refl; is = e } }

  list_cons : (n : ℕ) (s : List ℕ) (x : A) (l : List A) (bs front back : List ℕ) → bs ≡ front ++ back → Wrote m.Fits m.acts (m.means s x) front
      → Wrote (Counted n) form_list_acts (map (m.means s) l) back → Wrote (Counted (suc n)) form_list_acts (map (m.means s) (x ∷ l)) bs
  unfolding Counted flat_map
  list_cons n s x l bs front back j a b = rw j (record { fits = (ap suc b.fits.0, all_cons a.fits b.fits.1); makes = makes_both a.makes b.makes })

  pub list_back : (n : ℕ) (s : List ℕ) (at : ℕ) (l : List A) (bs : List ℕ) → Takes (many n m.read) at l bs → Every Byte bs → Here s at bs
      → Wrote (Counted n) form_list_acts (map (m.means s) l) bs
  unfolding many
  list_back zero s at l bs t h i = subst (λ l. Wrote (Counted 0) form_list_acts (map (m.means s) l) bs) (takes_ret t).0 (list_nil s (takes_ret t).1)
  list_back (suc n) s at l bs t h i =
      let u = takes_split m.read _ t in
      let w = map_takes (many n m.read) (λ l. u.value ∷ l) u.second in
      let h' : Every Byte (u.front ++ u.back) = rw u.joined at h in
      let i' : Here s at (u.front ++ u.back) = rw u.joined at i in
      let x = m.back s at u.value u.front u.first (every_left Byte _ _ h') (here_left _ _ i') in
      let y = list_back n s (at + length u.front) w.0 u.back w.2 (every_right Byte u.front _ h') (here_right u.front _ i') in
      subst (λ l. Wrote (Counted (suc n)) form_list_acts (map (m.means s) l) bs) w.1 (list_cons n s u.value w.0 bs u.front u.back u.joined x y)

  pub list_skipped : (n : ℕ) (s : List ℕ) (at : ℕ) (l : List A) (k : ℕ) → run (many n m.read) s at ≡ done l k → passed (many n m.read) s at ≡ flat_map m.spans l
  unfolding many flat_map passed
  list_skipped zero s at l k e = ap (flat_map m.spans) (run_ret _ _ _ e).0
  list_skipped (suc n) s at l k e =
      let u = run_split m.read _ s at l k e in
      let w = run_split (many n m.read) (λ l. ret (u.value ∷ l)) s u.middle l k u.second in
      let q : u.value ∷ w.value ≡ l = (run_ret _ _ _ w.second).0 in
      passed_bind m.read _ s at u.first ∙ rw (passed_map (many n m.read) (λ l. u.value ∷ l) s u.middle w.first)
      (rw (m.skipped s at u.value u.middle u.first, list_skipped n s u.middle w.value w.middle w.first) (ap (flat_map m.spans) q))

  unfoldable pub list : ℕ → Codec (List A) (List C)
  unfolding Counted
  list n = record {
    read = many n m.read;
    means = λ s l. map (m.means s) l;
    acts = form_list_acts;
    Fits = Counted n;
    forth = λ cs f e at. rw f.0 at (list_forth cs f.1 e at);
    back = list_back n;
    spans = flat_map m.spans;
    skipped = list_skipped n;
  }

-- ---- actions that meet no fault, and are then those of a meaning

pub record Spells {A C : Type 0} (m : Codec A C) (q : List Act) (c : C) : Type 0 where
  pub fits : m.Fits c
  pub sound : clean (m.acts c) ≡ true
  pub same : bytes q ≡ bytes (m.acts c)

module _ {A C : Type 0} (m : Codec A C) where
  -- rows one by one: f are the actions of a row, v what it means
  pub spells_rows : (f : ℕ → List Act) (v : ℕ → C) → ((i : ℕ) → clean (f i) ≡ true → Spells m (f i) (v i)) → (i k : ℕ) → clean (rows f i k) ≡ true
      → Spells (list m k) (rows f i k) (each v i k)
  unfolding list Counted rows each flatten flat_map
  spells_rows f v h i zero e = record { fits = (refl, all_nil); sound = e; same = refl }
  spells_rows f v h i (suc k) e =
      let g = clean_both (f i) (rows f (i + 1) k) e in
      let a = h i g.0 in
      let b = spells_rows f v h (i + 1) k g.1 in
      record {
        fits = (ap suc b.fits.0, all_cons a.fits b.fits.1);
        sound = clean_append (m.acts (v i)) (flat_map m.acts (each v (i + 1) k)) ∙ both_and a.sound b.sound;
        same = bytes_append (f i) (rows f (i + 1) k) ∙ (λ j. a.same j ++ b.same j) ∙ sym (bytes_append (m.acts (v i)) (flat_map m.acts (each v (i + 1) k)));
      }

-- ---- a part that a flag steers

module _ {A C : Type 0} (m : Codec A C) where
  unfoldable pub opt_read : Bool → Prog (Option A)
  opt_read false = ret none
  opt_read true = m.read >>= λ x. ret (some x)

  unfoldable pub opt_means : List ℕ → Option A → Option C
  opt_means s none = none
  opt_means s (some x) = some (m.means s x)

  unfoldable pub opt_acts : Option C → List Act
  opt_acts none = []
  opt_acts (some c) = m.acts c

  unfoldable pub OptFits : Bool → Option C → Type 0
  OptFits false none = Unit {0}
  OptFits true none = ⊥
  OptFits false (some c) = ⊥
  OptFits true (some c) = m.Fits c

  pub opt_forth : (b : Bool) (c : Option C) → OptFits b c → clean (opt_acts c) ≡ true → (at : ℕ) → Read (opt_read b) opt_means at c (bytes (opt_acts c))
  unfolding opt_read opt_means opt_acts OptFits bytes
  opt_forth false none f e at = record { value = none; takes = nothing; meant = λ s h. refl }
  opt_forth true none f e at = absurd f
  opt_forth false (some c) f e at = absurd f
  opt_forth true (some c) f e at =
      let r = m.forth c f e at in
      record { value = some r.value; takes = takes_map some r.takes; meant = λ s h j. some (r.meant s h j) }

  opt_none : (s : List ℕ) {bs : List ℕ} → bs ≡ [] → Wrote (OptFits false) opt_acts (opt_means s none) bs
  unfolding opt_means opt_acts OptFits clean bytes
  opt_none s e = record { fits = tt; makes = record { sound = refl; is = e } }

  opt_some : (s : List ℕ) (x : A) {bs : List ℕ} → Wrote m.Fits m.acts (m.means s x) bs → Wrote (OptFits true) opt_acts (opt_means s (some x)) bs
  unfolding opt_means opt_acts OptFits
  opt_some s x a = record { fits = a.fits; makes = a.makes }

  pub opt_back : (b : Bool) (s : List ℕ) (at : ℕ) (x : Option A) (bs : List ℕ) → Takes (opt_read b) at x bs → Every Byte bs → Here s at bs
      → Wrote (OptFits b) opt_acts (opt_means s x) bs
  unfolding opt_read
  opt_back false s at x bs t h i = rw (takes_ret t).0 at (opt_none s (takes_ret t).1)
  opt_back true s at x bs t h i =
      let u = map_takes m.read some t in
      rw u.1 at (opt_some s u.0 (m.back s at u.0 bs u.2 h i))

  unfoldable pub opt_spans : Option A → List Payload
  opt_spans none = []
  opt_spans (some x) = m.spans x

  pub opt_skipped : (b : Bool) (s : List ℕ) (at : ℕ) (x : Option A) (k : ℕ) → run (opt_read b) s at ≡ done x k → passed (opt_read b) s at ≡ opt_spans x
  unfolding opt_read opt_spans passed
  opt_skipped false s at x k e = ap opt_spans (run_ret _ _ _ e).0
  opt_skipped true s at x k e =
      let u = run_split m.read (λ x. ret (some x)) s at x k e in
      passed_map m.read some s at u.first ∙ m.skipped s at u.value u.middle u.first ∙ ap opt_spans (run_ret _ _ _ u.second).0

  unfoldable pub opt : Bool → Codec (Option A) (Option C)
  opt b = record { read = opt_read b; means = opt_means; acts = opt_acts; Fits = OptFits b; forth = opt_forth b; back = opt_back b; spans = opt_spans; skipped = opt_skipped b }

-- ---- the same format under another type of value and of meaning, read by an equal program; a meaning fits if it is one that is read

module _ {A B C D : Type 0} (m : Codec A C) (f : A → B) (program : Prog B) (reads : m.read >>= (λ x. ret (f x)) ≡ program) (places : B → List Payload) (placed : (a : A) → m.spans a ≡ places (f a))
    (mean : List ℕ → B → D) (to : C → D) (from : D → C) (same : (s : List ℕ) (a : A) → mean s (f a) ≡ to (m.means s a))
    (from-to : (c : C) → m.Fits c → clean (m.acts c) ≡ true → from (to c) ≡ c) where
  unfoldable pub AsFits : D → Type 0
  AsFits d = m.Fits (from d) × (to (from d) ≡ d)

  pub as_forth : (d : D) → AsFits d → clean (m.acts (from d)) ≡ true → (at : ℕ) → Read program mean at d (bytes (m.acts (from d)))
  unfolding AsFits
  as_forth d g e at =
      let r = m.forth (from d) g.0 e at in
      rw (← reads) (record { value = f r.value; takes = takes_map f r.takes; meant = λ s h. same s r.value ∙ ap to (r.meant s h) ∙ g.1 })

  pub as_back : (s : List ℕ) (at : ℕ) (b : B) (bs : List ℕ) → Takes program at b bs → Every Byte bs → Here s at bs → Wrote AsFits (λ d. m.acts (from d)) (mean s b) bs
  unfolding AsFits
  as_back s at b bs t h i =
      let u = map_takes m.read f (rw (← reads) at t) in
      let x = m.back s at u.0 bs u.2 h i in
      let q : from (mean s (f u.0)) ≡ m.means s u.0 = ap from (same s u.0) ∙ from-to (m.means s u.0) x.fits x.makes.sound in
      let k : Wrote AsFits (λ d. m.acts (from d)) (mean s (f u.0)) bs = record { fits = (rw q x.fits, ap to q ∙ sym (same s u.0)); makes = rw q x.makes } in
      rw u.1 at k

  pub as_skipped : (s : List ℕ) (at : ℕ) (b : B) (k : ℕ) → run program s at ≡ done b k → passed program s at ≡ places b
  as_skipped s at b k e =
      let u = run_split m.read (λ x. ret (f x)) s at b k (rw (← reads) at e) in
      rw (← reads) (passed_map m.read f s at u.first ∙ m.skipped s at u.value u.middle u.first ∙ placed u.value ∙ ap places (run_ret _ _ _ u.second).0)

  unfoldable pub seen_as : Codec B D
  seen_as = record { read = program; means = mean; acts = λ d. m.acts (from d); Fits = AsFits; forth = as_forth; back = as_back; spans = places; skipped = as_skipped }

-- ---- a count byte and so many bytes, by their place: what a payload with its length is

unfoldable pub listed : Codec (ℕ × ℕ) (ℕ × List ℕ)
unfolding number one_byte
listed = steer number (λ n. n) (λ n. n) (λ s n. refl) payload

unfoldable pub prefixed_read : Prog Payload
prefixed_read = do
  n ← u8
  p ← pass n
  ret (span p n)

pub prefixed_same : listed.read >>= (λ v. ret (span v.1 v.0)) ≡ prefixed_read
unfolding prefixed_read listed steer then_read number one_byte payload pass u8 ◌>>=◌
prefixed_same = refl

unfoldable pub prefixed : Codec Payload (List ℕ)
unfolding listed steer then_means then_spans ThenFits number one_byte payload
prefixed =
    seen_as listed (λ v. span v.1 v.0) prefixed_read prefixed_same (λ p. p ∷ []) (λ v. refl) (λ s p. slice p.offset (p.offset + p.length) s) (λ c. c.1)
    (λ l. (length l, l)) (λ s v. refl) (λ c f e i. (f.1 i, c.1))

pub prefixed_acts : (l : List ℕ) → prefixed.acts l ≡ byte (field 8 (length l) ∷ []) ∷ copy l ∷ []
unfolding prefixed seen_as listed steer then_acts number one_byte payload
prefixed_acts l = refl

pub prefixed_fits : (l : List ℕ) → prefixed.Fits l
unfolding prefixed seen_as AsFits listed steer ThenFits number one_byte payload
prefixed_fits l = ((tt, refl), refl)
