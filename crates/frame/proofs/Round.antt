-- Condition 2, of every kind: what is read is written as the same bytes, what is written is read back equal in meaning, and no two bodies have the same record, payload bytes and trailing bytes.
use Rattle.std.specs.Prelude.{Ok, Err}
use Prim.Native.Nat.{ℕ, suc, ◌+◌, ◌-◌, ◌≤◌, ◌<◌}
use mathlib.Core.List.{List, [], ◌∷◌, ◌++◌, append-nil, flatten}
use mathlib.Core.Bool.{true}
use mathlib.Core.Option.{Option, none, some}
use mathlib.Core.Path.{◌≡◌, refl, sym, ap, ◌∙◌}
use mathlib.Core.Logic.{◌↔◌}
use native.Mathlib.Omega.{arith}
use native.Mathlib.Nat.{zero-add}
use lib.ListN.{length, take, drop, length-append, take-append-drop}
use lib.Seq.{slice, length-take-le, take-length, drop-append_seam}
use lib.Dec.{leb}
use borrow.Author.Tests.{le-leb}
use Rattle.wire.specs.Lists.{Every, all_nil, all_cons, Byte, Column}
use Rattle.wire.specs.Prog.{done, run, span, Within, passed}
use Rattle.wire.specs.Act.{image}
use Rattle.wire.specs.Pen.{clean, bytes}
use Rattle.wire.proofs.Lists.{every_left, every_both, every_drop}
use Rattle.wire.proofs.Reading.Runs.{extent}
use Rattle.wire.proofs.Reading.Blind.{passed_within}
use Rattle.wire.proofs.Reading.Takes.{Takes, run_takes, takes_run, here_append}
use Rattle.wire.proofs.Writing.Acts.{and_both, both_and, clean_append, clean_both, bytes_append, settles, settled}
use Rattle.wire.proofs.Layouts.Codec.{Wrote}
use Rattle.frame.specs.declared.Unwritten.TheVariants as W
use Rattle.frame.specs.Numbers.{Answer, accepted, number}
use Rattle.frame.specs.Kind.{Kind, Lent, Rows, Held}
use Rattle.frame.specs.Entry.{leaves, Sound, Need, needs, first_table, other_tables, lacking, filled, tail, judging, reading, puts, trail, all_acts, writing}
use Rattle.frame.specs.Claims.{Image, Meaning, meaning, Lendable, Writable, Room, Round}
use Rattle.frame.proofs.Judged.{answers, judged, ran_well, View, is_read, lacks, is_short, is_long, view, reads_so, lacks_so, Was, was}
use Rattle.frame.proofs.Lawful.{top_of, Taken, Lawful}
use Rattle.frame.proofs.Output.{put_done}

-- the trailing run, found again in the body
run_found : (bs rest : List ℕ) → slice (length bs) (length bs + length rest) (bs ++ rest) ≡ rest
run_found bs rest = rw (← length-append bs rest, take-length (bs ++ rest)) (drop-append_seam bs rest)

the_tail : (bs rest : List ℕ) → tail (length bs) (bs ++ rest) ≡ span (length bs) (length rest)
the_tail bs rest = let e : length (bs ++ rest) - length bs ≡ length rest = omega (arith, length-append bs rest) in ap (λ (n : ℕ). span (length bs) n) e

-- ---- tables of columns stay tables of columns

every_flatten : (rows : List (List ℕ)) → Every (Every Column) rows → Every Column (flatten rows)
unfolding flatten
every_flatten [] h = all_nil
every_flatten (r ∷ rs) (all_cons h k) = every_both Column h (every_flatten rs k)

filled_columns : (rs : List Rows) (lent : Lent) → Every (λ (r : Rows). Every (Every Column) r.rows) rs → Every (Every Column) lent → length lent ≡ length rs
    → Every (Every Column) (filled rs lent)
unfolding filled first_table other_tables
filled_columns [] lent h k e = k
filled_columns (r ∷ rs) [] h k e = absurd (omega arith)
filled_columns (r ∷ rs) (t ∷ ts) (all_cons h hs) (all_cons k ks) e =
    all_cons (every_both Column (every_flatten r.rows h) (every_drop Column (length (flatten r.rows)) t k)) (filled_columns rs ts hs ks (omega arith))

filled_count : (rs : List Rows) (lent : Lent) → length lent ≡ length rs → length (filled rs lent) ≡ length lent
unfolding filled other_tables
filled_count [] lent e = refl
filled_count (r ∷ rs) [] e = absurd (omega arith)
filled_count (r ∷ rs) (t ∷ ts) e = ap suc (filled_count rs ts (omega arith))

module _ {Tree Top Value : Type 0} (K : Kind Tree Top Value) where
  -- ---- the whole of writing

  record Wholly (top : Top) (lent : Lent) (store b : List ℕ) : Type 0 where
    sound : clean (K.acts top lent store) ≡ true
    joins : b ≡ bytes (K.acts top lent store) ++ trail K top store

  wholly : (top : Top) (lent : Lent) (store b : List ℕ) → Image K top lent store b → Wholly top lent store b
  unfolding all_acts clean bytes
  wholly top lent store b e =
      let m = settled (all_acts K top lent store) 0 e in
      let c = (and_both (leb ((K.trailing top).offset + (K.trailing top).length) (length store)) _ m.sound).1 in
      record {
        sound = (clean_both (K.acts top lent store) _ c).0;
        joins = m.is ∙ bytes_append (K.acts top lent store) _ ∙ ap (λ (l : List ℕ). bytes (K.acts top lent store) ++ l) (append-nil (trail K top store));
      }

  whole_image : (top : Top) (lent : Lent) (store b : List ℕ) → (K.trailing top).offset + (K.trailing top).length ≤ length store → Wholly top lent store b → Image K top lent store b
  unfolding all_acts clean bytes
  whole_image top lent store b h w =
      settles (all_acts K top lent store) 0 (both_and (le-leb _ _ h) (clean_append (K.acts top lent store) _ ∙ both_and w.sound refl))
      ∙ ap image (bytes_append (K.acts top lent store) _ ∙ ap (λ (l : List ℕ). bytes (K.acts top lent store) ++ l) (append-nil (trail K top store)) ∙ sym w.joins)

  -- ---- a body in two parts

  record Parted (body : List ℕ) (t : Tree) (k : ℕ) : Type 0 where
    front : List ℕ
    rest : List ℕ
    joins : body ≡ front ++ rest
    long : k ≡ length front
    takes : Takes K.program 0 t front

  parted : (body : List ℕ) (t : Tree) (k : ℕ) → run K.program body 0 ≡ done t k → Parted body t k
  parted body t k e =
      let x = extent K.program body 0 e (omega arith) in
      record { front = take k body; rest = drop k body; joins = sym (take-append-drop k body); long = sym (length-take-le k body x.1); takes = run_takes K.program body 0 e (omega arith) }

  roomy : (body : List ℕ) (lent : Lent) (s : Sound Tree) → judging K body ≡ accepted s → Room K body lent → lacking (needs (K.tables s.tree)) lent ≡ none
  roomy body lent s j never = go (lacking (needs (K.tables s.tree)) lent) refl
    where
      go : (o : Option Need) → lacking (needs (K.tables s.tree)) lent ≡ o → lacking (needs (K.tables s.tree)) lent ≡ none
      go none h = h
      go (some n) h = absurd (never _ _ (answers (lacks_so K body lent s n j h)))

  module _ (L : Lawful K) where
    -- the bytes of a meaning
    image_of : Meaning K → List ℕ
    image_of m = bytes (L.format.acts m.value) ++ m.trailing

    -- ---- what was read

    record Rewritten (top : Top) (after : Lent) (body : List ℕ) : Type 0 where
      image_is : Image K top after body body
      bytes_are : body ≡ image_of (meaning K top after body)

    trail_of : (t : Tree) (bs rest : List ℕ) → trail K (top_of K t bs rest) (bs ++ rest) ≡ rest
    trail_of t bs rest = rw (L.run_of t (span (length bs) (length rest))) (run_found bs rest)

    trail_within : (t : Tree) (bs rest : List ℕ) → (K.trailing (top_of K t bs rest)).offset + (K.trailing (top_of K t bs rest)).length ≤ length (bs ++ rest)
    trail_within t bs rest = rw (L.run_of t (span (length bs) (length rest))) (omega (arith, length-append bs rest))

    wrote : (t : Tree) (bs rest : List ℕ) → Takes K.program 0 t bs → Every Byte bs → Wrote L.format.Fits L.format.acts (L.format.means (bs ++ rest) t) bs
    wrote t bs rest d b = L.format.back (bs ++ rest) 0 t bs (rw L.reads d) b (here_append [] bs rest)

    -- the payloads of the tree are what the program passes over
    pub passes : (body : List ℕ) (t : Tree) (k : ℕ) → run K.program body 0 ≡ done t k → passed K.program body 0 ≡ K.payloads t
    passes body t k e = rw (← L.reads) (L.format.skipped body 0 t k (rw L.reads e)) ∙ L.spans_so t

    payloads_inside : (t : Tree) (bs rest : List ℕ) → Takes K.program 0 t bs → Every (Within (bs ++ rest)) (K.payloads t)
    payloads_inside t bs rest d =
        let r = takes_run d (here_append [] bs rest) in
        rw (passes (bs ++ rest) t _ r) at (passed_within K.program (bs ++ rest) 0 r)

    taken : (t : Tree) (bs rest : List ℕ) → Takes K.program 0 t bs → Every Byte bs → Taken K L.format t bs rest
    taken t bs rest d b = let w = wrote t bs rest d b in record { takes = d; inside = payloads_inside t bs rest d; fits = w.fits; sound = w.makes.sound }

    rewritten : (t : Tree) (bs rest : List ℕ) (lent : Lent) → Takes K.program 0 t bs → Every Byte bs → lacking (needs (K.tables t)) lent ≡ none
        → Rewritten (top_of K t bs rest) (filled (K.tables t) lent) (bs ++ rest)
    unfolding image_of
    rewritten t bs rest lent d b f =
        let top = top_of K t bs rest in
        let after = filled (K.tables t) lent in
        let v = L.laid t bs rest lent (taken t bs rest d b) f in
        let w = wrote t bs rest d b in
        let c = L.ready t bs rest lent (taken t bs rest d b) f in
        let e : bs ≡ bytes (L.format.acts (K.value top after (bs ++ rest))) = w.makes.is ∙ ap (λ (x : Value). bytes (L.format.acts x)) (sym v) in
        let i : bs ++ rest ≡ bytes (L.format.acts (K.value top after (bs ++ rest))) ++ trail K top (bs ++ rest) = λ j. e j ++ sym (trail_of t bs rest) j in
        record {
          image_is = whole_image top after (bs ++ rest) (bs ++ rest) (trail_within t bs rest)
              (record { sound = c; joins = i ∙ ap (λ (l : List ℕ). l ++ trail K top (bs ++ rest)) (sym (L.spells top after (bs ++ rest) c).same) });
          bytes_are = i;
        }

    of_parts : (body : List ℕ) (t : Tree) (k : ℕ) (lent : Lent) (p : Parted body t k) → Every Byte body → lacking (needs (K.tables t)) lent ≡ none
        → Rewritten (K.top t (tail k body)) (filled (K.tables t) lent) body
    of_parts body t k lent p b f =
        let b' : Every Byte (p.front ++ p.rest) = rw p.joins at b in
        rw (p.joins, p.long, the_tail p.front p.rest) (rewritten t p.front p.rest lent p.takes (every_left Byte p.front p.rest b') f)

    of_read : (body : List ℕ) (lent : Lent) (top : Top) (after : Lent) → Every Byte body → Was K body lent top after → Rewritten top after body
    of_read body lent top after b w =
        let s = w.sound in
        let r = ran_well K body s w.judges in
        rw (w.top_is, w.after_is) at (of_parts body s.tree s.before lent (parted body s.tree s.before r.reads) b w.fits)

    -- ---- what was written

    written_bytes : (top : Top) (lent : Lent) (store b : List ℕ) → Image K top lent store b → b ≡ image_of (meaning K top lent store)
    unfolding image_of
    written_bytes top lent store b e =
        let w = wholly top lent store b e in
        w.joins ∙ ap (λ (l : List ℕ). l ++ trail K top store) (L.spells top lent store w.sound).same

    record Back (b : List ℕ) (v : Value) (rest : List ℕ) : Type 0 where
      tree : Tree
      front : List ℕ
      joins : b ≡ front ++ rest
      takes : Takes K.program 0 tree front
      means : L.format.means b tree ≡ v

    back : (top : Top) (lent : Lent) (store b : List ℕ) → Image K top lent store b → Back b (K.value top lent store) (trail K top store)
    unfolding image_of
    back top lent store b e =
        let w = wholly top lent store b e in
        let v = K.value top lent store in
        let bs = bytes (L.format.acts v) in
        let x = L.spells top lent store w.sound in
        let r = L.format.forth v x.fits x.sound 0 in
        let j = written_bytes top lent store b e in
        record { tree = r.value; front = bs; joins = j; takes = rw L.reads at r.takes; means = r.meant b (rw j (here_append [] bs (trail K top store))) }

    back_runs : {b : List ℕ} {v : Value} {rest : List ℕ} (x : Back b v rest) → run K.program b 0 ≡ done x.tree (length x.front)
    back_runs {rest = rest} x =
        ap (λ (s : List ℕ). run K.program s 0) x.joins ∙ takes_run x.takes (here_append [] x.front rest) ∙ ap (done x.tree) (zero-add (length x.front))

    back_rest : {b : List ℕ} {v : Value} {rest : List ℕ} (x : Back b v rest) → drop (length x.front) b ≡ rest
    back_rest {rest = rest} x = ap (λ (l : List ℕ). drop (length x.front) l) x.joins ∙ drop-append_seam x.front rest

    same_meaning : {b b' : List ℕ} {v v' : Value} {rest rest' : List ℕ} → Back b v rest → Back b' v' rest' → b ≡ b' → (v ≡ v') × (rest ≡ rest')
    same_meaning x y e =
        let q : done x.tree (length x.front) ≡ done y.tree (length y.front) = sym (back_runs x) ∙ ap (λ (s : List ℕ). run K.program s 0) e ∙ back_runs y in
        let t : x.tree ≡ y.tree = cc q in
        let k : length x.front ≡ length y.front = cc q in
        (sym x.means ∙ (λ i. L.format.means (e i) (t i)) ∙ y.means, sym (back_rest x) ∙ (λ i. drop (k i) (e i)) ∙ back_rest y)

    -- a body of which the tree is read means what its tree means
    means_so : (t : Tree) (b front rest : List ℕ) (lent : Lent) (v : Value) → b ≡ front ++ rest → Takes K.program 0 t front → lacking (needs (K.tables t)) lent ≡ none
        → L.format.means b t ≡ v → L.format.Fits v → clean (L.format.acts v) ≡ true
        → meaning K (K.top t (tail (length front) b)) (filled (K.tables t) lent) b ≡ record { value = v; trailing = rest }
    means_so t b front rest lent v j d f m g c =
        let e : L.format.means (front ++ rest) t ≡ v = rw j at m in
        let w : Taken K L.format t front rest = record { takes = d; inside = payloads_inside t front rest d; fits = rw e g; sound = rw e c } in
        rw (j, the_tail front rest) (λ i. record { value = (L.laid t front rest lent w f ∙ e) i; trailing = trail_of t front rest i })

    rereads : (top : Top) (lent : Lent) (store b : List ℕ) → Image K top lent store b → length b ≤ 65535 → (lent' : Lent) → Room K b lent'
        → (top' : Top) × (after : Lent) × (reading K b lent' ≡ leaves (accepted top') after) × (meaning K top' after b ≡ meaning K top lent store)
    rereads top lent store b e h lent' never =
        let x = back top lent store b e in
        let s : Sound Tree = record { tree = x.tree; before = length x.front } in
        let j = judged K b x.tree (length x.front) h (back_runs x) in
        let f = roomy b lent' s j never in
        let y = L.spells top lent store (wholly top lent store b e).sound in
        (_, _, reads_so K b lent' s j f, means_so x.tree b x.front (trail K top store) lent' _ x.joins x.takes f x.means y.fits y.sound)

    -- ---- acceptance

    typed_so : (body : List ℕ) (t : Tree) (k : ℕ) (p : Parted body t k) → Every Byte p.front → length body ≤ 65535 → Every Held (K.bounds (K.top t (tail k body)))
    typed_so body t k p b h =
        let h' : length (p.front ++ p.rest) < 65536 = omega (arith, ap length p.joins) in
        rw (p.joins, p.long, the_tail p.front p.rest) (L.held t p.front p.rest (taken t p.front p.rest p.takes b) h')

    witness : (body : List ℕ) (lent : Lent) (s : Sound Tree) → Every Byte body → Lendable K lent → judging K body ≡ accepted s
        → lacking (needs (K.tables s.tree)) lent ≡ none → Writable K body
    witness body lent s b l j f =
        let r = ran_well K body s j in
        let t = s.tree in
        let p = parted body t s.before r.reads in
        let b' : Every Byte (p.front ++ p.rest) = rw p.joins at b in
        let bf = every_left Byte p.front p.rest b' in
        let n : length lent ≡ length (K.tables t) = l.all_lent ∙ sym (L.all_there t) in
        record {
          top = K.top t (tail s.before body);
          tables = filled (K.tables t) lent;
          store = body;
          typed = typed_so body t s.before p bf r.within;
          lendable = record {
            all_lent = filled_count (K.tables t) lent n ∙ l.all_lent;
            columns = filled_columns (K.tables t) lent (L.columns t p.front p.rest (taken t p.front p.rest p.takes bf) (omega (arith, r.within, ap length p.joins))) l.columns n;
          };
          bytes = b;
          written = (of_parts body t s.before lent p b f).image_is;
        }

    accept : (body : List ℕ) (lent : Lent) → Every Byte body → length body ≤ 65535 → Lendable K lent → Room K body lent
        → (number (reading K body lent).answer ≡ 0) ↔ Writable K body
    unfolding number
    accept body lent b h l never = (λ e. go (view K body lent) e, λ w. read w.top w.tables w.store w.written)
      where
        zero_not : {a c : Answer Top} → number a ≡ 0 → a ≡ c → number c ≡ 0
        zero_not e q = ap number (sym q) ∙ e

        go : View K body lent → number (reading K body lent).answer ≡ 0 → Writable K body
        go (is_read s j f q) e = witness body lent s b l j f
        go (lacks s n j f q) e = absurd (let z : 3 ≡ 0 = zero_not e (answers q) in omega arith)
        go (is_short x j q) e = absurd (let z : 1 ≡ 0 = zero_not e (answers q) in omega arith)
        go (is_long g q) e = absurd (let z : 2 ≡ 0 = zero_not e (answers q) in omega arith)

        read : (top : Top) (tables : Lent) (store : List ℕ) → Image K top tables store body → number (reading K body lent).answer ≡ 0
        read top tables store e = let r = rereads top tables store body e h lent never in ap number (answers r.2)

    pub rewrites : (body : List ℕ) (lent : Lent) (top : Top) (after : Lent) (out : List ℕ) → Every Byte body → reading K body lent ≡ leaves (accepted top) after
        → length body ≤ length out
        → writing K top after body out ≡ puts (Ok (length body)) (body ++ drop (length body) out)
    unfolding writing
    rewrites body lent top after out b e h =
        let w = was K body lent top after e in
        rw (of_read body lent top after b w).image_is (put_done out body refl (ran_well K body w.sound w.judges).within h)

    pub round : Round K
    round = record {
      writes_what_is_read = rewrites;
      reads_what_is_written = rereads;
      acceptance = accept;
      alike = λ top top' lent lent' store store' b b' e e'. (
        λ m. written_bytes top lent store b e ∙ ap image_of m ∙ sym (written_bytes top' lent' store' b' e'),
        λ q. let s = same_meaning (back top lent store b e) (back top' lent' store' b' e') q in λ i. record { value = s.0 i; trailing = s.1 i },
      );
      apart = λ body body' lent lent' top top' after after' b b' e e' m.
          (of_read body lent top after b (was K body lent top after e)).bytes_are ∙ ap image_of m ∙ sym (of_read body' lent' top' after' b' (was K body' lent' top' after' e')).bytes_are;
    }
