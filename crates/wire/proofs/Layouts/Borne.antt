-- Rows that end with a payload, as formats and in their tables. One computed test for each row type.
use Prim.Native.Nat.{ℕ, ◌+◌, ◌/◌, ◌≤◌, ◌<◌}
use mathlib.Core.List.{List, [], ◌∷◌, ◌++◌, append-nil, map, flatten}
use mathlib.Core.Bool.{Bool, true, false, not, ◌&&◌}
use mathlib.Core.Path.{◌≡◌, refl, sym, ap, subst, ◌∙◌}
use native.Mathlib.Omega.{arith}
use lib.ListN.{length, get_or, length-append, length-map}
use lib.Seq.{slice}
use lib.Dec.{eqb, leb, ltb}
use borrow.Author.Tests.{eqb-true, eq-eqb, leb-true, ltb-true, le-leb, not-true}
use Rattle.wire.specs.Lists.{Every, each, Column}
use Rattle.wire.specs.Bits.{field}
use Rattle.wire.specs.Prog.{ret, u8, pass, span, Within, ◌>>=◌}
use Rattle.wire.specs.declared.rows.Payload.{Payload}
use Rattle.wire.specs.Act.{Act, demand, byte, copy, pick}
use Rattle.wire.specs.Pen.{clean, bytes}
use Rattle.wire.specs.declared.pen.Fault.TheVariants as F
use Rattle.wire.specs.Layout.{Cell, end, Columns, of, row, at, reads, writes, shown, cells, matches, matched, every, flagged, counted, has, mix, columns, kept, blank, Bearing, Borne, bearing, borne_bytes, bearing_acts, bearing_means, borne, bearing_heeds, borne_row}
use Rattle.wire.proofs.Writing.Acts.{and_both, both_and, clean_append, clean_both}
use Rattle.wire.proofs.Writing.Passes.{slice_long}
use Rattle.wire.proofs.Tables.{each_length}
use Rattle.wire.proofs.Reading.Takes.{Takes, takes_split, u8_takes, map_takes}
use Rattle.wire.proofs.Layouts.Codec.{Codec, Spells, seen_as, AsFits, prefixed, prefixed_read, prefixed_acts, prefixed_fits}
use Rattle.wire.proofs.Layouts.Cells.{On, sound, clash, every_same, mix_in, both_sound, sound_both}
use Rattle.wire.proofs.Layouts.Forms.{Form, last, hole, form_go, form_means, form_acts, form_shown, form_matches, form_all, form_proper, form_spans, form_shown_in, below, each_every, rows_codec, rows_goes, woven, Fit, Holes, Cleans, alike, means_again, row_spells, row_ready, row_columns}
use Rattle.wire.proofs.Layouts.Rowed.{Wide, Good, row_on, on_all, after_demands, each_wide, found, room_for}

-- a payload with its length stands behind the head; no column steers it
abbrev pub bear_form : Bearing → Form (Payload × Unit {0}) (List ℕ × Unit {0})
bear_form b = hole b.head 0 (λ v. prefixed) (last end)

unfoldable pub bear_test : Bearing → Bool
bear_test b =
    form_proper [] (bear_form b)
    &&
    (below b.width (form_all (bear_form b)) && (not (has b.offset (form_all (bear_form b))) && (not (has b.size (form_all (bear_form b))) && (below b.width (b.offset ∷ b.size ∷ []) && (not (eqb b.size b.offset) && ltb 0 b.width)))))

-- a row that ends with a payload, and that it passes the one test
pub record Bear : Type 0 where
  pub row : Bearing
  pub passes : bear_test row ≡ true

module _ (x : Bear) where
  abbrev b : Bearing
  b = x.row

  abbrev form : Form (Payload × Unit {0}) (List ℕ × Unit {0})
  form = bear_form b

  pub record BearTests : Type 0 where
    pub proper_so : form_proper [] form ≡ true
    pub below_so : below b.width (form_all form) ≡ true
    pub offset_so : has b.offset (form_all form) ≡ false
    pub size_so : has b.size (form_all form) ≡ false
    pub place_so : below b.width (b.offset ∷ b.size ∷ []) ≡ true
    pub two_so : eqb b.size b.offset ≡ false
    pub wide_so : 0 < b.width

  pub t : BearTests
  unfolding bear_test
  t =
      let (a, e₀) = and_both (form_proper [] form) _ x.passes in
      let (c, e₁) = and_both (below b.width (form_all form)) _ e₀ in
      let (d, e₂) = and_both (not (has b.offset (form_all form))) _ e₁ in
      let (f, e₃) = and_both (not (has b.size (form_all form))) _ e₂ in
      let (g, e₄) = and_both (below b.width (b.offset ∷ b.size ∷ [])) _ e₃ in
      let (h, i) = and_both (not (eqb b.size b.offset)) _ e₄ in
      record { proper_so = a; below_so = c; offset_so = not-true _ d; size_so = not-true _ f; place_so = g; two_so = not-true _ h; wide_so = ltb-true _ _ i }

  abbrev with_unit : Codec (List ℕ × (Payload × Unit {0})) (List ℕ × (List ℕ × Unit {0}))
  with_unit = rows_codec b.width form blank t.proper_so t.below_so (λ j h. refl)

  pub bear_same : with_unit.read >>= (λ v. ret (v.0, v.1.0)) ≡ bearing b
  unfolding rows_codec form_go reads prefixed seen_as prefixed_read u8 pass ◌>>=◌
  bear_same = rows_goes b.width form blank t.proper_so t.below_so (λ j h. refl) (λ v. ret (v.0, v.1.0))

  pub bear_spans : (v : List ℕ × (Payload × Unit {0})) → with_unit.spans v ≡ v.1.0 ∷ []
  unfolding rows_codec form_spans prefixed seen_as
  bear_spans v = refl

  -- what was read means its columns and its bytes
  abbrev pub meant : List ℕ → Borne → List ℕ × List ℕ
  meant s v = (v.0, slice v.1.offset (v.1.offset + v.1.length) s)

  unfoldable pub bears : Codec Borne (List ℕ × List ℕ)
  unfolding rows_codec form_means prefixed seen_as
  bears =
      seen_as with_unit (λ v. (v.0, v.1.0)) (bearing b) bear_same (λ v. v.1 ∷ []) bear_spans meant (λ c. (c.0, c.1.0)) (λ d. (d.0, (d.1, tt))) (λ s v. refl)
      (λ c f e. refl)

  -- nothing stands behind the payload
  shown_so : (g : Columns) → form_shown form g ≡ shown b.head g
  unfolding form_shown shown
  shown_so g = append-nil (shown b.head g)

  match_so : (g : Columns) → form_matches form g ≡ matches b.head g
  unfolding form_matches matches
  match_so g = append-nil (matches b.head g)

  -- a length byte and the bytes, as the row's own actions have them
  abbrev run : List ℕ → Columns → List Act
  run store g = byte (field 8 (g b.size) ∷ []) ∷ copy (borne_bytes b store g) ∷ []

  woven_so : (g : Columns) (q : List Act) → woven form g (q, tt) ≡ writes b.head g ++ q
  unfolding woven writes
  woven_so g q = ap (λ (l : List Act). writes b.head g ++ l) (append-nil q)

  -- its actions, if they have no fault, are those of what it means
  pub bear_spells : (store : List ℕ) (g : Columns) → clean (bearing_acts b store g) ≡ true → Spells bears (bearing_acts b store g) (bearing_means b store g)
  unfolding bears seen_as AsFits cells matched clean bytes rows_codec Holes
  bear_spells store g e =
      let (i, e₀) = and_both (leb (g b.offset + g b.size) (length store)) _ e in
      let (d, e₁) = and_both (every flagged g (shown b.head g)) _ e₀ in
      let (f, e₂) = and_both (every counted g (shown b.head g)) _ e₁ in
      let (m, e₃) = clean_both (matches b.head g) _ e₂ in
      let (w, e₄) = clean_both (writes b.head g) _ e₃ in
      let l = borne_bytes b store g in
      let long : length l ≡ g b.size = slice_long (g b.offset) (g b.size) store (leb-true _ _ i) in
      let q : run store g ≡ prefixed.acts l = (λ z. byte (field 8 (sym long z) ∷ []) ∷ copy l ∷ []) ∙ sym (prefixed_acts l) in
      let y : Spells prefixed (run store g) l = record { fits = prefixed_fits l; sound = ap clean (sym q) ∙ e₄; same = ap bytes q } in
      let fit-so : Fit form g = (ap (every sound g) (shown_so g) ∙ both_sound (shown b.head g) g d f, ap clean (match_so g) ∙ m) in
      let s = row_spells b.width form blank t.proper_so t.below_so (λ j h. refl) g (run store g, tt) (l, tt) fit-so (ap clean (woven_so g (run store g)) ∙ e₃) (y, tt) in
      let r : Spells with_unit (woven form g (run store g, tt)) (row b.width (kept (b.head ∷ []) g blank), (l, tt)) =
      subst (λ (cs : List Cell). Spells with_unit (woven form g (run store g, tt)) (row b.width (mix (columns cs) g blank), (l, tt))) (shown_so g) s in
      record { fits = (r.fits, refl); sound = r.sound; same = after_demands (b.head ∷ []) g (writes b.head g ++ run store g) ∙ sym (ap bytes (woven_so g (run store g))) ∙ r.same }

  -- ---- in its table

  pub record Stands (g : Columns) (v : Borne) : Type 0 where
    pub on : On (form_all form) (of v.0) g
    pub offset : g b.offset ≡ v.1.offset
    pub size : g b.size ≡ v.1.length

  pub stands : (v : Borne) (g : Columns) → row b.width g ≡ borne_row b v → Stands g v
  unfolding has
  stands v g e =
      let f : Columns = borne b v.1.offset v.1.length (of v.0) in
      let ks = b.offset ∷ b.size ∷ [] in
      let o = row_on b.width ks t.place_so (borne_row b v) g e in
      let p = row_on b.width ks t.place_so (borne_row b v) f refl in
      let same : eqb b.offset b.offset ≡ true = eq-eqb b.offset b.offset refl in
      let also : eqb b.size b.size ≡ true = eq-eqb b.size b.size refl in
      let there : has b.size ks ≡ true = rw (also, t.two_so) in
      record {
        on = λ j h. plain j h ∙ sym (row_on b.width (form_all form) t.below_so (borne_row b v) f refl j h) ∙ row_on b.width (form_all form) t.below_so (borne_row b v) g e j h;
        offset = sym (o b.offset (rw same)) ∙ p b.offset (rw same) ∙ rw same;
        size = sym (o b.size there) ∙ p b.size there ∙ rw (t.two_so, also);
      }
    where
      plain : (j : ℕ) → has j (form_all form) ≡ true → of v.0 j ≡ borne b v.1.offset v.1.length (of v.0) j
      plain j h = go (eqb j b.offset) refl (eqb j b.size) refl
        where
          go : (y : Bool) → eqb j b.offset ≡ y → (z : Bool) → eqb j b.size ≡ z → of v.0 j ≡ pick y v.1.offset (pick z v.1.length (of v.0 j))
          go true q z r = clash (subst (λ (k : ℕ). has k (form_all form) ≡ true) (eqb-true j b.offset q) h) t.offset_so
          go false q true r = clash (subst (λ (k : ℕ). has k (form_all form) ≡ true) (eqb-true j b.size r) h) t.size_so
          go false q false r = refl

  -- it means what was read
  pub bear_again : (s : List ℕ) (v : Borne) → bears.Fits (meant s v) → (g : Columns) → row b.width g ≡ borne_row b v → bearing_means b s g ≡ meant s v
  unfolding bears seen_as AsFits rows_codec cells
  bear_again s v f g e =
      let y = stands v g e in
      let a = means_again b.width form blank t.proper_so t.below_so (λ j h. refl) (v.0, ((meant s v).1, tt)) f.0 g (on_all form (of v.0) g y.on) in
      let a' : row b.width (kept (b.head ∷ []) g blank) ≡ v.0 = subst (λ (cs : List Cell). row b.width (mix (columns cs) g blank) ≡ v.0) (shown_so g) a in
      λ i. (a' i, slice (y.offset i) (y.offset i + y.size i) s)

  -- and is written without a fault, if its bytes stand in the body
  pub bear_ready : (s : List ℕ) (v : Borne) → Good bears (meant s v) → Within s v.1 → (g : Columns) → row b.width g ≡ borne_row b v → clean (bearing_acts b s g) ≡ true
  unfolding bears seen_as AsFits rows_codec cells matched clean Cleans form_acts
  bear_ready s v (f, e) i g q =
      let y = stands v g q in
      let l = (meant s v).1 in
      let r = row_ready b.width form blank t.proper_so t.below_so (λ j h. refl) (v.0, (l, tt)) f.0 e g (on_all form (of v.0) g y.on) in
      let (c, d) = sound_both (shown b.head g) g (ap (every sound g) (sym (shown_so g)) ∙ r.fit.0) in
      let (_, e₁) = clean_both (writes b.head (of v.0)) _ e in
      let (e₂, _) = clean_both (prefixed.acts l) _ e₁ in
      let k : length l ≡ g b.size = slice_long v.1.offset v.1.length s i ∙ sym y.size in
      let w : clean (run s g) ≡ true = (λ z. clean (byte (field 8 (sym k z) ∷ []) ∷ copy (borne_bytes b s g) ∷ [])) ∙ ap clean (sym (prefixed_acts l)) ∙ e₂ in
      let n : g b.offset + g b.size ≤ length s = omega (arith, y.offset, y.size, i) in
      both_and (le-leb _ _ n)
      (both_and c (both_and d (clean_append (matches b.head g) _ ∙ both_and (ap clean (sym (match_so g)) ∙ r.fit.1) (ap clean (sym (woven_so g (run s g))) ∙ r.sound (run s g, tt) (w, tt)))))

  pub bear_columns : (s : List ℕ) (v : Borne) → Good bears (meant s v) → v.1.offset < 65536 → v.1.length < 65536 → Every Column (borne_row b v)
  unfolding bears seen_as AsFits rows_codec
  bear_columns s v (f, e) o n =
      let h = row_columns b.width form blank t.proper_so t.below_so (λ j h. refl) (λ j. omega arith) (v.0, ((meant s v).1, tt)) f.0 e in
      each_every Column (borne b v.1.offset v.1.length (of v.0)) 0 b.width (λ j. go j (eqb j b.offset) (eqb j b.size) (h j))
    where
      go : (j : ℕ) (y z : Bool) → get_or v.0 j 0 < 65536 → pick y v.1.offset (pick z v.1.length (of v.0 j)) < 65536
      go j true z h = o
      go j false true h = n
      go j false false h = h

  -- of one that was read, whatever its bytes: at least the byte of its length
  pub bear_grows : (at : ℕ) (v : Borne) (bs : List ℕ) → Takes (bearing b) at v bs → (Wide b.width v.0) × (1 ≤ length bs)
  bear_grows at v bs d =
      let u₀ = takes_split {B = Borne} (reads b.head blank) _ d in
      let u₁ = takes_split {B = Borne} u8 _ u₀.second in
      let (p, e, _) = map_takes {B = Borne} (pass u₁.value) (λ p. (row b.width u₀.value, span p u₁.value)) u₁.second in
      let n : length u₁.front ≡ 1 = ap length (u8_takes u₁.first) in
      (subst (λ (v : Borne). Wide b.width v.0) e (each_length u₀.value 0 b.width), omega (arith, n, ap length u₀.joined ∙ length-append u₀.front u₀.back, ap length u₁.joined ∙ length-append u₁.front u₁.back))

  -- ---- a list of them in their table

  pub borne_wide : (vs : List Borne) → Every (Wide b.width) (map (borne_row b) vs)
  borne_wide vs = each_wide b.width (λ (v : Borne). borne b v.1.offset v.1.length (of v.0)) vs

  module _ (vs : List Borne) (behind : List ℕ) where
    abbrev table : List ℕ
    table = flatten (map (borne_row b) vs) ++ behind

    pub borne_found : each (λ i. row b.width (at b.width table i)) 0 (length vs) ≡ map (borne_row b) vs
    borne_found =
        subst (λ (m : ℕ). each (λ i. row b.width (at b.width table i)) 0 m ≡ map (borne_row b) vs) (length-map vs (borne_row b))
        (found b.width (map (borne_row b) vs) (borne_wide vs) behind)

    pub borne_room : length vs ≤ length table / b.width
    borne_room = omega (arith, room_for b.width (map (borne_row b) vs) behind t.wide_so (borne_wide vs), length-map vs (borne_row b))

  -- ---- what writing reads of it decides its actions

  row_kept : (f : Columns) (j : ℕ) → has j (columns (form_shown form f)) ≡ true → f j ≡ of (bearing_heeds b f) j
  unfolding cells
  row_kept f j e = go (has j (form_all form)) refl
    where
      k : Columns
      k = kept (b.head ∷ []) f blank

      off : (y z : Bool) → eqb j b.offset ≡ y → eqb j b.size ≡ z → has j (form_all form) ≡ true → pick y (f b.offset) (pick z (f b.size) (k j)) ≡ k j
      off true z p q h = clash (ap (λ (i : ℕ). has i (form_all form)) (sym (eqb-true j b.offset p)) ∙ h) t.offset_so
      off false true p q h = clash (ap (λ (i : ℕ). has i (form_all form)) (sym (eqb-true j b.size q)) ∙ h) t.size_so
      off false false p q h = refl

      mixed : k j ≡ f j
      mixed = mix_in (columns (shown b.head f)) f blank j (subst (λ (cs : List Cell). has j (columns cs) ≡ true) (shown_so f) e)

      go : (y : Bool) → has j (form_all form) ≡ y → f j ≡ of (bearing_heeds b f) j
      go true q =
          sym
          (row_on b.width (form_all form) t.below_so (bearing_heeds b f) (borne b (f b.offset) (f b.size) k) refl j q ∙ off (eqb j b.offset) (eqb j b.size) refl refl q ∙ mixed)
      go false q = clash e (form_shown_in form f j q)

  bear_kept : (store : List ℕ) (f : Columns) → bearing_acts b store f ≡ bearing_acts b store (of (bearing_heeds b f))
  unfolding cells matched has
  bear_kept store f =
      let h = of (bearing_heeds b f) in
      let k = kept (b.head ∷ []) f blank in
      let o : On (columns (form_shown form f)) f h = row_kept f in
      let a = alike b.width form blank t.proper_so t.below_so (λ j h. refl) f h o in
      let c : shown b.head f ≡ shown b.head h = sym (shown_so f) ∙ a.cells ∙ shown_so h in
      let m : matches b.head f ≡ matches b.head h = sym (match_so f) ∙ a.matched ∙ match_so h in
      let o' : On (columns (shown b.head f)) f h = subst (λ (cs : List Cell). On (columns cs) f h) (shown_so f) o in
      let ks = b.offset ∷ b.size ∷ [] in
      let p = row_on b.width ks t.place_so (bearing_heeds b f) (borne b (f b.offset) (f b.size) k) refl in
      let same : eqb b.offset b.offset ≡ true = eq-eqb b.offset b.offset refl in
      let also : eqb b.size b.size ≡ true = eq-eqb b.size b.size refl in
      let i₀ : f b.offset ≡ h b.offset = sym (p b.offset (rw same) ∙ rw same) in
      let s₀ : f b.size ≡ h b.size = sym (p b.size (rw (also, t.two_so)) ∙ rw (t.two_so, also)) in
      let w : writes b.head f ++ run store f ≡ writes b.head h ++ run store h =
      sym (woven_so f (run store f)) ∙ a.acts (run store f, tt) ∙ woven_so h (run store f)
      ∙ (λ z. writes b.head h ++ (byte (field 8 (s₀ z) ∷ []) ∷ copy (slice (i₀ z) (i₀ z + s₀ z) store) ∷ [])) in
      λ z. demand F.Range (leb (i₀ z + s₀ z) (length store))
      ∷ demand F.Field ((every_same flagged (shown b.head f) o' ∙ ap (every flagged h) c) z)
      ∷ demand F.Empty ((every_same counted (shown b.head f) o' ∙ ap (every counted h) c) z)
      ∷ (m z ++ w z)

  pub bear_heeds : (store : List ℕ) (f g : Columns) → bearing_heeds b f ≡ bearing_heeds b g → bearing_acts b store f ≡ bearing_acts b store g
  bear_heeds store f g e = bear_kept store f ∙ ap (λ (r : List ℕ). bearing_acts b store (of r)) e ∙ sym (bear_kept store g)
