-- The layouts read what the Rust's `MpegH3dAudioMultiStream::parse` reads, line by line, and write what its `write` does.
use Prim.Native.Nat.{ℕ, zero, suc, ◌<◌}
use mathlib.Core.Path.{◌≡◌, refl, sym, ◌∙◌}
use mathlib.Core.List.{List, [], ◌∷◌, ◌++◌, append-nil, map, flatten}
use mathlib.Core.Bool.{Bool, true, false, not, ◌&&◌}
use native.Mathlib.Omega.{arith}
use lib.ListN.{get_or}
use lib.Dec.{eqb}
use borrow.Author.Tests.{not-true}
use Rattle.wire.specs.Lists.{each}
use Rattle.wire.specs.Bits.{part, total, split}
use Rattle.wire.specs.Prog.{Prog, ret, look, u8, many, ◌>>=◌}
use Rattle.wire.specs.Act as A
use Rattle.wire.specs.Act.{Act, demand, byte, pick, rows}
use Rattle.wire.specs.declared.pen.Fault.TheVariants as F
use Rattle.wire.specs.Layout.{Columns, end, one, num, reserved, flag, blank, set, put, puts, reads, row, flat, cells, matches, matched, shown, writes, every, has}
use Rattle.wire.proofs.Reading.Runs.{bind_assoc}
use Rattle.wire.proofs.Fields.{part_below}
use Rattle.wire.proofs.Writing.Parts.{within_absent}
use Rattle.frame.specs.Kind.{Lent}
use Rattle.frame.specs.Sight.{head_acts}
use Rattle.frame.specs.Entry.{first_table}
use Rattle.frame.specs.Body.{layouts, parse, inside, pieced, beyond}
use Rattle.frame.proofs.Pieces.{and-true}
use Rattle.stream_groups.specs.Layout as G
use Rattle.multi_stream.specs.declared.rows.MpegH3dAudioMultiStream.{MpegH3dAudioMultiStream}
use Rattle.multi_stream.specs.Layout.{head}
use Rattle.multi_stream.specs.Rows.{MultiStream}
use Rattle.multi_stream.specs.Read as R
use Rattle.multi_stream.specs.Read.{main_of, main, stream_of, multi_stream_over}
use Rattle.multi_stream.specs.Write.{head_fields, within, main_acts, multi_stream_acts}
use Rattle.multi_stream.specs.Kind.{kind}

-- ---- a group: isInMainStream is 0 or 1, and the location follows from it

-- the columns behind the first byte, and whether a second one follows
location : (g : Columns) (v : ℕ) → v < 2 → g 1 ≡ v → g 2 ≡ get_or (1 ∷ 0 ∷ []) v 0 → g 3 ≡ 0 → g 4 ≡ 0
    → ((pick (eqb (get_or (1 ∷ 0 ∷ []) v 0) 1) (reads (one (flag 3 ∷ num 7 4 ∷ []) end) g) (ret g) >>= λ h. ret h) >>= λ h. ret (row 5 h)) ≡ (R.auxiliary (eqb v 1) >>= λ a. ret (g 0 ∷ v ∷ a))
unfolding reads puts put split total R.auxiliary u8 ◌>>=◌ each
location g zero h e₁ e₂ e₃ e₄ = λ i. look 1 (λ x. ret (g 0 ∷ e₁ i ∷ e₂ i ∷ part 7 1 (get_or x 0 0) ∷ part 0 7 (get_or x 0 0) ∷ []))
location g (suc zero) h e₁ e₂ e₃ e₄ = λ i. ret (g 0 ∷ e₁ i ∷ e₂ i ∷ e₃ i ∷ e₄ i ∷ [])
location g (suc (suc v)) h e₁ e₂ e₃ e₄ = absurd (omega arith)

pub group_so : flat 5 G.group ≡ R.group
unfolding G.group reads puts put split total R.group u8 ◌>>=◌
group_so = λ i. look 1 (λ b. location (headed b) (part 0 1 (get_or b 0 0)) (part_below 0 1 (get_or b 0 0)) refl refl refl refl i)
  where
    headed : List ℕ → Columns
    headed b = set 2 (get_or (1 ∷ 0 ∷ []) (part 0 1 (get_or b 0 0)) 0) (puts ((num 7 0 ∷ flag 1 ∷ []) ∷ []) b blank)

-- ---- the body, over any reader of a group

module _ (p : Prog (List ℕ)) where
  abbrev to_groups : Columns → Prog MultiStream
  to_groups g = many (g 5) p >>= λ l. ret (row 6 g, (l, tt))

  body_so : reads head blank >>= to_groups ≡ multi_stream_over p
  unfolding head reads puts put split total main multi_stream_over u8 many ◌>>=◌ each
  body_so = λ i. look 1 (λ b. go (get_or b 0 0) (eqb (part 7 1 (get_or b 0 0)) 1) i)
    where
      headed : ℕ → Columns
      headed b = put (flag 1 ∷ num 7 0 ∷ []) (split (1 ∷ 7 ∷ []) b) blank

      go : (b : ℕ) (x : Bool)
          → ((pick x (reads (one (reserved 1 2 ∷ num 7 3 ∷ []) (one (reserved 1 4 ∷ num 7 5 ∷ []) end)) (headed b)) (ret (headed b)) >>= λ g. ret g) >>= to_groups) ≡ (main p x >>= λ m. ret (stream_of b m))
      go b true = λ i. look 1 (λ a. look 1 (λ g. sym (bind_assoc (many (part 0 7 (get_or g 0 0)) p) (λ l. ret (main_of (get_or a 0 0) (get_or g 0 0) l)) (λ m. ret (stream_of b m))) i))
      go b false = refl

-- the body reads as the Rust's `parse`, over the layout of its rows
pub parse_over : kind.program ≡ multi_stream_over (flat 5 G.group)
unfolding kind parse reads ◌>>=◌
parse_over = body_so (flat 5 G.group)

-- and with that of its rows
pub mirrored : kind.program ≡ R.multi_stream
mirrored = parse_over ∙ (λ i. multi_stream_over (group_so i))

-- ---- and is written as the Rust's `write`

pub written_so : (m : MpegH3dAudioMultiStream) (lent : Lent) (store : List ℕ) → kind.acts m lent store ≡ multi_stream_acts m (first_table lent)
unfolding kind layouts inside pieced beyond multi_stream_acts main_acts A.within head cells matches matched shown writes every has flatten rows each
written_so m lent store = go m m.main.present
  where
    with : MpegH3dAudioMultiStream → Bool → MpegH3dAudioMultiStream
    with m a = record { this_stream_id = m.this_stream_id; main = record { present = a; part = m.main.part }; trailing = m.trailing }

    -- the last piece is empty: neither its rows nor its bytes count
    ends : MpegH3dAudioMultiStream → (Bool → Bool) → (List Act → List Act) → List Act
    ends m t f =
        demand F.Range (t (within m.main (first_table lent))) ∷ demand F.Field true ∷ demand F.Empty true ∷ map byte (head_fields m) ++ f (main_acts m.main (first_table lent))

    case : (m : MpegH3dAudioMultiStream) (a : Bool) → kind.acts (with m a) lent store ≡ ends (with m a) (λ t. t && true) (λ q. q ++ [])
    case m true = refl
    case m false = refl

    go : (m : MpegH3dAudioMultiStream) (a : Bool) → kind.acts (with m a) lent store ≡ multi_stream_acts (with m a) (first_table lent)
    go m a = case m a ∙ λ i. ends (with m a) (λ t. and-true t i) (λ q. append-nil q i)

-- t is table 8
pub acts_are : (m : MpegH3dAudioMultiStream) (t store : List ℕ) → kind.acts m (t ∷ []) store ≡ multi_stream_acts m t
unfolding first_table
acts_are m t store = written_so m (t ∷ []) store

-- without a main part the actions are those of the head alone
pub bare_acts : (m : MpegH3dAudioMultiStream) (t : List ℕ) → not m.main.present ≡ true → multi_stream_acts m t ≡ head_acts (head_fields m)
unfolding multi_stream_acts main_acts
bare_acts m t e = rw (not-true m.main.present e, sym (within_absent false m.main.part.groups 5 t refl))
