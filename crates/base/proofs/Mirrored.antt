-- The layout reads and writes the body as the Rust's own functions do, line by line.
use Prim.Native.Nat.{ℕ, zero, suc, ◌-◌, ◌<◌}
use mathlib.Core.Path.{◌≡◌, refl, ap, ◌∙◌}
use mathlib.Core.List.{List, flatten}
use mathlib.Core.Bool.{Bool, true, false, not}
use native.Mathlib.Omega.{arith}
use lib.ListN.{get_or}
use lib.Dec.{eqb}
use borrow.Author.Tests.{not-true}
use Rattle.wire.specs.Lists.{each}
use Rattle.wire.specs.Bits.{part, total, split}
use Rattle.wire.specs.Prog.{ret, look, u8, ◌>>=◌}
use Rattle.wire.specs.Layout.{put, puts, reads, cells, matches, matched, shown, writes, every, has}
use Rattle.wire.proofs.Fields.{part_below}
use Rattle.frame.specs.Kind.{Lent}
use Rattle.frame.specs.Sight.{head_acts}
use Rattle.frame.specs.Body.{layouts, carried, parse, inside, pieced}
use Rattle.base.specs.declared.rows.MpegH3dAudio.{MpegH3dAudio}
use Rattle.base.specs.Layout.{head}
use Rattle.base.specs.Read as R
use Rattle.base.specs.Read.{sets, columns_of}
use Rattle.base.specs.Write.{head_fields, sets_acts, base_acts}
use Rattle.base.specs.Kind.{kind}

-- a flag upside down
pub turned : (v : ℕ) → v < 2 → eqb (1 - v) 1 ≡ not (eqb v 1)
turned zero h = refl
turned (suc zero) h = refl
turned (suc (suc v)) h = absurd (omega arith)

-- the flag steers the sets as the Rust reads them
sets_so : (v : ℕ) → v < 2 → carried (eqb (1 - v) 1) ≡ sets (eqb v 1)
unfolding carried sets
sets_so v h = ap carried (turned v h) ∙ go (eqb v 1)
  where
    go : (b : Bool) → carried (not b) ≡ sets b
    go true = refl
    go false = refl

pub mirrored : kind.program ≡ R.base
unfolding kind parse head reads puts put split total each R.base u8 ◌>>=◌
mirrored = λ i. look 1 (λ a. look 1 (λ b. look 1 (λ c.
    sets_so (part 6 1 (get_or b 0 0)) (part_below 6 1 (get_or b 0 0)) i >>= λ s. ret (columns_of (get_or a 0 0) (get_or b 0 0) (get_or c 0 0), (s, tt)))))

pub written_so : (m : MpegH3dAudio) (store : List ℕ) (lent : Lent) → kind.acts m lent store ≡ base_acts m store
unfolding kind layouts inside pieced base_acts sets_acts head cells matches matched shown writes every has flatten
written_so m store lent = go m.interactivity_enabled m.compatible_sets.present
  where
    with : Bool → Bool → MpegH3dAudio
    with a b = record {
      profile_level_indication = m.profile_level_indication;
      interactivity_enabled = a;
      compatible_sets = record { present = b; indications = m.compatible_sets.indications };
      reserved_flags = m.reserved_flags;
      reserved_layout = m.reserved_layout;
      reference_channel_layout = m.reference_channel_layout;
      trailing = m.trailing;
    }

    go : (a b : Bool) → kind.acts (with a b) lent store ≡ base_acts (with a b) store
    go true true = refl
    go true false = refl
    go false true = refl
    go false false = refl

-- without sets the actions are those of the head alone
pub bare_acts : (m : MpegH3dAudio) (store : List ℕ) → not m.compatible_sets.present ≡ true → base_acts m store ≡ head_acts (head_fields m)
unfolding base_acts sets_acts
bare_acts m store e = rw (not-true m.compatible_sets.present e)
